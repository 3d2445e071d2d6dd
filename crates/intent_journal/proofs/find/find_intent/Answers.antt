use Rattle.std.proofs.Common.{◌≡◌, ◌≢◌, ◌∙◌, ap, rules}
use Rattle.tree_fs.specs.declared.name.Kind.TheVariants.{Absent}
use Rattle.tree_fs.specs.Disk.{kind_of}
use Rattle.tree_fs.specs.Story.{disk_of}
use Rattle.desk_model.specs.Places.{intent_spot}
use Rattle.intent_journal.proofs.Finding.{file_by, file_still, found_some, found_bad}
use Rattle.intent_journal.proofs.find.find_intent.Goals as goal

pub control_bytes-requires : goal.control_bytes-requires
control_bytes-requires g c = λ told.
    let ne : c.in_ok-kind.field-0 ≢ Absent = search rules in
    let d = disk_of (g.T.Tree.story c.args.tree.now) in
    let answer : c.in_ok-kind.field-0 ≡ kind_of d intent_spot = c.in_ok-kind.ensures.answer told ∙ ap (kind_of d) c.control.ensures in
    file_still d _ intent_spot (ap disk_of (c.in_ok-kind.ensures.same told)) (λ is. ne (answer ∙ is)) (c.requires told)

pub returns-in-Some-clause-found : goal.returns-in-Some-clause-found
returns-in-Some-clause-found g c = λ told.
    let ne : c.in_ok-kind.field-0 ≢ Absent = search rules in
    let d = disk_of (g.T.Tree.story c.args.tree.now) in
    let e = disk_of (g.T.Tree.story c.kind.new.self) in
    let answer : c.in_ok-kind.field-0 ≡ kind_of d intent_spot = c.in_ok-kind.ensures.answer told ∙ ap (kind_of d) c.control.ensures in
    found_some d e (ap disk_of (c.in_ok-kind.ensures.same told)) (file_by d intent_spot (λ is. ne (answer ∙ is)) (c.requires told))
    c.deref.result.now (c.deref.ensures.value ∙ c.in_ok-bytes.ensures.answer told) c.in_ok-intent.field-0 c.in_ok-intent.ensures.value c.in_ok-intent.ensures.exact c.in-Some.intent c.in-Some.is

pub returns-clause-bad : goal.returns-clause-bad
returns-clause-bad g c = λ told _.
    let ne : c.in_ok-kind.field-0 ≢ Absent = search rules in
    let d = disk_of (g.T.Tree.story c.args.tree.now) in
    let e = disk_of (g.T.Tree.story c.kind.new.self) in
    let answer : c.in_ok-kind.field-0 ≡ kind_of d intent_spot = c.in_ok-kind.ensures.answer told ∙ ap (kind_of d) c.control.ensures in
    found_bad d e (ap disk_of (c.in_ok-kind.ensures.same told)) (file_by d intent_spot (λ is. ne (answer ∙ is)) (c.requires told))
    c.deref.result.now (c.deref.ensures.value ∙ c.in_ok-bytes.ensures.answer told) c.in_ok-intent.field-0 c.in_ok-intent.ensures.value c.in_ok-intent.ensures.exact c.in-None.is
