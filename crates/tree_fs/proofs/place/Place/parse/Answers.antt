use Rattle.std.proofs.Common.{Some, None, arith, sym, ◌∙◌, refl}
use Rattle.std.proofs.lemmas.Str.Pattern.{split_parts}
use Rattle.tree_fs.proofs.Parses.{place_fault-unnamed, place_fault-unnamed_root, place_fault-named}
use Rattle.tree_fs.proofs.place.Place.parse.Goals as goal

pub returns-in-None-named-clause-err : goal.returns-in-None-named-clause-err
returns-in-None-named-clause-err c other =
    let lacks = split_parts 47 c.args.text.now None c.in-None.ensures.cases (omega arith) in
    place_fault-unnamed_root c.args.text.now lacks (sym c.in-None-named.is ∙ c.named.ensures)

pub returns-in-None-named-clause-fault : goal.returns-in-None-named-clause-fault
returns-in-None-named-clause-fault c = rw (returns-in-None-named-clause-err c (λ memory. cc)) refl

pub returns-in-Some-named-2-clause-fault : goal.returns-in-Some-named-2-clause-fault
returns-in-Some-named-2-clause-fault c =
    let parts = split_parts 47 c.args.text.now (Some (c.in-Some.word, c.in-Some.path)) c.in-Some.ensures.cases (omega arith) in
    rw (place_fault-named c.args.text.now c.in-Some.word.now c.in-Some.path.now c.in-Some-named-2.root parts.0 parts.1 (sym c.in-Some-named-2.is ∙ c.named-in-Some.ensures)) c.place_below.ensures.fault

pub returns-in-None-named-2-clause-err : goal.returns-in-None-named-2-clause-err
returns-in-None-named-2-clause-err c other =
    let parts = split_parts 47 c.args.text.now (Some (c.in-Some.word, c.in-Some.path)) c.in-Some.ensures.cases (omega arith) in
    place_fault-unnamed c.args.text.now c.in-Some.word.now c.in-Some.path.now parts.0 parts.1 (sym c.in-None-named-2.is ∙ c.named-in-Some.ensures)

pub returns-in-None-named-2-clause-fault : goal.returns-in-None-named-2-clause-fault
returns-in-None-named-2-clause-fault c = rw (returns-in-None-named-2-clause-err c (λ memory. cc)) refl
