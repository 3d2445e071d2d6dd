use Rattle.desk_model.specs.Standing.{Standing}
use Rattle.intent_journal.proofs.StandTemps.{temped_stands, change_stands}
use Rattle.std.proofs.Common.{ap, arith, Some, sym, subst, List, ℕ, OnOk}
use Rattle.intent_journal.specs.Counts.{folder_count, SyncsAtMost}
use Rattle.intent_journal.proofs.Counting.{syncs_more, syncs_trans}
use Rattle.tree_fs.specs.Story.{disk_of}
use Rattle.tree_fs.proofs.Moments.{along_last}
use Rattle.intent_journal.specs.declared.temp.Temp.{Temp}
use Rattle.intent_journal.specs.declared.temp.Temp.TheVariants as temp
use Rattle.intent_journal.specs.Temps.{place_spot, with_temp, Temped, Installs, IsFileOrAbsent, IsWritten, IsInstalled}
use Rattle.tree_fs.specs.Story.{Along}
use Rattle.intent_journal.proofs.Changing.{place_kept, temps_between, then_installs, on_text, only_temps, only_installs}
use Rattle.intent_journal.proofs.journal.change.Goals as goal

pub install-requires-clause-place : goal.install-requires-clause-place
install-requires-clause-place g c = λ told.
    let s = g.T.Tree.story c.args.tree.now in
    let t = g.T.Tree.story c.write_temp.new.tree in
    subst (λ (which : Temp). IsFileOrAbsent (disk_of t) (place_spot which)) (sym c.in-Ok.ensures.guard)
    (place_kept (disk_of s) (disk_of t) (along_last (Temped temp.Intent (disk_of s)) s t (c.write_temp.ensures.stops told)) (c.requires.start told).place)

pub returns-in-Ok-clause-stops : goal.returns-in-Ok-clause-stops
returns-in-Ok-clause-stops g c = λ told was next is firm holds.
    let s = g.T.Tree.story c.args.tree.now in
    let t = g.T.Tree.story c.write_temp.new.tree in
    let u = g.T.Tree.story c.install.new.tree in
    let text = c.args.text.now in
    let guard = c.in-Ok.ensures.guard in
    let w = c.in-Ok.ensures.done told in
    then_installs was next text s t u (g.met.T.Tree.valid _ told) firm holds is (c.write_temp.ensures.stops told) w
    (subst (λ (which : Temp). Along (Installs which (disk_of t)) t u) guard (c.install.ensures.stops told text (subst (λ (which : Temp). IsWritten which text (disk_of t)) (sym guard) w)))

pub returns-in-Err-clause-stops : goal.returns-in-Err-clause-stops
returns-in-Err-clause-stops g c = λ told was next is firm holds. temps_between was (Some next) _ _ (g.met.T.Tree.valid _ told) firm holds (c.write_temp.ensures.stops told)

pub returns-in-Ok-clause-syncs : goal.returns-in-Ok-clause-syncs
returns-in-Ok-clause-syncs g c = λ told. syncs_trans 0 1 _ _ _ (c.write_temp.ensures.syncs told) (subst (λ n. SyncsAtMost n (g.T.Tree.story c.write_temp.new.tree) (g.T.Tree.story c.install.new.tree)) (ap folder_count c.in-Ok.ensures.guard) (c.install.ensures.syncs told))

pub returns-in-Err-clause-syncs : goal.returns-in-Err-clause-syncs
returns-in-Err-clause-syncs g c = λ told. syncs_more 0 1 _ _ (omega arith) (c.write_temp.ensures.syncs told)

pub returns-in-Ok-clause-only : goal.returns-in-Ok-clause-only
returns-in-Ok-clause-only g c = λ told.
    let s = g.T.Tree.story c.args.tree.now in
    let t = g.T.Tree.story c.write_temp.new.tree in
    let u = g.T.Tree.story c.install.new.tree in
    let guard = c.in-Ok.ensures.guard in
    let w = c.in-Ok.ensures.done told in
    only_installs s t u (c.write_temp.ensures.stops told)
    (subst (λ (which : Temp). Along (Installs which (disk_of t)) t u) guard (c.install.ensures.stops told c.args.text.now (subst (λ (which : Temp). IsWritten which c.args.text.now (disk_of t)) (sym guard) w)))

pub returns-in-Err-clause-only : goal.returns-in-Err-clause-only
returns-in-Err-clause-only g c = λ told. only_temps (g.T.Tree.story c.args.tree.now) _ (c.write_temp.ensures.stops told)

pub returns-in-Ok-clause-done : goal.returns-in-Ok-clause-done
returns-in-Ok-clause-done g c = λ told.
    let t = g.T.Tree.story c.write_temp.new.tree in
    let u = g.T.Tree.story c.install.new.tree in
    let r = c.install.result in
    let done = subst (λ (which : Temp). OnOk r ((x : List ℕ) → IsWritten which x (disk_of t) → IsInstalled which x (disk_of u))) c.in-Ok.ensures.guard (c.install.ensures.done told) in
    on_text r c.args.text.now (λ (x : List ℕ). IsWritten temp.Intent x (disk_of t)) (λ (x : List ℕ). IsInstalled temp.Intent x (disk_of u)) (c.in-Ok.ensures.done told) done

pub returns-in-Ok-clause-stands : goal.returns-in-Ok-clause-stands
returns-in-Ok-clause-stands g c = λ told standing with_text.
    let s = g.T.Tree.story c.args.tree.now in
    let t = g.T.Tree.story c.write_temp.new.tree in
    let u = g.T.Tree.story c.install.new.tree in
    let text = c.args.text.now in
    let guard = c.in-Ok.ensures.guard in
    let w = c.in-Ok.ensures.done told in
    let install : Standing (with_temp temp.Intent (disk_of t)) → Along Standing t u =
    subst (λ (which : Temp). Standing (with_temp which (disk_of t)) → Along Standing t u) guard (c.install.ensures.stands told text (subst (λ (which : Temp). IsWritten which text (disk_of t)) (sym guard) w)) in
    change_stands text s t u standing with_text (c.write_temp.ensures.stops told) w install

pub returns-in-Err-clause-stands : goal.returns-in-Err-clause-stands
returns-in-Err-clause-stands g c = λ told standing _. temped_stands temp.Intent _ _ standing (c.write_temp.ensures.stops told)
