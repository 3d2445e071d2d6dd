use Rattle.std.proofs.Common.{◌≡◌, None, map, sym, ap, ◌∙◌, subst}
use Rattle.std.specs.List.{AllByRecursion}
use Rattle.list_laws.proofs.Alls.{all_unmap}
use Rattle.list_laws.proofs.Truths.{if_err-from_same}
use Rattle.tree_fs.specs.Story.{disk_of}
use Rattle.backup_keep.specs.Asides.{IsNextAside}
use Rattle.backup_keep.specs.Places.{aside_folder}
use Rattle.manifest_json.specs.Sound.{IsRow}
use Rattle.purge_run.specs.declared.cases.RowCase.{RowCase}
use Rattle.purge_run.specs.Plans.{CanPurge, PurgePlan}
use Rattle.purge_run.specs.Refusals.{first_in_the_way, HasAsideRoom, IsPurgeRefusal}
use Rattle.purge_run.specs.Told.{told, case_seen, HasOver}
use Rattle.purge_run.specs.Looks.{RefusedByRows, RefusedByAside}
use Rattle.purge_run.proofs.Composed.{map_none}
use Rattle.purge_run.proofs.Looked.{rows_refuse, aside_refuses, over_sets, sets_over}
use Rattle.purge_run.proofs.Purges.{can_purge, plan_sound, plan_leads}
use Rattle.purge_run.proofs.purge.purge_plan.Goals as goal

pub cases-requires : goal.cases-requires
cases-requires g c = subst (AllByRecursion IsRow) (sym c.as_slice-rows.ensures.same) c.as_slice-rows.ensures.kept.good

pub returns-in_err-cases-clause-refused : goal.returns-in_err-cases-clause-refused
returns-in_err-cases-clause-refused g c tells =
    let a = disk_of (g.T.Tree.story c.args.tree.now) in
    let rows = c.args.old.now.rows in
    let e = c.in_err-cases.field-0.0 in
    if_err-from_same (IsPurgeRefusal a rows) c.from_residual.result e c.from_residual.ensures.1
    (rows_refuse a rows e (subst (λ l. RefusedByRows a l e) c.as_slice-rows.ensures.same (c.in_err-cases.ensures.refused tells)))

pub returns-in_err-aside-clause-refused : goal.returns-in_err-aside-clause-refused
returns-in_err-aside-clause-refused g c tells =
    let a = disk_of (g.T.Tree.story c.args.tree.now) in
    let rows = c.args.old.now.rows in
    let e = c.in_err-aside.field-0.0 in
    let same : g.T.Tree.story c.cases.new.tree ≡ g.T.Tree.story c.args.tree.now = c.in_ok-cases.ensures.same tells in
    let at : map case_seen c.deref.result.now ≡ map (told a) rows = ap (map case_seen) c.deref.ensures.value ∙ c.in_ok-cases.ensures.answer tells ∙ ap (map (told a)) c.as_slice-rows.ensures.same in
    let there = c.in_err-aside.ensures.refused tells in
    if_err-from_same (IsPurgeRefusal a rows) c.from_residual-in_err-aside.result e c.from_residual-in_err-aside.ensures.1
    (aside_refuses a rows e (subst (λ l. first_in_the_way a l ≡ None) c.as_slice-rows.ensures.same (c.in_ok-cases.ensures.free tells)) (over_sets a rows (subst HasOver at there.0)) (subst (λ s. RefusedByAside (disk_of s) e) same there.1))

pub plan_of-requires-clause-good : goal.plan_of-requires-clause-good
plan_of-requires-clause-good g c =
    all_unmap IsRow (λ (k : RowCase). k.row.now) c.deref-2.result.now
    (subst (AllByRecursion IsRow) (sym (ap (map (λ (k : RowCase). k.row.now)) c.deref-2.ensures.value ∙ c.in_ok-cases.ensures.rows ∙ c.as_slice-rows.ensures.same)) c.as_slice-rows.ensures.kept.good)

pub plan_of-requires-clause-can : goal.plan_of-requires-clause-can
plan_of-requires-clause-can g c tells =
    let start = g.T.Tree.story c.args.tree.now in
    let a = disk_of start in
    let old = c.args.old.now in
    let same : g.T.Tree.story c.cases.new.tree ≡ start = c.in_ok-cases.ensures.same tells in
    let still : g.T.Tree.story c.aside_for.new.tree ≡ start = c.in_ok-aside.ensures.same tells ∙ same in
    let at : map case_seen c.deref.result.now ≡ map (told a) old.rows = ap (map case_seen) c.deref.ensures.value ∙ c.in_ok-cases.ensures.answer tells ∙ ap (map (told a)) c.as_slice-rows.ensures.same in
    subst (λ s. CanPurge (disk_of s) old c.in_ok-aside.aside.number) (sym still)
    (can_purge a old c.in_ok-aside.aside.number (map case_seen c.deref.result.now) at (g.met.T.Tree.valid c.args.tree.now tells) c.as_slice-rows.ensures.kept c.as_slice.ensures.kept
    (subst (λ l. first_in_the_way a l ≡ None) c.as_slice-rows.ensures.same (c.in_ok-cases.ensures.free tells))
    (subst (λ s. HasOver (map case_seen c.deref.result.now) → IsNextAside (disk_of s) c.in_ok-aside.aside.number) same (c.in_ok-aside.ensures.next tells))
    (subst (λ s. HasOver (map case_seen c.deref.result.now) → HasAsideRoom (disk_of s)) same (c.in_ok-aside.ensures.room tells)))

pub plan_of-requires-clause-cases : goal.plan_of-requires-clause-cases
plan_of-requires-clause-cases g c tells =
    let start = g.T.Tree.story c.args.tree.now in
    let still : g.T.Tree.story c.aside_for.new.tree ≡ start = c.in_ok-aside.ensures.same tells ∙ c.in_ok-cases.ensures.same tells in
    ap (map case_seen) c.deref-2.ensures.value ∙ c.in_ok-cases.ensures.answer tells ∙ ap (map (told (disk_of start))) c.as_slice-rows.ensures.same ∙ ap (λ s. map (told (disk_of s)) c.args.old.now.rows) (sym still)

pub plan_of-requires-clause-there : goal.plan_of-requires-clause-there
plan_of-requires-clause-there g c tells some =
    let start = g.T.Tree.story c.args.tree.now in
    let a = disk_of start in
    let rows = c.args.old.now.rows in
    let same : g.T.Tree.story c.cases.new.tree ≡ start = c.in_ok-cases.ensures.same tells in
    let still : g.T.Tree.story c.aside_for.new.tree ≡ g.T.Tree.story c.cases.new.tree = c.in_ok-aside.ensures.same tells in
    let last = disk_of (g.T.Tree.story c.aside_for.new.tree) in
    let at : map case_seen c.deref.result.now ≡ map (told last) rows =
    ap (map case_seen) c.deref.ensures.value ∙ c.in_ok-cases.ensures.answer tells ∙ ap (map (told a)) c.as_slice-rows.ensures.same ∙ ap (λ s. map (told (disk_of s)) rows) (sym (still ∙ same)) in
    c.in_ok-aside.ensures.there tells (subst HasOver (sym at) (sets_over last rows some)) ∙ ap (λ s. (disk_of s).folders aside_folder) (sym still)

pub returns-clause-planned : goal.returns-clause-planned
returns-clause-planned g c tells =
    let start = g.T.Tree.story c.args.tree.now in
    let a = disk_of start in
    let old = c.args.old.now in
    let same : g.T.Tree.story c.cases.new.tree ≡ start = c.in_ok-cases.ensures.same tells in
    let still : g.T.Tree.story c.aside_for.new.tree ≡ start = c.in_ok-aside.ensures.same tells ∙ same in
    let at : map case_seen c.deref.result.now ≡ map (told a) old.rows = ap (map case_seen) c.deref.ensures.value ∙ c.in_ok-cases.ensures.answer tells ∙ ap (map (told a)) c.as_slice-rows.ensures.same in
    record {
      number = c.in_ok-aside.aside.number;
      can =
          can_purge a old c.in_ok-aside.aside.number (map case_seen c.deref.result.now) at (g.met.T.Tree.valid c.args.tree.now tells) c.as_slice-rows.ensures.kept c.as_slice.ensures.kept
          (subst (λ l. first_in_the_way a l ≡ None) c.as_slice-rows.ensures.same (c.in_ok-cases.ensures.free tells))
          (subst (λ s. HasOver (map case_seen c.deref.result.now) → IsNextAside (disk_of s) c.in_ok-aside.aside.number) same (c.in_ok-aside.ensures.next tells))
          (subst (λ s. HasOver (map case_seen c.deref.result.now) → HasAsideRoom (disk_of s)) same (c.in_ok-aside.ensures.room tells));
      is = subst (λ s. PurgePlan (disk_of s) old c.in_ok-aside.aside.number c.in_ok-plan_of.field-0) still (c.in_ok-plan_of.ensures.planned tells);
    }

pub returns-clause-passes : goal.returns-clause-passes
returns-clause-passes g c tells = (returns-clause-planned g c tells).can.passes

pub returns-clause-sound : goal.returns-clause-sound
returns-clause-sound g c tells = plan_sound (disk_of (g.T.Tree.story c.args.tree.now)) c.args.old.now c.in_ok-plan_of.field-0 (returns-clause-planned g c tells)

pub returns-clause-leads : goal.returns-clause-leads
returns-clause-leads g c tells own = plan_leads (disk_of (g.T.Tree.story c.args.tree.now)) c.args.old.now c.in_ok-plan_of.field-0 (returns-clause-planned g c tells) own

pub returns-clause-idle : goal.returns-clause-idle
returns-clause-idle g c no_rows no_own =
    c.in_ok-plan_of.ensures.idle (c.deref-2.ensures.value ∙ map_none (λ (k : RowCase). k.row.now) _ (c.in_ok-cases.ensures.rows ∙ c.as_slice-rows.ensures.same ∙ no_rows)) no_own
