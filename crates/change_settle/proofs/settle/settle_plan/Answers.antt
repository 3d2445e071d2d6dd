use Rattle.std.proofs.Common.{◌≡◌, map, filter_map, sym, ap, ◌∙◌, subst}
use Rattle.std.specs.List.{AllByRecursion, Contains}
use Rattle.list_laws.proofs.Alls.{all_unmap}
use Rattle.list_laws.proofs.Truths.{if_err-from_same}
use Rattle.tree_fs.specs.Disk.{Disk}
use Rattle.tree_fs.specs.Spot.{spot_of}
use Rattle.tree_fs.specs.Story.{disk_of}
use Rattle.backup_keep.specs.Asides.{IsNextAside}
use Rattle.backup_keep.specs.Places.{aside_folder}
use Rattle.manifest_json.specs.declared.manifest.Manifest.{Manifest}
use Rattle.manifest_json.specs.Paths.{AreRising}
use Rattle.manifest_json.specs.Records.{paths_of}
use Rattle.manifest_json.specs.Sound.{IsRow}
use Rattle.change_choices.specs.Choice.{choice as chosen}
use Rattle.change_detect.specs.Changes.{changes_by}
use Rattle.change_detect.specs.Classes.{class_of}
use Rattle.desk_model.specs.Settled.{Choice}
use Rattle.purge_run.specs.Refusals.{HasAsideRoom}
use Rattle.change_settle.specs.Above.{AreAbove, AreLooked, AreAllAbove, AreMissingAbove}
use Rattle.change_settle.specs.Plans.{CanSettle, SettlePlan}
use Rattle.change_settle.specs.Rows.{EmptiesFile, HasItsFile}
use Rattle.change_settle.specs.Refusals.{SetsSomeAside, IsSettleRefusal}
use Rattle.change_settle.specs.Steps.{IsAsideRefusal, IsFirstOf, IsOpen, Refuses, SavesSome, TellsFor, step_task}
use Rattle.change_settle.specs.Tasks.{step_row, step_seen, steps_of, task_restored, task_row, task_seen, tasks_by, tasks_of, told}
use Rattle.change_settle.proofs.Above.{spots_same}
use Rattle.change_settle.proofs.ListsOf.{emptied_stand, files_there, rows_of_steps}
use Rattle.change_settle.proofs.Settles.{all_above, by_aside, by_tree, by_walk, can_settle, missing_above, plan_leads, plan_sound, some-saves, steps_are, tells_all}
use Rattle.change_settle.proofs.settle.settle_plan.Goals as goal

pub tasks-requires-clause-order : goal.tasks-requires-clause-order
tasks-requires-clause-order g c = subst (λ l. AreRising (paths_of l)) (sym c.as_slice-rows.ensures.same) c.as_slice-rows.ensures.kept.rise

pub restored_places-requires : goal.restored_places-requires
restored_places-requires g c =
    all_unmap IsRow task_row c.deref.result.now (subst (AllByRecursion IsRow) (sym (ap (map task_row) c.deref.ensures.value ∙ c.in_ok-tasks.ensures.rows ∙ c.as_slice-rows.ensures.same)) c.as_slice-rows.ensures.kept.good)

pub steps-requires-clause-rows : goal.steps-requires-clause-rows
steps-requires-clause-rows g c =
    all_unmap IsRow task_row c.deref-5.result.now (subst (AllByRecursion IsRow) (sym (ap (map task_row) c.deref-5.ensures.value ∙ c.in_ok-tasks.ensures.rows ∙ c.as_slice-rows.ensures.same)) c.as_slice-rows.ensures.kept.good)

pub steps-requires-clause-told : goal.steps-requires-clause-told
steps-requires-clause-told g c tells =
    let choices = c.requires.answers.0 in
    let gives = c.requires.answers.1 in
    let start = g.T.Tree.story c.args.tree.now in
    let a : Disk = disk_of start in
    let old : Manifest = c.args.old.now in
    let choice : Choice = chosen choices in
    let tasks = c.in_ok-tasks.tasks.items in
    let tasks_at : map task_seen tasks ≡ tasks_of choice a old.rows =
    c.in_ok-tasks.ensures.deeds choices (class_of a) gives (c.requires.changes tells ∙ ap (changes_by (class_of a)) (sym c.as_slice-rows.ensures.same)) ∙ ap (tasks_by choice (class_of a)) c.as_slice-rows.ensures.same in
    let looked_same : g.T.Tree.story c.look_at.new.tree ≡ start = c.in_ok-looked.ensures.same tells in
    let restored = map spot_of c.in_ok-restored.restored.items in
    let above = map spot_of c.in_ok-above.above.items in
    let missing = map spot_of c.in_ok-looked.looked.missing.items in
    let taken = map spot_of c.in_ok-looked.looked.blocked.items in
    let restored_are : restored ≡ filter_map task_restored (map task_seen tasks) = c.in_ok-restored.ensures ∙ ap (λ l. filter_map task_restored (map task_seen l)) c.deref.ensures.value in
    let above_are : AreAbove restored above = subst (λ l. AreAbove (map spot_of l) above) c.deref-2.ensures.value c.in_ok-above.ensures.are in
    let looked : AreLooked a above missing taken = subst (λ l. AreLooked a (map spot_of l) missing taken) c.deref-3.ensures.value (c.in_ok-looked.ensures.looked tells) in
    let now = c.deref-5.result.now in
    subst (λ s. AllByRecursion (TellsFor (disk_of s) (map spot_of c.deref-4.result.now)) (map task_seen now)) (sym looked_same)
    (subst (λ l. AllByRecursion (TellsFor a (map spot_of l)) (map task_seen now)) (sym c.deref-4.ensures.value)
    (tells_all a (map task_seen now) restored above missing taken (map spot_of c.in_ok-blocked.blocked.items) (restored_are ∙ ap (λ l. filter_map task_restored (map task_seen l)) (sym c.deref-5.ensures.value)) above_are looked
    (spots_same c.in_ok-blocked.blocked.items c.in_ok-looked.looked.blocked.items c.in_ok-blocked.ensures.same)))

pub returns-in_err-looked-clause-refused : goal.returns-in_err-looked-clause-refused
returns-in_err-looked-clause-refused g c tells = λ choices gives.
    let a = disk_of (g.T.Tree.story c.args.tree.now) in
    if_err-from_same (IsSettleRefusal (chosen choices) a c.args.old.now.rows) c.from_residual-in_err-looked.result _ c.from_residual-in_err-looked.ensures.1 (by_tree (chosen choices) a c.args.old.now.rows c.in_err-looked.field-0.0)

pub returns-in_err-steps-clause-refused : goal.returns-in_err-steps-clause-refused
returns-in_err-steps-clause-refused g c tells = λ choices gives.
    let start = g.T.Tree.story c.args.tree.now in
    let a : Disk = disk_of start in
    let old : Manifest = c.args.old.now in
    let choice : Choice = chosen choices in
    let tasks = c.in_ok-tasks.tasks.items in
    let tasks_at : map task_seen tasks ≡ tasks_of choice a old.rows =
    c.in_ok-tasks.ensures.deeds choices (class_of a) gives (c.requires.changes tells ∙ ap (changes_by (class_of a)) (sym c.as_slice-rows.ensures.same)) ∙ ap (tasks_by choice (class_of a)) c.as_slice-rows.ensures.same in
    let e = c.in_err-steps.field-0.0 in
    let looked_same : g.T.Tree.story c.look_at.new.tree ≡ start = c.in_ok-looked.ensures.same tells in
    let tasks_now : map task_seen c.deref-5.result.now ≡ tasks_of choice a old.rows = ap (map task_seen) c.deref-5.ensures.value ∙ tasks_at in
    if_err-from_same (IsSettleRefusal choice a old.rows) c.from_residual-in_err-steps.result e c.from_residual-in_err-steps.ensures.1
    (by_walk choice a old.rows c.as_slice-rows.ensures.kept.rise e (subst (λ l. Refuses (IsFirstOf a l) e) tasks_now (subst (λ s. Refuses (IsFirstOf (disk_of s) (map task_seen c.deref-5.result.now)) e) looked_same (c.in_err-steps.ensures.refused tells))))

pub returns-in_err-aside-clause-refused : goal.returns-in_err-aside-clause-refused
returns-in_err-aside-clause-refused g c tells = λ choices gives.
    let start = g.T.Tree.story c.args.tree.now in
    let a : Disk = disk_of start in
    let old : Manifest = c.args.old.now in
    let choice : Choice = chosen choices in
    let tasks = c.in_ok-tasks.tasks.items in
    let tasks_at : map task_seen tasks ≡ tasks_of choice a old.rows =
    c.in_ok-tasks.ensures.deeds choices (class_of a) gives (c.requires.changes tells ∙ ap (changes_by (class_of a)) (sym c.as_slice-rows.ensures.same)) ∙ ap (tasks_by choice (class_of a)) c.as_slice-rows.ensures.same in
    let looked_same : g.T.Tree.story c.look_at.new.tree ≡ start = c.in_ok-looked.ensures.same tells in
    let tasks_now : map task_seen c.deref-5.result.now ≡ tasks_of choice a old.rows = ap (map task_seen) c.deref-5.ensures.value ∙ tasks_at in
    let steps_same : g.T.Tree.story c.steps.new.tree ≡ start = c.in_ok-steps.ensures.same tells ∙ looked_same in
    let open_all : AllByRecursion (IsOpen a) (tasks_of choice a old.rows) = subst (AllByRecursion (IsOpen a)) tasks_now (subst (λ s. AllByRecursion (IsOpen (disk_of s)) (map task_seen c.deref-5.result.now)) looked_same (c.in_ok-steps.ensures.open tells)) in
    let steps = c.in_ok-steps.steps.items in
    let step_tasks : map step_task steps ≡ tasks_of choice a old.rows = c.in_ok-steps.ensures.tasks ∙ tasks_now in
    let step_tasks_now : map step_task c.deref-6.result.now ≡ tasks_of choice a old.rows = ap (map step_task) c.deref-6.ensures.value ∙ step_tasks in
    let e = c.in_err-aside.field-0.0 in
    let there = c.in_err-aside.ensures.refused tells in
    if_err-from_same (IsSettleRefusal choice a old.rows) c.from_residual-in_err-aside.result e c.from_residual-in_err-aside.ensures.1
    (by_aside choice a old.rows open_all e (subst SavesSome step_tasks_now there.0) (subst (λ s. IsAsideRefusal (disk_of s) e) steps_same there.1))

pub returns-in_err-plan-clause-refused : goal.returns-in_err-plan-clause-refused
returns-in_err-plan-clause-refused g c tells = λ choices gives.
    let a = disk_of (g.T.Tree.story c.args.tree.now) in
    if_err-from_same (IsSettleRefusal (chosen choices) a c.args.old.now.rows) c.from_residual-in_err-plan.result _ c.from_residual-in_err-plan.ensures.1 (by_tree (chosen choices) a c.args.old.now.rows c.in_err-plan.field-0.0)

pub plan_of-requires-clause-rows : goal.plan_of-requires-clause-rows
plan_of-requires-clause-rows g c =
    let step_rows : map step_row c.in_ok-steps.steps.items ≡ c.args.old.now.rows =
    rows_of_steps c.in_ok-steps.steps.items c.in_ok-tasks.tasks.items c.args.old.now.rows (c.in_ok-steps.ensures.tasks ∙ ap (map task_seen) c.deref-5.ensures.value) (c.in_ok-tasks.ensures.rows ∙ c.as_slice-rows.ensures.same) in
    ap (map step_row) c.deref-7.ensures.value ∙ step_rows

pub plan_of-requires-clause-above : goal.plan_of-requires-clause-above
plan_of-requires-clause-above g c =
    let tasks = c.in_ok-tasks.tasks.items in
    let restored = map spot_of c.in_ok-restored.restored.items in
    let above = map spot_of c.in_ok-above.above.items in
    let missing = map spot_of c.in_ok-looked.looked.missing.items in
    let restored_are : restored ≡ filter_map task_restored (map task_seen tasks) = c.in_ok-restored.ensures ∙ ap (λ l. filter_map task_restored (map task_seen l)) c.deref.ensures.value in
    let above_are : AreAbove restored above = subst (λ l. AreAbove (map spot_of l) above) c.deref-2.ensures.value c.in_ok-above.ensures.are in
    let step_tasks : map step_task c.deref-7.result.now ≡ map task_seen tasks = ap (map step_task) c.deref-7.ensures.value ∙ c.in_ok-steps.ensures.tasks ∙ ap (map task_seen) c.deref-5.ensures.value in
    subst (λ l. AreAllAbove l missing) (restored_are ∙ ap (filter_map task_restored) (sym step_tasks))
    (all_above restored above missing above_are (λ s k. subst (λ l. Contains (map spot_of l) s) c.deref-3.ensures.value (c.in_ok-looked.ensures.among s k)))

pub plan_of-requires-clause-told : goal.plan_of-requires-clause-told
plan_of-requires-clause-told g c tells =
    let choices = c.requires.answers.0 in
    let gives = c.requires.answers.1 in
    let start = g.T.Tree.story c.args.tree.now in
    let a : Disk = disk_of start in
    let old : Manifest = c.args.old.now in
    let choice : Choice = chosen choices in
    let tasks = c.in_ok-tasks.tasks.items in
    let tasks_at : map task_seen tasks ≡ tasks_of choice a old.rows =
    c.in_ok-tasks.ensures.deeds choices (class_of a) gives (c.requires.changes tells ∙ ap (changes_by (class_of a)) (sym c.as_slice-rows.ensures.same)) ∙ ap (tasks_by choice (class_of a)) c.as_slice-rows.ensures.same in
    let looked_same : g.T.Tree.story c.look_at.new.tree ≡ start = c.in_ok-looked.ensures.same tells in
    let tasks_now : map task_seen c.deref-5.result.now ≡ tasks_of choice a old.rows = ap (map task_seen) c.deref-5.ensures.value ∙ tasks_at in
    let steps_same : g.T.Tree.story c.steps.new.tree ≡ start = c.in_ok-steps.ensures.same tells ∙ looked_same in
    let open_all : AllByRecursion (IsOpen a) (tasks_of choice a old.rows) = subst (AllByRecursion (IsOpen a)) tasks_now (subst (λ s. AllByRecursion (IsOpen (disk_of s)) (map task_seen c.deref-5.result.now)) looked_same (c.in_ok-steps.ensures.open tells)) in
    let steps = c.in_ok-steps.steps.items in
    let step_tasks : map step_task steps ≡ tasks_of choice a old.rows = c.in_ok-steps.ensures.tasks ∙ tasks_now in
    let step_tasks_now : map step_task c.deref-6.result.now ≡ tasks_of choice a old.rows = ap (map step_task) c.deref-6.ensures.value ∙ step_tasks in
    let n = c.in_ok-aside.aside.number in
    let last : g.T.Tree.story c.aside_for.new.tree ≡ start = c.in_ok-aside.ensures.same tells ∙ steps_same in
    let next : SavesSome (tasks_of choice a old.rows) → IsNextAside a n = subst (λ l. SavesSome l → IsNextAside a n) step_tasks_now (subst (λ s. SavesSome (map step_task c.deref-6.result.now) → IsNextAside (disk_of s) n) steps_same (c.in_ok-aside.ensures.next tells)) in
    let room : SavesSome (tasks_of choice a old.rows) → HasAsideRoom a = subst (λ l. SavesSome l → HasAsideRoom a) step_tasks_now (subst (λ s. SavesSome (map step_task c.deref-6.result.now) → HasAsideRoom (disk_of s)) steps_same (c.in_ok-aside.ensures.room tells)) in
    let can : CanSettle choice a old n = can_settle choices a old n (g.met.T.Tree.valid c.args.tree.now tells) c.as_slice-rows.ensures.kept c.as_slice.ensures.kept (c.requires.told tells) next open_all room in
    let now : map step_task c.deref-7.result.now ≡ tasks_of choice a old.rows = ap (map step_task) c.deref-7.ensures.value ∙ step_tasks in
    subst (λ s. AllByRecursion (λ k. HasItsFile (disk_of s) (step_task k)) c.deref-7.result.now) (sym last) (files_there choice a old n can c.deref-7.result.now now)

pub plan_of-requires-clause-stood : goal.plan_of-requires-clause-stood
plan_of-requires-clause-stood g c tells =
    let choices = c.requires.answers.0 in
    let gives = c.requires.answers.1 in
    let start = g.T.Tree.story c.args.tree.now in
    let a : Disk = disk_of start in
    let old : Manifest = c.args.old.now in
    let choice : Choice = chosen choices in
    let tasks = c.in_ok-tasks.tasks.items in
    let tasks_at : map task_seen tasks ≡ tasks_of choice a old.rows =
    c.in_ok-tasks.ensures.deeds choices (class_of a) gives (c.requires.changes tells ∙ ap (changes_by (class_of a)) (sym c.as_slice-rows.ensures.same)) ∙ ap (tasks_by choice (class_of a)) c.as_slice-rows.ensures.same in
    let looked_same : g.T.Tree.story c.look_at.new.tree ≡ start = c.in_ok-looked.ensures.same tells in
    let tasks_now : map task_seen c.deref-5.result.now ≡ tasks_of choice a old.rows = ap (map task_seen) c.deref-5.ensures.value ∙ tasks_at in
    let steps_same : g.T.Tree.story c.steps.new.tree ≡ start = c.in_ok-steps.ensures.same tells ∙ looked_same in
    let open_all : AllByRecursion (IsOpen a) (tasks_of choice a old.rows) = subst (AllByRecursion (IsOpen a)) tasks_now (subst (λ s. AllByRecursion (IsOpen (disk_of s)) (map task_seen c.deref-5.result.now)) looked_same (c.in_ok-steps.ensures.open tells)) in
    let steps = c.in_ok-steps.steps.items in
    let step_tasks : map step_task steps ≡ tasks_of choice a old.rows = c.in_ok-steps.ensures.tasks ∙ tasks_now in
    let step_tasks_now : map step_task c.deref-6.result.now ≡ tasks_of choice a old.rows = ap (map step_task) c.deref-6.ensures.value ∙ step_tasks in
    let n = c.in_ok-aside.aside.number in
    let last : g.T.Tree.story c.aside_for.new.tree ≡ start = c.in_ok-aside.ensures.same tells ∙ steps_same in
    let next : SavesSome (tasks_of choice a old.rows) → IsNextAside a n = subst (λ l. SavesSome l → IsNextAside a n) step_tasks_now (subst (λ s. SavesSome (map step_task c.deref-6.result.now) → IsNextAside (disk_of s) n) steps_same (c.in_ok-aside.ensures.next tells)) in
    let room : SavesSome (tasks_of choice a old.rows) → HasAsideRoom a = subst (λ l. SavesSome l → HasAsideRoom a) step_tasks_now (subst (λ s. SavesSome (map step_task c.deref-6.result.now) → HasAsideRoom (disk_of s)) steps_same (c.in_ok-aside.ensures.room tells)) in
    let can : CanSettle choice a old n = can_settle choices a old n (g.met.T.Tree.valid c.args.tree.now tells) c.as_slice-rows.ensures.kept c.as_slice.ensures.kept (c.requires.told tells) next open_all room in
    let seen : map step_seen c.deref-7.result.now ≡ steps_of choice a old.rows =
    ap (map step_seen) c.deref-7.ensures.value ∙ c.in_ok-steps.ensures.answer tells ∙ ap (λ s. map (told (disk_of s)) (map task_seen c.deref-5.result.now)) looked_same ∙ ap (map (told a)) tasks_now ∙ steps_are choice a old.rows in
    subst (λ s. AllByRecursion (λ k. EmptiesFile (disk_of s) (step_seen k)) c.deref-7.result.now) (sym last) (emptied_stand choice a old n can c.deref-7.result.now seen)

pub returns-clause-planned : goal.returns-clause-planned
returns-clause-planned g c tells = λ choices gives.
    let start = g.T.Tree.story c.args.tree.now in
    let a : Disk = disk_of start in
    let old : Manifest = c.args.old.now in
    let choice : Choice = chosen choices in
    let tasks = c.in_ok-tasks.tasks.items in
    let tasks_at : map task_seen tasks ≡ tasks_of choice a old.rows =
    c.in_ok-tasks.ensures.deeds choices (class_of a) gives (c.requires.changes tells ∙ ap (changes_by (class_of a)) (sym c.as_slice-rows.ensures.same)) ∙ ap (tasks_by choice (class_of a)) c.as_slice-rows.ensures.same in
    let looked_same : g.T.Tree.story c.look_at.new.tree ≡ start = c.in_ok-looked.ensures.same tells in
    let tasks_now : map task_seen c.deref-5.result.now ≡ tasks_of choice a old.rows = ap (map task_seen) c.deref-5.ensures.value ∙ tasks_at in
    let steps_same : g.T.Tree.story c.steps.new.tree ≡ start = c.in_ok-steps.ensures.same tells ∙ looked_same in
    let open_all : AllByRecursion (IsOpen a) (tasks_of choice a old.rows) = subst (AllByRecursion (IsOpen a)) tasks_now (subst (λ s. AllByRecursion (IsOpen (disk_of s)) (map task_seen c.deref-5.result.now)) looked_same (c.in_ok-steps.ensures.open tells)) in
    let steps = c.in_ok-steps.steps.items in
    let step_tasks : map step_task steps ≡ tasks_of choice a old.rows = c.in_ok-steps.ensures.tasks ∙ tasks_now in
    let step_tasks_now : map step_task c.deref-6.result.now ≡ tasks_of choice a old.rows = ap (map step_task) c.deref-6.ensures.value ∙ step_tasks in
    let n = c.in_ok-aside.aside.number in
    let last : g.T.Tree.story c.aside_for.new.tree ≡ start = c.in_ok-aside.ensures.same tells ∙ steps_same in
    let next : SavesSome (tasks_of choice a old.rows) → IsNextAside a n = subst (λ l. SavesSome l → IsNextAside a n) step_tasks_now (subst (λ s. SavesSome (map step_task c.deref-6.result.now) → IsNextAside (disk_of s) n) steps_same (c.in_ok-aside.ensures.next tells)) in
    let room : SavesSome (tasks_of choice a old.rows) → HasAsideRoom a = subst (λ l. SavesSome l → HasAsideRoom a) step_tasks_now (subst (λ s. SavesSome (map step_task c.deref-6.result.now) → HasAsideRoom (disk_of s)) steps_same (c.in_ok-aside.ensures.room tells)) in
    let can : CanSettle choice a old n = can_settle choices a old n (g.met.T.Tree.valid c.args.tree.now tells) c.as_slice-rows.ensures.kept c.as_slice.ensures.kept (c.requires.told tells) next open_all room in
    let restored = map spot_of c.in_ok-restored.restored.items in
    let above = map spot_of c.in_ok-above.above.items in
    let missing = map spot_of c.in_ok-looked.looked.missing.items in
    let taken = map spot_of c.in_ok-looked.looked.blocked.items in
    let restored_are : restored ≡ filter_map task_restored (map task_seen tasks) = c.in_ok-restored.ensures ∙ ap (λ l. filter_map task_restored (map task_seen l)) c.deref.ensures.value in
    let above_are : AreAbove restored above = subst (λ l. AreAbove (map spot_of l) above) c.deref-2.ensures.value c.in_ok-above.ensures.are in
    let looked : AreLooked a above missing taken = subst (λ l. AreLooked a (map spot_of l) missing taken) c.deref-3.ensures.value (c.in_ok-looked.ensures.looked tells) in
    let seen : map step_seen c.deref-7.result.now ≡ steps_of choice a old.rows =
    ap (map step_seen) c.deref-7.ensures.value ∙ c.in_ok-steps.ensures.answer tells ∙ ap (λ s. map (told (disk_of s)) (map task_seen c.deref-5.result.now)) looked_same ∙ ap (map (told a)) tasks_now ∙ steps_are choice a old.rows in
    let gone : AreMissingAbove a (filter_map task_restored (tasks_of choice a old.rows)) missing = subst (λ l. AreMissingAbove a l missing) (restored_are ∙ ap (filter_map task_restored) tasks_at) (missing_above a restored above missing taken above_are looked) in
    let there : SetsSomeAside choice a old.rows → c.in_ok-aside.aside.is_there ≡ a.folders aside_folder =
    λ some. c.in_ok-aside.ensures.there tells (subst SavesSome (sym step_tasks_now) (some-saves choice a old.rows some)) ∙ ap (λ s. (disk_of s).folders aside_folder) steps_same in
    record {
      number = n;
      can = can;
      is =
          subst (λ s. (choice : Choice) → CanSettle choice (disk_of s) old n → map step_seen c.deref-7.result.now ≡ steps_of choice (disk_of s) old.rows → AreMissingAbove (disk_of s) (filter_map task_restored (tasks_of choice (disk_of s) old.rows)) missing
          → (SetsSomeAside choice (disk_of s) old.rows → c.in_ok-aside.aside.is_there ≡ (disk_of s).folders aside_folder) → SettlePlan choice (disk_of s) old n c.in_ok-plan.plan) last (c.in_ok-plan.ensures.planned tells) choice can seen gone there;
    }

pub returns-clause-passes : goal.returns-clause-passes
returns-clause-passes g c tells = λ choices gives. (returns-clause-planned g c tells choices gives).can.passes

pub returns-clause-sound : goal.returns-clause-sound
returns-clause-sound g c tells =
    plan_sound (chosen c.requires.answers.0) (disk_of (g.T.Tree.story c.args.tree.now)) c.args.old.now c.in_ok-plan.plan (returns-clause-planned g c tells c.requires.answers.0 c.requires.answers.1)

pub returns-clause-leads : goal.returns-clause-leads
returns-clause-leads g c tells = λ choices gives own.
    plan_leads (chosen choices) (disk_of (g.T.Tree.story c.args.tree.now)) c.args.old.now c.in_ok-plan.plan (returns-clause-planned g c tells choices gives) own
