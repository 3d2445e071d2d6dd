use Rattle.std.proofs.Common.{◌≡◌, ◌⊎◌, ◌↔◌, Some, List, map, filter_map, refl, sym, ap, ◌∙◌, subst}
use Rattle.std.specs.List.{AllByRecursion, Contains}
use Rattle.list_laws.proofs.Alls.{all_among}
use Rattle.rel_paths.specs.Names.{IsFreePath}
use Rattle.tree_fs.specs.Disk.{Disk, IsFile}
use Rattle.tree_fs.specs.Spot.{Spot, spot_of}
use Rattle.tree_fs.specs.Places.{game_spot}
use Rattle.tree_fs.specs.Story.{disk_of}
use Rattle.manifest_json.specs.declared.manifest.Manifest.{Manifest}
use Rattle.manifest_json.specs.Sound.{AreRows}
use Rattle.move_plan.specs.declared.plan.Plan.{Plan}
use Rattle.move_plan.specs.declared.plan.SetRow.{SetRow}
use Rattle.move_plan.specs.Rising.{AreRising}
use Rattle.plan_model.specs.Moves.{Move}
use Rattle.plan_model.specs.Lists.{spotted}
use Rattle.plan_lists.specs.Off.{GoesByOwn, AreParted}
use Rattle.plan_lists.specs.Order.{HasSameSpots}
use Rattle.plan_lists.proofs.Gathered.{map_itself}
use Rattle.plan_lists.proofs.Ordered.{same_spots}
use Rattle.change_settle.specs.Above.{game_paths, IsAsideAbove}
use Rattle.change_settle.specs.Lists.{saved_by, IsFunction}
use Rattle.change_settle.specs.Rows.{HasItsFile}
use Rattle.change_settle.specs.Steps.{step_task}
use Rattle.change_settle.specs.Tasks.{step_row, step_seen, step_set, step_clear, step_holding, step_emptied, steps_of, tasks_of, task_restored, task_next}
use Rattle.change_settle.proofs.Composed.{AreLists, planned, sets_function}
use Rattle.change_settle.proofs.Listed.{sets_told}
use Rattle.change_settle.proofs.ListsOf.{emptied_files, good_steps, tasks_from, rows_from, made_free}
use Rattle.change_settle.proofs.NextRows.{left_kept}
use Rattle.change_settle.proofs.plan.plan_of.Goals as goal

pub sets_of-requires : goal.sets_of-requires
sets_of-requires g c = good_steps c.args.steps.now c.args.old.now.rows c.requires.rows c.requires.kept

pub clears_of-requires : goal.clears_of-requires
clears_of-requires g c = good_steps c.args.steps.now c.args.old.now.rows c.requires.rows c.requires.kept

pub emptied_paths-requires : goal.emptied_paths-requires
emptied_paths-requires g c = good_steps c.args.steps.now c.args.old.now.rows c.requires.rows c.requires.kept

pub own_folders-requires-clause-stood : goal.own_folders-requires-clause-stood
own_folders-requires-clause-stood g c tells =
    let a = disk_of (g.T.Tree.story c.args.tree.now) in
    let emptied = c.in_ok-emptied.emptied.items in
    let same : HasSameSpots (map game_spot emptied) (filter_map step_emptied (map step_seen c.args.steps.now)) =
    subst (HasSameSpots (map game_spot emptied)) c.in_ok-emptied_paths.ensures (same_spots c.in_ok-emptied_paths.field-0.items emptied c.in_ok-emptied.ensures.same) in
    subst (AllByRecursion (λ p. IsFile a (game_spot p))) (sym c.deref-3.ensures.value) (emptied_files a c.args.steps.now emptied same (c.requires.stood tells))

pub next_rows-requires-clause-rows : goal.next_rows-requires-clause-rows
next_rows-requires-clause-rows g c = good_steps c.args.steps.now c.args.old.now.rows c.requires.rows c.requires.kept

pub next_rows-requires-clause-told : goal.next_rows-requires-clause-told
next_rows-requires-clause-told g c tells = subst (λ s. AllByRecursion (λ k. HasItsFile (disk_of s) (step_task k)) c.args.steps.now) (sym (c.in_ok-own.ensures.same tells)) (c.requires.told tells)

pub own_after-requires-clause-kept : goal.own_after-requires-clause-kept
own_after-requires-clause-kept g c =
    all_among IsFreePath c.args.old.now.folders c.in_ok-own.own.kept.items (λ p h. subst (λ l. Contains l p) c.as_slice.ensures.same (c.in_ok-own.ensures.kept p h)) c.as_slice.ensures.kept.good

pub own_after-requires-clause-made : goal.own_after-requires-clause-made
own_after-requires-clause-made g c =
    let saves = c.in_ok-saves.saves.items in
    let made = c.in_ok-made.made.items in
    let missing = c.args.missing.items in
    let there = c.args.is_there in
    let are : (s : Spot) → (Contains (map spot_of made) s ↔ Contains (map spot_of missing) s ⊎ IsAsideAbove there saves s) = subst (λ l. (s : Spot) → (Contains (map spot_of made) s ↔ Contains (map spot_of missing) s ⊎ IsAsideAbove there l s)) c.deref-2.ensures.value c.in_ok-made.ensures.are in
    subst (λ l. AllByRecursion IsFreePath (game_paths l)) (sym c.deref-5.ensures.value)
    (made_free c.args.number c.args.steps.now c.args.old.now.rows c.requires.rows c.requires.kept c.in_ok-sets.sets.items saves c.in_ok-sets.ensures.same (c.in_ok-saves.ensures ∙ ap (filter_map saved_by) c.deref.ensures.value) missing made there c.requires.above are)

pub new-rows-requires : goal.new-rows-requires
new-rows-requires g c = left_kept (map step_row c.args.steps.now) c.in_ok-next_rows.field-0.items c.in_ok-next_rows.ensures.left (subst AreRows (sym c.requires.rows) c.requires.kept)

pub returns-clause-planned : goal.returns-clause-planned
returns-clause-planned g c tells = λ choice can at gone is_there.
    let start = g.T.Tree.story c.args.tree.now in
    let a : Disk = disk_of start in
    let old : Manifest = c.args.old.now in
    let n = c.args.number in
    let steps = c.args.steps.now in
    let tasks : map step_task steps ≡ tasks_of choice a old.rows = tasks_from choice a steps old.rows at in
    let folders = c.in_ok-folders.folders in
    let manifest : Manifest = record { rows = c.new-rows.result; folders = folders } in
    let plan : Plan = record { folders = c.new.result; saves = c.new-2.result; sets = c.new-3.result; manifest = Some manifest; clears = c.new-4.result; folders_off = c.new-5.result } in
    let sets = c.in_ok-sets.sets.items in
    let saves = c.in_ok-saves.saves.items in
    let clears = c.in_ok-clears.clears.items in
    let made = c.in_ok-made.made.items in
    let missing = c.args.missing.items in
    let held = c.in_ok-held.held.items in
    let emptied = c.in_ok-emptied.emptied.items in
    let kept = c.in_ok-own.own.kept.items in
    let off = c.in_ok-own.own.off.items in
    let own = c.as_slice.result.now in
    let there = c.args.is_there in
    let own_is : own ≡ old.folders = c.as_slice.ensures.same in
    let held_is : map (λ p. p) c.as_slice-2.result.now ≡ held = map_itself c.as_slice-2.result.now ∙ c.as_slice-2.ensures.value in
    let set_list : List (Spot × Move) = filter_map (step_set n) (steps_of choice a old.rows) in
    let sets_at : filter_map (step_set n) (map step_seen steps) ≡ set_list = ap (filter_map (step_set n)) at in
    let saves_are : saves ≡ filter_map saved_by sets = c.in_ok-saves.ensures ∙ ap (filter_map saved_by) c.deref.ensures.value in
    let clears_at : filter_map (step_clear n) (map step_seen steps) ≡ filter_map (step_clear n) (steps_of choice a old.rows) = ap (filter_map (step_clear n)) at in
    let lists : AreLists choice a old n plan folders = record {
      is_there = there;
      there = is_there;
      restored = filter_map task_restored (tasks_of choice a old.rows);
      restored_are = refl;
      missing = map spot_of missing;
      missing_are = gone;
      held = held;
      held_are = λ p. subst (λ l. Contains held p ↔ Contains l p) (c.in_ok-held_paths.ensures ∙ ap (filter_map step_holding) at) (c.in_ok-held.ensures.same p);
      emptied = emptied;
      emptied_are = λ x. subst (λ l. Contains (map game_spot emptied) x ↔ Contains l x) (c.in_ok-emptied_paths.ensures ∙ ap (filter_map step_emptied) at) (same_spots c.in_ok-emptied_paths.field-0.items emptied c.in_ok-emptied.ensures.same x);
      kept = kept;
      off = off;
      sets = λ v. subst (λ l. Contains (map spotted l) v ↔ Contains set_list v) (sym c.new-3.ensures) (subst (λ l. Contains (map spotted sets) v ↔ Contains l v) sets_at (c.in_ok-sets.ensures.same v));
      sets_rise = subst (λ l. AreRising (map (λ (row : SetRow). row.to) l)) (sym c.new-3.ensures) (c.in_ok-sets.ensures.rise (subst IsFunction (sym (sets_at ∙ sets_told a n choice old.rows)) (sets_function choice a old n can)));
      saves = c.new-2.ensures ∙ saves_are ∙ ap (filter_map saved_by) (sym c.new-3.ensures);
      clears = λ x. subst (λ l. Contains (map spot_of l) x ↔ Contains (filter_map (step_clear n) (steps_of choice a old.rows)) x) (sym c.new-4.ensures) (subst (λ l. Contains (map spot_of clears) x ↔ Contains l x) clears_at (c.in_ok-clears.ensures.same x));
      clears_rise = subst AreRising (sym c.new-4.ensures) c.in_ok-clears.ensures.rise;
      made = λ s. subst (λ l. Contains (map spot_of l) s ↔ Contains (map spot_of missing) s ⊎ IsAsideAbove there c.new-2.result s) (sym c.new.ensures)
          (subst (λ l. Contains (map spot_of made) s ↔ Contains (map spot_of missing) s ⊎ IsAsideAbove there l s) (c.deref-2.ensures.value ∙ sym c.new-2.ensures) (c.in_ok-made.ensures.are s));
      made_rise = subst AreRising (sym c.new.ensures) c.in_ok-made.ensures.rise;
      parted = λ p by.
          let there = c.in_ok-own.ensures.answer tells p
          (subst (λ l. GoesByOwn a l (map (λ p. p) c.as_slice-2.result.now) c.deref-3.result.now p) (sym own_is)
          (subst (λ l. GoesByOwn a old.folders l c.deref-3.result.now p) (sym held_is)
          (subst (λ l. GoesByOwn a old.folders held l p) (sym c.deref-3.ensures.value) by))) in
          subst (λ l. AreParted a l held p l kept off) own_is (subst (λ l. AreParted a own l p own kept off) held_is there);
      offs = ap (map spot_of) c.new-5.ensures ∙ c.in_ok-folders_off.ensures ∙ ap (map game_spot) c.deref-4.ensures.value;
      falling = c.in_ok-own.ensures.falling;
      joined = λ p. subst (λ l. Contains folders p ↔ Contains kept p ⊎ Contains (map spot_of l) (game_spot p)) (c.deref-5.ensures.value ∙ sym c.new.ensures) (c.in_ok-folders.ensures.same p);
      next_rise = c.in_ok-folders.ensures.rise;
    } in
    planned choice a old n c.ranges.number.fits can plan folders lists manifest refl
    (c.new-rows.ensures ∙ c.in_ok-next_rows.ensures.answer tells ∙ ap (λ s. filter_map (task_next (disk_of s)) (map step_task steps)) (c.in_ok-own.ensures.same tells) ∙ ap (filter_map (task_next a)) tasks ∙ rows_from choice a old.rows)
    refl
