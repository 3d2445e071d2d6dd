use Rattle.std.proofs.Common.{◌≡◌, ◌++◌, Some, List, ℕ, map, filter_map, refl, sym, ap, ◌∙◌, subst}
use Rattle.std.specs.List.{AllByRecursion, Contains}
use Rattle.list_laws.proofs.Alls.{all_among, all_from_contains, all_item, all_unmap}
use Rattle.rel_paths.specs.Names.{IsFreePath}
use Rattle.tree_fs.specs.declared.place.Place.{Place}
use Rattle.tree_fs.specs.Disk.{Disk, IsFile}
use Rattle.tree_fs.specs.Spot.{spot_of}
use Rattle.tree_fs.specs.Places.{game_spot}
use Rattle.tree_fs.specs.Story.{disk_of}
use Rattle.stage_scan.specs.Files.{HasSamePaths}
use Rattle.manifest_json.specs.declared.manifest.Manifest.{Manifest}
use Rattle.manifest_json.specs.Paths as paths
use Rattle.move_plan.specs.declared.plan.Plan.{Plan}
use Rattle.move_plan.specs.Rising.{AreRising}
use Rattle.desk_model.specs.Deployed.{Win}
use Rattle.plan_model.specs.Lists.{spotted, ends_of}
use Rattle.deploy_plan.specs.Cases.{next_row}
use Rattle.deploy_plan.specs.Wins.{won_paths}
use Rattle.deploy_plan.specs.Walk.{merged, walked_saves, walked_clears}
use Rattle.deploy_plan.specs.Order.{HasSameEnds, PathsRise}
use Rattle.plan_lists.specs.Order.{HasSameSpots}
use Rattle.plan_lists.specs.Off.{GoesByOwn, AreParted}
use Rattle.deploy_plan.specs.Told.{HasStaged, case_seen, step_win, told, told_win_of, told_path, told_set, told_save, told_clear, told_emptied, told_row, won_path, win_seen}
use Rattle.deploy_plan.proofs.Composed.{AreLists, planned}
use Rattle.deploy_plan.proofs.FoldersTied.{emptied_stand}
use Rattle.deploy_plan.proofs.GoodRows.{all_staged, gathered_same, good_rows, wins_walked}
use Rattle.deploy_plan.proofs.NewRows.{rows_told}
use Rattle.plan_lists.proofs.Ordered.{same_spots}
use Rattle.deploy_plan.proofs.Saving.{map_map}
use Rattle.deploy_plan.proofs.StepFacts.{sets_told, saves_told, clears_told, paths_told}
use Rattle.deploy_plan.proofs.Walks.{steps_rise}
use Rattle.deploy_plan.proofs.plan.plan_of.Goals as goal

pub own_folders-requires-clause-files : goal.own_folders-requires-clause-files
own_folders-requires-clause-files g c = subst paths.AreRising (map_map (λ (w : Win). w.path) win_seen c.args.wins.now) c.requires.wins.rise

pub own_folders-requires-clause-stood : goal.own_folders-requires-clause-stood
own_folders-requires-clause-stood g c tells =
    let a = disk_of (g.T.Tree.story c.args.tree.now) in
    let emptied = c.in_ok-emptied.emptied.items in
    let same =
    subst (HasSameSpots (map game_spot emptied)) (c.in_ok-emptied_paths.ensures ∙ ap (filter_map told_emptied) (c.requires.cases tells))
    (same_spots c.in_ok-emptied_paths.field-0.items emptied c.in_ok-emptied.ensures.same) in
    subst (AllByRecursion (λ p. IsFile a (game_spot p))) (sym c.deref-2.ensures.value) (emptied_stand a c.args.old.now (map win_seen c.args.wins.now) (c.requires.can tells) emptied same)

pub own_after-requires-clause-kept : goal.own_after-requires-clause-kept
own_after-requires-clause-kept g c =
    all_from_contains IsFreePath c.in_ok-own.own.kept.items
    (λ p h. all_item IsFreePath c.args.old.now.folders p c.as_slice.ensures.kept.good (subst (λ l. Contains l p) c.as_slice.ensures.same (c.in_ok-own.ensures.kept p h)))

pub own_after-requires-clause-made : goal.own_after-requires-clause-made
own_after-requires-clause-made g c =
    subst (AllByRecursion IsFreePath) (sym c.deref-4.ensures.value)
    (all_among IsFreePath c.args.missing.items c.in_ok-made.made.items (λ p h. (c.in_ok-made.ensures.same p).0 h) c.requires.free)

pub rows_of-requires-clause-staged : goal.rows_of-requires-clause-staged
rows_of-requires-clause-staged g c tells =
    let a = disk_of (g.T.Tree.story c.args.tree.now) in
    let wins = map win_seen c.args.wins.now in
    subst (λ s. AllByRecursion (λ x. HasStaged (disk_of s) (case_seen x)) c.args.cases.now) (sym (c.in_ok-own.ensures.same tells))
    (all_unmap (HasStaged a) case_seen c.args.cases.now (subst (AllByRecursion (HasStaged a)) (sym (c.requires.cases tells)) (all_staged a c.args.old.now.rows wins (c.requires.can tells).won.staged)))

pub new-rows-requires : goal.new-rows-requires
new-rows-requires g c =
    let wins = map win_seen c.args.wins.now in
    good_rows wins c.requires.wins c.in_ok-rows_of.field-0.items
    (c.in_ok-rows_of.ensures.wins
    ∙ gathered_same told_win_of step_win (map case_seen c.args.cases.now) (merged c.args.old.now.rows wins) (map_map told_win_of case_seen c.args.cases.now ∙ c.requires.kept)
    ∙ wins_walked c.args.old.now.rows wins)

pub returns-clause-planned : goal.returns-clause-planned
returns-clause-planned g c tells =
    let a : Disk = disk_of (g.T.Tree.story c.args.tree.now) in
    let old : Manifest = c.args.old.now in
    let ws = c.args.wins.now in
    let wins : List Win = map win_seen ws in
    let cases = c.args.cases.now in
    let can = c.requires.can tells in
    let at : map case_seen cases ≡ map (told a) (merged old.rows wins) = c.requires.cases tells in
    let next : List (List ℕ) = c.in_ok-next.next in
    let manifest : Manifest = record { rows = c.new-rows.result; folders = c.in_ok-next.next } in
    let plan : Plan = record { folders = c.new.result; saves = c.new-2.result; sets = c.new-3.result; manifest = Some manifest; clears = c.new-4.result; folders_off = c.new-5.result } in
    let kept = c.in_ok-own.own.kept.items in
    let off = c.in_ok-own.own.off.items in
    let own = c.as_slice.result.now in
    let own_is : own ≡ old.folders = c.as_slice.ensures.same in
    let wins_are : won_paths wins ≡ map won_path ws = map_map (λ (w : Win). w.path) win_seen ws in
    let lists : AreLists a old wins plan next = record {
      missing = c.args.missing.items;
      made = c.in_ok-made.made.items;
      emptied = c.in_ok-emptied.emptied.items;
      kept = kept;
      off = off;
      sets = ap (map spotted) c.new-3.ensures ∙ c.in_ok-sets.ensures ∙ ap (filter_map told_set) at ∙ sets_told a old.rows wins;
      saves =
          subst (λ l. HasSameEnds (map ends_of l) (walked_saves a old.rows wins)) (sym c.new-2.ensures)
          (subst (HasSameEnds (map ends_of c.in_ok-saves.saves.items)) (ap (filter_map told_save) at ∙ saves_told a old.rows wins) c.in_ok-saves.ensures.same);
      saves_rise =
          subst (λ l. AreRising (map (λ (s : Place × Place). s.1) l)) (sym c.new-2.ensures)
          (c.in_ok-saves.ensures.order
          (subst PathsRise (sym (paths_told a (merged old.rows wins)) ∙ ap (map told_path) (sym at) ∙ map_map told_path case_seen cases) (steps_rise a old.rows wins can.rows.rise can.won.rise)));
      clears =
          subst (λ l. HasSameSpots (map spot_of l) (walked_clears a old.rows wins)) (sym c.new-4.ensures)
          (subst (HasSameSpots (map spot_of c.in_ok-clears.clears.items)) (ap (filter_map told_clear) at ∙ clears_told a old.rows wins) c.in_ok-clears.ensures.same);
      clears_rise = subst AreRising (sym c.new-4.ensures) c.in_ok-clears.ensures.order;
      noted = c.requires.noted tells;
      made_same = c.in_ok-made.ensures.same;
      made_rise = c.in_ok-made.ensures.rise;
      folders = ap (map spot_of) c.new.ensures ∙ c.in_ok-folders.ensures ∙ ap (map game_spot) c.deref.ensures.value;
      emptied_same =
          subst (HasSameSpots (map game_spot c.in_ok-emptied.emptied.items)) (c.in_ok-emptied_paths.ensures ∙ ap (filter_map told_emptied) at)
          (same_spots c.in_ok-emptied_paths.field-0.items c.in_ok-emptied.emptied.items c.in_ok-emptied.ensures.same);
      parted = λ p by.
          let there = c.in_ok-own.ensures.answer tells p
          (subst (λ l. GoesByOwn a l (map won_path ws) c.deref-2.result.now p) (sym own_is)
          (subst (λ l. GoesByOwn a old.folders l c.deref-2.result.now p) wins_are
          (subst (λ l. GoesByOwn a old.folders (won_paths wins) l p) (sym c.deref-2.ensures.value) by))) in
          subst (λ l. AreParted a l (won_paths wins) p l kept off) own_is (subst (λ l. AreParted a own l p own kept off) (sym wins_are) there);
      offs = ap (map spot_of) c.new-5.ensures ∙ c.in_ok-folders_off.ensures ∙ ap (map game_spot) c.deref-3.ensures.value;
      falling = c.in_ok-own.ensures.falling;
      next_same = subst (λ l. HasSamePaths (kept ++ l) c.in_ok-next.next) c.deref-4.ensures.value c.in_ok-next.ensures.same;
      next_rise = c.in_ok-next.ensures.rise;
    } in
    let rows : c.new-rows.result ≡ map (next_row a old.rows) wins =
    c.new-rows.ensures ∙ c.in_ok-rows_of.ensures.answer tells
    ∙ ap (λ s. filter_map (told_row (disk_of s)) (map case_seen cases)) (c.in_ok-own.ensures.same tells)
    ∙ ap (filter_map (told_row a)) at ∙ rows_told a old.rows wins can.rows.rise can.won.rise in
    planned a old wins can plan next lists manifest refl rows refl
