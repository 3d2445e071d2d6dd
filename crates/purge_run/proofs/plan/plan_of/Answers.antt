use Rattle.std.proofs.Common.{◌≡◌, None, [], map, filter_map, refl, sym, ap, ◌∙◌, subst}
use Rattle.std.specs.List.{AllByRecursion, Contains}
use Rattle.list_laws.proofs.Containing.{contains_none, map_contains}
use Rattle.tree_fs.specs.Disk.{Disk, IsFile}
use Rattle.tree_fs.specs.Spot.{spot_of}
use Rattle.tree_fs.specs.Places.{game_spot}
use Rattle.tree_fs.specs.Story.{disk_of}
use Rattle.manifest_json.specs.declared.manifest.Manifest.{Manifest}
use Rattle.manifest_json.specs.Paths as paths
use Rattle.move_plan.specs.declared.plan.Plan.{Plan}
use Rattle.move_plan.specs.Entries.{Listed, listed, folder}
use Rattle.move_plan.specs.Rules.{InOrder}
use Rattle.plan_model.specs.Lists.{spotted, ends_of}
use Rattle.plan_lists.specs.Off.{GoesByOwn, AreParted}
use Rattle.plan_lists.specs.Order.{HasSameSpots}
use Rattle.plan_lists.proofs.Gathered.{map_itself}
use Rattle.plan_lists.proofs.Ordered.{placed_rise}
use Rattle.purge_run.specs.declared.lists.Which.TheVariants.{Restored, Emptied, Backups}
use Rattle.purge_run.specs.MadeFolders.{AreAsideFolders}
use Rattle.purge_run.specs.Told.{case_seen, told, told_set, told_save, told_aside, told_place}
use Rattle.purge_run.specs.Walk.{purge_clears}
use Rattle.purge_run.proofs.Composed.{AreLists, planned, nothing_in, map_none}
use Rattle.purge_run.proofs.Passed.{emptied_stand, sets_told, saves_told, clears_told}
use Rattle.purge_run.proofs.plan.plan_of.Goals as goal

pub own_folders-requires-clause-files : goal.own_folders-requires-clause-files
own_folders-requires-clause-files g c =
    subst paths.AreRising (sym (map_itself c.as_slice-2.result.now ∙ c.as_slice-2.ensures.value)) c.in_ok-restored.ensures.rise

pub own_folders-requires-clause-stood : goal.own_folders-requires-clause-stood
own_folders-requires-clause-stood g c tells =
    let a = disk_of (g.T.Tree.story c.args.tree.now) in
    let rows = c.args.old.now.rows in
    let emptied = c.in_ok-emptied.emptied.items in
    let same = subst (λ l. HasSameSpots (map game_spot emptied) (filter_map (told_place Emptied) l)) (c.requires.cases tells) c.in_ok-emptied.ensures.same in
    subst (AllByRecursion (λ p. IsFile a (game_spot p))) (sym c.deref-2.ensures.value) (emptied_stand a rows emptied same)

pub returns-clause-planned : goal.returns-clause-planned
returns-clause-planned g c tells =
    let a : Disk = disk_of (g.T.Tree.story c.args.tree.now) in
    let old : Manifest = c.args.old.now in
    let n = c.args.number in
    let b = c.args.is_there in
    let cases = c.args.cases.now in
    let at : map case_seen cases ≡ map (told a) old.rows = c.requires.cases tells in
    let plan : Plan = record { folders = c.new.result; saves = c.new-2.result; sets = c.new-3.result; manifest = None; clears = c.new-4.result; folders_off = c.new-5.result } in
    let backups = c.in_ok-backups.backups.items in
    let restored = c.in_ok-restored.restored.items in
    let emptied = c.in_ok-emptied.emptied.items in
    let kept = c.in_ok-own.own.kept.items in
    let off = c.in_ok-own.own.off.items in
    let own = c.as_slice.result.now in
    let own_is : own ≡ old.folders = c.as_slice.ensures.same in
    let restored_is : map (λ p. p) c.as_slice-2.result.now ≡ restored = map_itself c.as_slice-2.result.now ∙ c.as_slice-2.ensures.value in
    let clears_are : map spot_of c.new-4.result ≡ map game_spot backups = ap (map spot_of) c.new-4.ensures ∙ c.in_ok-clears.ensures ∙ ap (map game_spot) c.deref.ensures.value in
    let lists : AreLists a old n plan = record {
      is_there = b;
      there = c.requires.there tells;
      restored = restored;
      emptied = emptied;
      kept = kept;
      gone = off;
      sets = ap (map spotted) c.new-3.ensures ∙ c.in_ok-sets.ensures ∙ ap (filter_map (told_set n)) at ∙ sets_told a n old.rows;
      saves = ap (map ends_of) c.new-2.ensures ∙ c.in_ok-saves.ensures ∙ ap (filter_map (told_save n)) at ∙ saves_told a n old.rows;
      clears =
          subst (λ l. HasSameSpots l (purge_clears a old.rows)) (sym clears_are)
          (subst (HasSameSpots (map game_spot backups)) (ap (filter_map (told_place Backups)) at ∙ clears_told a n old.rows) c.in_ok-backups.ensures.same);
      clears_rise = placed_rise c.new-4.result backups clears_are c.in_ok-backups.ensures.rise;
      made_order = subst (λ l. AllByRecursion (λ (e : Listed). InOrder e.entry e.front) (listed folder 0 None l)) (sym c.new.ensures) c.in_ok-folders.ensures.order;
      made =
          subst (λ l. AreAsideFolders b (filter_map (told_aside n) (map (told a) old.rows)) (map spot_of l)) (sym c.new.ensures)
          (subst (λ l. AreAsideFolders b (filter_map (told_aside n) l) (map spot_of c.in_ok-folders.folders.items)) at c.in_ok-folders.ensures.are);
      restored_same = subst (λ l. HasSameSpots (map game_spot restored) (filter_map (told_place Restored) l)) at c.in_ok-restored.ensures.same;
      emptied_same = subst (λ l. HasSameSpots (map game_spot emptied) (filter_map (told_place Emptied) l)) at c.in_ok-emptied.ensures.same;
      parted = λ p by.
          let there = c.in_ok-own.ensures.answer tells p
          (subst (λ l. GoesByOwn a l (map (λ p. p) c.as_slice-2.result.now) c.deref-2.result.now p) (sym own_is)
          (subst (λ l. GoesByOwn a old.folders l c.deref-2.result.now p) (sym restored_is)
          (subst (λ l. GoesByOwn a old.folders restored l p) (sym c.deref-2.ensures.value) by))) in
          subst (λ l. AreParted a l restored p l kept off) own_is (subst (λ l. AreParted a own l p own kept off) restored_is there);
      offs = ap (map spot_of) c.new-5.ensures ∙ c.in_ok-folders_off.ensures ∙ ap (map game_spot) c.deref-3.ensures.value;
      falling = c.in_ok-own.ensures.falling;
    } in
    planned a old n c.ranges.number.fits (c.requires.can tells) plan lists refl

pub returns-clause-idle : goal.returns-clause-idle
returns-clause-idle g c none no_own =
    let n = c.args.number in
    let backups = c.in_ok-backups.backups.items in
    let off = c.in_ok-own.own.off.items in
    let no_backups : backups ≡ [] =
    nothing_in backups (λ p h. contains_none (game_spot p)
    (subst (λ l. Contains (filter_map (told_place Backups) (map case_seen l)) (game_spot p)) none ((c.in_ok-backups.ensures.same (game_spot p)).0 (map_contains game_spot backups p h)))) in
    let no_off : off ≡ [] = nothing_in off (λ p h. contains_none p (subst (λ l. Contains l p) (c.as_slice.ensures.same ∙ no_own) (c.in_ok-own.ensures.off p h))) in
    record {
      no_saves = map_none ends_of c.new-2.result (ap (map ends_of) c.new-2.ensures ∙ c.in_ok-saves.ensures ∙ ap (λ l. filter_map (told_save n) (map case_seen l)) none);
      no_sets = map_none spotted c.new-3.result (ap (map spotted) c.new-3.ensures ∙ c.in_ok-sets.ensures ∙ ap (λ l. filter_map (told_set n) (map case_seen l)) none);
      no_clears = map_none spot_of c.new-4.result (ap (map spot_of) c.new-4.ensures ∙ c.in_ok-clears.ensures ∙ ap (map game_spot) c.deref.ensures.value ∙ ap (map game_spot) no_backups);
      none_off = map_none spot_of c.new-5.result (ap (map spot_of) c.new-5.ensures ∙ c.in_ok-folders_off.ensures ∙ ap (map game_spot) c.deref-3.ensures.value ∙ ap (map game_spot) no_off);
      manifest = refl;
    }
