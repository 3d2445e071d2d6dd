use Rattle.std.proofs.Common.{map, ◌∙◌, ap}
use Rattle.tree_fs.specs.declared.place.Place.{Place}
use Rattle.tree_fs.specs.Spot.{spot_of, parent}
use Rattle.intent_journal.specs.Ready.{saved_places, set_places, AreParents}
use Rattle.intent_journal.proofs.ReadyFolders.{are_folders}
use Rattle.intent_journal.proofs.folders.sync_folders.Goals as goal

pub returns : goal.returns
returns c =
    let plan = c.args.plan.now in
    let first = c.in_ok-folders_of.ensures in
    let then = c.in_ok-folders_of-2.ensures in
    let last = c.in_ok-folders_of-3.ensures in
    let cleared : AreParents plan.clears c.deref.result.now = ap (map spot_of) c.deref.ensures.value ∙ c.in_ok-cleared.ensures ∙ ap (map (λ (p : Place). parent (spot_of p))) c.as_slice.ensures in
    record {
      saves = are_folders (saved_places plan) c.as_slice-2.result.now _ (ap (map spot_of) c.as_slice-2.ensures ∙ c.requires.saves) first.all first.only first.rise;
      sets = are_folders (set_places plan) c.as_slice-3.result.now _ (ap (map spot_of) c.as_slice-3.ensures ∙ c.requires.sets) then.all then.only then.rise;
      clears = are_folders plan.clears c.deref.result.now _ cleared last.all last.only last.rise;
    }
