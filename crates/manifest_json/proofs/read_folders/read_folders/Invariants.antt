use Rattle.std.proofs.Common.{◌≡◌, [], drop, length, map, reverse}
use Rattle.std.specs.List.{AllByRecursion}
use Rattle.serde_json.specs.View.{view}
use Rattle.manifest_json.specs.Folders.{folders_from}
use Rattle.rel_paths.specs.Names.{IsFreePath}
use Rattle.manifest_json.proofs.Lines.{AreSteps}
use Rattle.manifest_json.proofs.read_folders.read_folders.Given as goal

abbrev pub invariant-loop-item : goal.invariant-loop-item
invariant-loop-item l = record {
  scanned : folders_from (reverse l.folders.items) (length l.folders.items) (drop l.item-index (map view l.items)) ≡ folders_from [] 0 (map view l.items);
  steps : AreSteps (reverse l.folders.items);
  kept : AllByRecursion IsFreePath l.folders.items;
}
