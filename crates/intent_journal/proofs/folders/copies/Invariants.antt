use Rattle.std.proofs.Common.{take}
use Rattle.std.specs.List.{Contains}
use Rattle.tree_fs.specs.declared.place.Place.{Place}
use Rattle.intent_journal.proofs.folders.copies.Given as goal

abbrev pub invariant-loop-place : goal.invariant-loop-place
invariant-loop-place l = record {
  all : (p : Place) → Contains (take l.place-index l.places) p → Contains l.list.items p;
  only : (p : Place) → Contains l.list.items p → Contains (take l.place-index l.places) p;
}
