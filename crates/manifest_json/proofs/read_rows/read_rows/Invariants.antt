use Rattle.std.proofs.Common.{◌≡◌, [], drop, length, map, reverse}
use Rattle.std.specs.List.{AllByRecursion}
use Rattle.serde_json.specs.View.{view}
use Rattle.manifest_json.specs.Rows.{rows_from}
use Rattle.manifest_json.specs.Sound.{IsRow}
use Rattle.manifest_json.specs.Sources.{AreUnmet, IsTold}
use Rattle.manifest_json.specs.Stack.{IsStacked}
use Rattle.manifest_json.proofs.read_rows.read_rows.Given as goal

abbrev pub invariant-loop-item : goal.invariant-loop-item
invariant-loop-item l = record {
  scanned : rows_from l.version (reverse l.rows.items) (length l.rows.items) (drop l.item-index (map view l.items)) ≡ rows_from l.version [] 0 (map view l.items);
  stacked : IsStacked l.rows.items (map (λ t. t.now) l.stack.items);
  told : IsTold (reverse l.rows.items) l.sources;
  unmet : AreUnmet (reverse l.rows.items);
  kept : AllByRecursion IsRow l.rows.items;
}
