use Rattle.std.proofs.Common.{◌≡◌, length, codes}
use Rattle.std.specs.Vec.Iter.{into_iter_items, into_iter_len}
use Rattle.toml.specs.View.{items_view}
use Rattle.profile_toml.specs.KeyPaths.{keyed, indexed}
use Rattle.profile_toml.specs.Rules.{rule_fault, rule_value}
use Rattle.profile_toml.specs.Texts.{list_of}
use Rattle.profile_toml.proofs.Readers.{IsReading}
use Rattle.profile_toml.proofs.read_rules.read_items.Given as goal

abbrev pub invariant-loop-item : goal.invariant-loop-item
invariant-loop-item l = record {
  reading : IsReading (λ j d. rule_fault l.version (indexed (keyed (indexed (codes "mods") l.index) (codes "rules")) j) d) (rule_value l.version) 60
      (list_of (items_view l.fn.array.items)) (into_iter_items l.item-iterator) l.rules.items;
  length_is : into_iter_len l.item-iterator ≡ length (into_iter_items l.item-iterator);
}
