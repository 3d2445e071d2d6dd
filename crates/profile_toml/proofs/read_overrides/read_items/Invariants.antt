use Rattle.std.proofs.Common.{◌≡◌, length, codes}
use Rattle.std.specs.Vec.Iter.{into_iter_items, into_iter_len}
use Rattle.toml.specs.View.{items_view}
use Rattle.profile_toml.specs.KeyPaths.{indexed}
use Rattle.profile_toml.specs.Overrides.{override_fault, override_value, path_in}
use Rattle.profile_toml.specs.Texts.{list_of}
use Rattle.profile_toml.proofs.Readers.{IsReading, among}
use Rattle.profile_toml.proofs.read_overrides.read_items.Given as goal

abbrev pub invariant-loop-item : goal.invariant-loop-item
invariant-loop-item l =
    let all = list_of (items_view l.fn.array.items) in
    record {
      reading : IsReading (among (λ earlier n d. override_fault earlier (indexed (codes "overrides") n) d) path_in (override_value) 62 all) (λ d. (path_in d, override_value d)) 62
          all (into_iter_items l.item-iterator) l.overrides.entries;
      length_is : into_iter_len l.item-iterator ≡ length (into_iter_items l.item-iterator);
    }
