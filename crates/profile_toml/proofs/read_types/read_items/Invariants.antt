use Rattle.std.proofs.Common.{◌≡◌, length, codes}
use Rattle.std.specs.Vec.Iter.{into_iter_items, into_iter_len}
use Rattle.toml.specs.View.{items_view}
use Rattle.profile_toml.specs.KeyPaths.{indexed}
use Rattle.profile_toml.specs.Types.{type_fault, type_value}
use Rattle.profile_toml.specs.Texts.{id_in, list_of}
use Rattle.profile_toml.proofs.Readers.{IsReading, among}
use Rattle.profile_toml.proofs.read_types.read_items.Given as goal

abbrev pub invariant-loop-item : goal.invariant-loop-item
invariant-loop-item l =
    let all = list_of (items_view l.fn.array.items) in
    record {
      reading : IsReading (among (λ earlier n d. type_fault earlier (indexed (codes "types") n) d) id_in (type_value) 62 all) (λ d. (id_in d, type_value d)) 62
          all (into_iter_items l.item-iterator) l.types.entries;
      length_is : into_iter_len l.item-iterator ≡ length (into_iter_items l.item-iterator);
    }
