use Rattle.std.proofs.Common.{◌≡◌, length, codes}
use Rattle.std.specs.Map.{keys_of}
use Rattle.std.specs.Vec.Iter.{into_iter_items, into_iter_len}
use Rattle.toml.specs.View.{items_view}
use Rattle.profile_toml.specs.KeyPaths.{indexed}
use Rattle.profile_toml.specs.Mods.{mod_fault, entry_value}
use Rattle.profile_toml.specs.Texts.{id_in, members_in, list_of}
use Rattle.profile_toml.proofs.Readers.{IsReading, among}
use Rattle.profile_toml.proofs.read_mods.read_items.Given as goal

abbrev pub invariant-loop-item : goal.invariant-loop-item
invariant-loop-item l =
    let all = list_of (items_view l.fn.array.items) in
    record {
      reading : IsReading (among (λ earlier n d. mod_fault l.version (keys_of l.types.entries) earlier (indexed (codes "mods") n) d) id_in (λ d. entry_value l.version (members_in d)) 62 all)
          (λ d. (id_in d, entry_value l.version (members_in d))) 62 all (into_iter_items l.item-iterator) l.mods.entries;
      length_is : into_iter_len l.item-iterator ≡ length (into_iter_items l.item-iterator);
    }
