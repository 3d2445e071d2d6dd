use Rattle.std.proofs.Common.{◌≡◌, Some, map, option_map, ap, sym, subst, ◌∙◌}
use Rattle.std.specs.Map.{keys_of}
use Rattle.toml.specs.Data.{array}
use Rattle.toml.specs.View.{view, array_view}
use Rattle.profile_toml.specs.Faults.{ReadsBy}
use Rattle.profile_toml.specs.Mods.{mods_fault, mods_value}
use Rattle.profile_toml.specs.Sound.{IsSound}
use Rattle.profile_toml.proofs.Members.{AllSound-array}
use Rattle.profile_toml.proofs.Shapes.{array_is}
use Rattle.profile_toml.proofs.read_mods.read_mods.Goals as goal

pub read_items-requires-clause-sound : goal.read_items-requires-clause-sound
read_items-requires-clause-sound c =
    let ds = array_view c.in-Some-into_array.array in
    let is : view c.in-Some.value ≡ array ds = array_is (view c.in-Some.value) ds (sym c.in-Some-into_array.ensures) in
    let sound : IsSound 63 (view c.in-Some.value) = rw c.in-Some.is at c.requires.sound in
    AllSound-array 62 ds (subst (IsSound 63) is sound)

pub returns : goal.returns
returns c =
    let ids = keys_of c.args.types.now.entries in
    let ds = array_view c.in-Some-into_array.array in
    let is : view c.in-Some.value ≡ array ds = array_is (view c.in-Some.value) ds (sym c.in-Some-into_array.ensures) in
    subst (λ d. ReadsBy (λ m. m.entries) (mods_fault c.args.version ids d) (mods_value c.args.version d) c.read_items.result) (sym (ap (option_map view) c.in-Some.is ∙ ap Some is)) c.read_items.ensures
