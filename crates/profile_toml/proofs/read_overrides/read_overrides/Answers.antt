use Rattle.std.proofs.Common.{◌≡◌, Some, map, option_map, ap, sym, subst, ◌∙◌}
use Rattle.toml.specs.Data.{array}
use Rattle.toml.specs.View.{view, array_view}
use Rattle.profile_toml.specs.Faults.{ReadsBy}
use Rattle.profile_toml.specs.Overrides.{overrides_fault, override_entry}
use Rattle.profile_toml.specs.Texts.{items_at}
use Rattle.profile_toml.specs.Sound.{IsSound}
use Rattle.profile_toml.proofs.Members.{AllSound-array}
use Rattle.profile_toml.proofs.Shapes.{array_is}
use Rattle.profile_toml.proofs.read_overrides.read_overrides.Goals as goal

pub read_items-requires : goal.read_items-requires
read_items-requires c =
    let ds = array_view c.in-Some-into_array.array in
    let is : view c.in-Some.value ≡ array ds = array_is (view c.in-Some.value) ds (sym c.in-Some-into_array.ensures) in
    let sound : IsSound 63 (view c.in-Some.value) = rw c.in-Some.is at c.requires in
    AllSound-array 62 ds (subst (IsSound 63) is sound)

pub returns : goal.returns
returns c =
    let ds = array_view c.in-Some-into_array.array in
    let is : view c.in-Some.value ≡ array ds = array_is (view c.in-Some.value) ds (sym c.in-Some-into_array.ensures) in
    subst (λ d. ReadsBy (λ m. m.entries) (overrides_fault d) (map override_entry (items_at d)) c.read_items.result) (sym (ap (option_map view) c.in-Some.is ∙ ap Some is)) c.read_items.ensures
