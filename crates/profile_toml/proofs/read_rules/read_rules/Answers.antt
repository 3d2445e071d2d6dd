use Rattle.std.proofs.Common.{◌≡◌, sym, subst}
use Rattle.toml.specs.Data.{array}
use Rattle.toml.specs.View.{view, array_view}
use Rattle.profile_toml.specs.Sound.{IsSound}
use Rattle.profile_toml.proofs.Members.{AllSound-array}
use Rattle.profile_toml.proofs.Shapes.{array_is}
use Rattle.profile_toml.proofs.read_rules.read_rules.Goals as goal

pub read_items-requires : goal.read_items-requires
read_items-requires c =
    let ds = array_view c.in-Some-into_array.array in
    let is : view c.in-Some.value ≡ array ds = array_is (view c.in-Some.value) ds (sym c.in-Some-into_array.ensures) in
    let sound : IsSound 61 (view c.in-Some.value) = rw c.in-Some.is at c.requires in
    AllSound-array 60 ds (subst (IsSound 61) is sound)
