-- Lists that rise by the texts of their places.
use Rattle.std.specs.Prelude.{ℕ, ◌+◌, ◌-◌, ◌==◌, Bool, List, [], ◌∷◌, map, min, slice_get, if◌then◌else◌}
use Rattle.std.specs.List.Sorted.{IsStrictlySortedBy}
use Rattle.std.specs.Ordering.{on, nat_cmp}
use Rattle.std.specs.Cmp.Lexicographic.{slice_cmp}
use Rattle.std.specs.declared.option.Option.{Option}
use Rattle.std.specs.declared.option.Option.TheVariants.{None, Some}
use Rattle.tree_fs.specs.declared.place.Place.{Place}
use Rattle.tree_fs.specs.Texts.{place_text}
use Rattle.move_plan.specs.declared.plan.SetRow.{SetRow}
use Rattle.move_plan.specs.declared.plan.Plan.{Plan}
use Rattle.move_plan.specs.Tests.{none_or}

-- each place is above those in front of it
abbrev pub AreRising : List Place → Type 0
AreRising places = IsStrictlySortedBy (on place_text (slice_cmp nat_cmp)) places

-- the lists in which places are looked up rise
pub record AreSearchable (plan : Plan) : Type 0 where
  pub saves : AreRising (map (λ (s : Place × Place). s.1) plan.saves)
  pub sets : AreRising (map (λ (row : SetRow). row.to) plan.sets)
  pub clears : AreRising plan.clears

-- the index of the first place that doesn't suit the one in front of it, where the next index is i
abbrev pub first_out : (Place → Place → Bool) → ℕ → Option Place → List Place → Option ℕ
first_out suits i front [] = None
first_out suits i front (p ∷ ps) =
    if none_or (λ q. suits q p) front then first_out suits (i + 1) (Some p) ps else Some i

-- the earlier of two indices
abbrev pub earlier : Option ℕ → Option ℕ → Option ℕ
earlier None b = b
earlier (Some a) None = Some a
earlier (Some a) (Some b) = Some (min a b)

-- the place in front of index i
abbrev pub front_at : List Place → ℕ → Option Place
front_at places i = if i == 0 then None else slice_get places (i - 1)
