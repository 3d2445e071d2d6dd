-- The places that the definitions speak of.
use Rattle.std.specs.Prelude.{◌≡◌, ◌⊎◌, ℕ, Bool, true, List, ◌∷◌, codes}
use Rattle.std.specs.Str.{bytes_eq}
use Rattle.std.specs.Cmp.Lexicographic.{pointwise}
use Rattle.rel_paths.specs.Names.{backup_names}
use Rattle.rel_paths.specs.declared.control.Control.{Control}
use Rattle.rel_paths.specs.declared.control.Control.TheVariants as control
use Rattle.tree_fs.specs.declared.place.Root.{Root}
use Rattle.tree_fs.specs.declared.place.Root.TheVariants.{Stage, Game, Keep}
use Rattle.tree_fs.specs.Spot.{Spot, root_spot, is_entry}
use Rattle.tree_fs.specs.Texts.{control_spot}

-- the names of a path
abbrev pub Names : Type 0
Names = List (List ℕ)

abbrev pub names_eq : Names → Names → Bool
names_eq = pointwise bytes_eq

abbrev pub in_game : Names → Spot
in_game p = record { root = Game; names = p }

abbrev pub in_stage : Names → Spot
in_stage p = record { root = Stage; names = p }

-- a place below the aside folder
abbrev pub in_aside : Names → Spot
in_aside p = record { root = Keep; names = codes "aside" ∷ p }

-- the backup place of a path
abbrev pub behind : Names → Spot
behind p = in_game (backup_names p)

abbrev pub manifest_spot : Spot
manifest_spot = control_spot control.Manifest

abbrev pub profile_spot : Spot
profile_spot = control_spot control.Profile

abbrev pub intent_spot : Spot
intent_spot = control_spot control.Intent

abbrev pub IsControl : Spot → Type 0
IsControl x = (which : Control) × (x ≡ control_spot which)

-- one of the three temps
abbrev pub IsTemp : Spot → Type 0
IsTemp x =
    (x ≡ control_spot control.IntentTemp)
    ⊎ (x ≡ control_spot control.ManifestTemp)
    ⊎ (x ≡ control_spot control.ProfileTemp)

-- a direct entry of `keep`
abbrev pub IsKeepEntry : Spot → Type 0
IsKeepEntry x = is_entry (root_spot Keep) x ≡ true

-- the user's roots: `game` and `stage`
abbrev pub IsUsers : Root → Type 0
IsUsers Stage = Unit {0}
IsUsers Game = Unit {0}
IsUsers Keep = ⊥
