-- What a place below the aside folder is named after.
use Rattle.std.specs.Prelude.{ℕ, Bool, ◌&&◌, List, [], ◌∷◌, codes, if◌then◌else◌}
use Rattle.std.specs.Fmt.{decimal}
use Rattle.std.specs.Option.{option_map}
use Rattle.std.specs.Str.{bytes_eq}
use Rattle.std.specs.declared.option.Option.{Option}
use Rattle.std.specs.declared.option.Option.TheVariants.{None, Some}
use Rattle.tree_fs.specs.declared.place.Root.TheVariants.{Keep}
use Rattle.tree_fs.specs.declared.place.Root.{Root}
use Rattle.tree_fs.specs.Spot.{Spot, root_eq}
use Rattle.tree_fs.specs.Texts.{root_named}

-- the place of the game folder or of a mod whose file these names keep under a number
abbrev pub named_origin : ℕ → List (List ℕ) → Option Spot
named_origin number (aside ∷ entry ∷ word ∷ names) =
    if bytes_eq aside (codes "aside") && bytes_eq entry (decimal number)
    then option_map (λ root. record { root = root; names = names }) (root_named word) else None
named_origin number _ = None

-- the place whose file is kept here under a number
abbrev pub origin_of : ℕ → Spot → Option Spot
origin_of number x = if root_eq x.root Keep then named_origin number x.names else None
