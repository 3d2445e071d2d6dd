-- Which of the paths in front of a path it may extend: those whose texts it begins with. Of rising
-- paths these are found with a stack, on which each text begins the one above it.
use Rattle.std.specs.Prelude.{◌≡◌, ℕ, Bool, true, false, nat_eq, List, [], ◌∷◌, reverse, if◌then◌else◌}
use Rattle.std.specs.List.{starts_with, list_any}
use Rattle.manifest_json.specs.declared.manifest.Row.{Row}
use Rattle.manifest_json.specs.Paths.{is_above}
use Rattle.rel_paths.specs.Names.{extends}
use Rattle.manifest_json.specs.Records.{paths_of}

-- the texts from the first one that the path begins with
abbrev pub still_open : List ℕ → List (List ℕ) → List (List ℕ)
still_open path [] = []
still_open path (t ∷ ts) = if starts_with nat_eq path t then t ∷ ts else still_open path ts

-- the stack over these paths, which come last one first
abbrev pub open_of : List (List ℕ) → List (List ℕ)
open_of [] = []
open_of (p ∷ ps) = p ∷ still_open p (open_of ps)

abbrev pub extends_first : List ℕ → List (List ℕ) → Bool
extends_first path [] = false
extends_first path (t ∷ ts) = extends path t

-- the paths, last one first: each is above the next, and extends none behind it
abbrev pub IsLine : List (List ℕ) → Type 0
IsLine [] = Unit {0}
IsLine (p ∷ ps) = (is_above ps p ≡ true) × (list_any (extends p) ps ≡ false) × IsLine ps

-- the stack that belongs to these rows
pub record IsStacked (rows : List Row) (texts : List (List ℕ)) : Type 0 where
  pub line : IsLine (paths_of (reverse rows))
  pub stack : reverse texts ≡ open_of (paths_of (reverse rows))
