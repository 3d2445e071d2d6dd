-- What a stop leaves by choices.
use Rattle.std.specs.Prelude.{◌≡◌, ◌≢◌, ◌↔◌, ℕ, true, false, ◌||◌, ◌%◌, ◌==◌, if◌then◌else◌, List, [], ◌∷◌, ◌++◌, length, get_or, map, reverse, Contains, slice_get}
use Rattle.std.specs.Cmp.Lexicographic.{slice_cmp}
use Rattle.std.specs.List.Sorted.{IsStrictlySortedBy}
use Rattle.std.specs.Ordering.{on, nat_cmp}
use Rattle.std.specs.declared.option.Option.{Option}
use Rattle.std.specs.declared.option.Option.TheVariants.{None, Some}
use Rattle.tree_fs.specs.declared.place.Place.{Place}
use Rattle.tree_fs.specs.Disk.{Disk, none, NothingPending}
use Rattle.tree_fs.specs.Spot.{Spot, spot_of}
use Rattle.tree_fs.specs.Texts.{place_text}

-- a choice picks the value at its index modulo their count, of those before and the last one;
-- no choice picks the last
abbrev pub picked : {X : Type 0} → Option ℕ → List X → X → X
picked None before last = last
picked (Some choice) before last = get_or (before ++ last ∷ []) (choice % length (before ++ last ∷ [])) last

-- a place with a choice: more than one value, and no folder
abbrev pub HasChoice : Disk → Spot → Type 0
HasChoice d q = (d.before q ≢ []) × (d.folders q ≡ false)

-- the disk that a stop leaves by these choices
pub record IsCrash (choices : List ℕ) (d left : Disk) : Type 0 where
  -- the places that the choices are for, in the byte order of their texts
  pub places : List Place
  pub order : IsStrictlySortedBy (on place_text (slice_cmp nat_cmp)) places
  pub each : (q : Spot) → Contains (map spot_of places) q ↔ HasChoice d q
  -- the oldest value is the first
  pub chosen : (i : ℕ) (p : Place) → slice_get places i ≡ Some p
      → let values = reverse (d.before (spot_of p)) in
      left.now (spot_of p) ≡ picked (slice_get choices i) values (d.now (spot_of p))
  -- where nothing is pending, all stays
  pub same : (q : Spot) → d.before q ≡ [] → d.folders q ≡ false → left.now q ≡ d.now q
  pub bare : (q : Spot) → d.folders q ≡ true → left.now q ≡ none
  pub folders : (q : Spot) → left.folders q ≡ d.folders q
  pub settled : NothingPending left
  -- a file that isn't firm keeps its bytes where the number of choices is even
  pub bytes : (n : ℕ)
      → left.bytes n ≡ (if d.firm n || length choices % 2 == 0 then d.bytes n else [])
  pub firm : (n : ℕ) → left.firm n ≡ true
  pub fresh : left.fresh ≡ d.fresh
