-- How far a walk has come, and what it has still to look at.
use Rattle.std.specs.Prelude.{◌≡◌, ◌⊎◌, ℕ, List, [], ◌∷◌, ◌++◌, length, map, reverse, IfSome}
use Rattle.std.specs.List.{AllByRecursion, Contains}
use Rattle.std.specs.List.Sorted.{IsStrictlySortedBy}
use Rattle.std.specs.Ordering.{nat_cmp}
use Rattle.std.specs.Cmp.Lexicographic.{slice_cmp}
use Rattle.std.specs.declared.option.Option.{Option}
use Rattle.std.specs.declared.option.Option.TheVariants.{None, Some}
use Rattle.std.specs.declared.cmp.Ordering.TheVariants.{Less}
use Rattle.rel_paths.specs.Names.{names_of, IsUserPath}
use Rattle.tree_fs.specs.declared.name.Kind.TheVariants as kind
use Rattle.tree_fs.specs.declared.name.Entry.{Entry}
use Rattle.tree_fs.specs.Spot.{names_below}
use Rattle.tree_fs.specs.Disk.{Disk}
use Rattle.stage_scan.specs.declared.pending.Pending.{Pending}
use Rattle.stage_scan.specs.Walks.{kind_inside, walk_cmp, IsInside, IsEarlier, IsSoundInside}

-- the text of a path with one name more
abbrev pub text_below : Option (List ℕ) → List ℕ → List ℕ
text_below None name = name
text_below (Some above) name = above ++ 47 ∷ name

-- the names of an entry below its mod
abbrev pub names_at : Pending → List (List ℕ)
names_at p = names_below p.above ++ p.entry.name ∷ []

abbrev pub HasUserFolder : Pending → Type 0
HasUserFolder p = IfSome p.above IsUserPath

-- the entry of the folder with this path
abbrev pub entry_below : Option (List ℕ) → Entry → Pending
entry_below above entry = record { above = above; entry = entry }

-- a folder's entries are put on the stack, the first one on top
pub record Entered (above : Option (List ℕ)) (old new : List Pending) (IsTold : List Entry → Type 0) : Type 0 where
  pub entries : List Entry
  pub told : IsTold entries
  pub put : new ≡ old ++ map (entry_below above) (reverse entries)

-- one comes before the other with all that lies below them
abbrev pub IsApart : List (List ℕ) → List (List ℕ) → Type 0
IsApart [] ys = ⊥
IsApart (x ∷ xs) [] = ⊥
IsApart (x ∷ xs) (y ∷ ys) = (slice_cmp nat_cmp x y ≡ Less) ⊎ ((x ≡ y) × IsApart xs ys)

-- what lies further up on the stack comes earlier
abbrev pub IsStacked : List (List (List ℕ)) → Type 0
IsStacked [] = Unit {0}
IsStacked (p ∷ ps) = AllByRecursion (λ q. IsApart q p) ps × IsStacked ps

-- at or below one of these
pub record IsUnderSome (stack : List (List (List ℕ))) (names : List (List ℕ)) : Type 0 where
  pub over : List (List ℕ)
  pub is_one : Contains stack over
  pub rest : List (List ℕ)
  pub split : names ≡ over ++ rest

-- a path that was found
pub record IsFound (d : Disk) (id : List ℕ) (seen : List (List (List ℕ))) (path : List ℕ) : Type 0 where
  pub is_seen : Contains seen (names_of path)
  pub file : kind_inside d id (names_of path) ≡ kind.File

-- how far the walk has come: so many entries are seen and sound, and all others lie at or below what is on the stack
pub record IsWalkedTo (d : Disk) (id : List ℕ) (stack : List (List (List ℕ))) (count : ℕ) (files : List (List ℕ)) : Type 0 where
  pub seen : List (List (List ℕ))
  pub counts : count ≡ length seen
  pub order : IsStrictlySortedBy walk_cmp seen
  pub each : AllByRecursion (IsInside d id) seen
  pub sound : AllByRecursion (IsSoundInside d id) seen
  pub stacked : IsStacked stack
  pub ahead : AllByRecursion (λ p. AllByRecursion (λ s. IsEarlier s p) seen) stack
  pub inside_all : AllByRecursion (IsInside d id) stack
  pub cover : (names : List (List ℕ)) → IsInside d id names → Contains seen names ⊎ IsUnderSome stack names
  pub found : AllByRecursion (IsFound d id seen) files
  pub all_found : (path : List ℕ) → IsFound d id seen path → Contains files path

-- its kind is that on the disk
abbrev pub IsPending : Disk → List ℕ → Pending → Type 0
IsPending d id p = p.entry.kind ≡ kind_inside d id (names_at p)

pub record IsWalkAt (d : Disk) (id : List ℕ) (stack : List Pending) (count : ℕ) (files : List (List ℕ)) : Type 0 where
  pub kinds : AllByRecursion (IsPending d id) stack
  pub walked : IsWalkedTo d id (map names_at stack) count files
