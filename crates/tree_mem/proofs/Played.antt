-- The items of a disk, as one group after the other has its choice.
use Rattle.std.proofs.Common.{◌≡◌, ◌≢◌, inl, inr, ℕ, zero, suc, ◌+◌, true, false, List, [], ◌∷◌, refl, sym, ap, subst, ◌∙◌, arith, slice_get}
use Rattle.std.specs.BTreeMap.{is_at}
use Rattle.std.specs.List.{AllByRecursion}
use Rattle.std.specs.List.Sorted.{IsStrictlySortedBy}
use Rattle.std.specs.Map.{keys_of}
use Rattle.std.specs.Ordering.{is_eq}
use Rattle.std.specs.declared.alloc.Global.{Global}
use Rattle.std.specs.declared.cmp.Ordering.TheVariants.{Less}
use Rattle.std.specs.declared.option.Option.{Option}
use Rattle.std.specs.declared.option.Option.TheVariants.{None, Some}
use Rattle.std.specs.declared.vec.Vec.{Vec}
use Rattle.tree_fs.specs.declared.place.Place.{Place}
use Rattle.tree_fs.specs.Spot.{Spot, spot_of}
use Rattle.tree_fs.specs.Disk.{set_at}
use Rattle.tree_fs.proofs.Spots.{same_place}
use Rattle.tree_fs.proofs.Functions.{set_at-same, set_at-other, set_at_tells, same_function}
use Rattle.tree_mem.specs.declared.entries.Item.{Item}
use Rattle.tree_mem.specs.declared.disk.MemDisk.{MemDisk}
use Rattle.tree_mem.specs.Crash.{picked}
use Rattle.tree_mem.specs.Disks.{item_of, is_folder, ItemSet}
use Rattle.tree_mem.specs.Groups.{number_in, item_with, by_text}
use Rattle.tree_mem.proofs.Groups.{at-same}

-- a place, and the files that it held
abbrev pub Group : Type 0
Group = Place × Vec (Option ℕ) Global

-- what the n-th choice gives the group
abbrev pub given : MemDisk → List ℕ → ℕ → Group → Option Item
given d choices n e = item_with (picked (slice_get choices n) e.1.items (number_in (item_of d (spot_of e.0))))

-- the items once these groups, from the n-th on, have their choices
abbrev pub played : MemDisk → List ℕ → ℕ → List Group → (Spot → Option Item) → Spot → Option Item
played d choices n [] items = items
played d choices n (e ∷ es) items = played d choices (n + 1) es (set_at items (spot_of e.0) (given d choices n e))

-- a place that isn't among them stays
pub played-other : (d : MemDisk) (choices : List ℕ) (n : ℕ) (es : List Group) (items : Spot → Option Item) (q : Spot) → AllByRecursion (λ e. q ≢ spot_of e.0) es → played d choices n es items q ≡ items q
played-other d choices n [] items q h = refl
played-other d choices n (e ∷ es) items q h = played-other d choices (n + 1) es _ q h.1 ∙ set_at-other items (spot_of e.0) _ q h.0

later_apart : (x : Place) (es : List Group) → AllByRecursion (λ y. by_text x y ≡ Less) (keys_of es) → AllByRecursion (λ e. spot_of x ≢ spot_of e.0) es
later_apart x [] h = tt
later_apart x (e ∷ es) h = (λ s. less_same (same_place x e.0 s) h.0, later_apart x es h.1)
  where
    less_same : {y : Place} → x ≡ y → by_text x y ≡ Less → ⊥
    less_same {y} same less =
        let at : is_at (by_text x) y ≡ true = ap (is_at (by_text x)) (sym same) ∙ at-same x in
        let no : is_at (by_text x) y ≡ false = ap is_eq less in
        let none : true ≡ false = sym at ∙ no in
        cc

-- a group has what its choice gives it
pub played-at : (d : MemDisk) (choices : List ℕ) (n : ℕ) (es : List Group) (items : Spot → Option Item) (i : ℕ) (e : Group) → IsStrictlySortedBy by_text (keys_of es) → slice_get es i ≡ Some e
    → played d choices n es items (spot_of e.0) ≡ given d choices (n + i) e
unfolding IsStrictlySortedBy
played-at d choices n [] items i e order is = let none : ⊥ = cc in absurd none
played-at d choices n (x ∷ es) items zero e order is =
    let same : x ≡ e = cc in
    subst (λ y. played d choices (n + 1) es (set_at items (spot_of x.0) (given d choices n x)) (spot_of y.0) ≡ given d choices (n + zero) y) same
    (played-other d choices (n + 1) es _ (spot_of x.0) (later_apart x.0 es order.0) ∙ set_at-same items (spot_of x.0) _ ∙ ap (λ k. given d choices k x) (omega arith))
played-at d choices n (x ∷ es) items (suc i) e order is = played-at d choices (n + 1) es _ i e order.1 is ∙ ap (λ k. given d choices k e) (omega arith)

-- one group more has its choice
pub played_one : (d old new : MemDisk) (choices : List ℕ) (n : ℕ) (e : Group) (es : List Group) → ItemSet old new (spot_of e.0) (given d choices n e) → played d choices (n + 1) es (item_of new) ≡ played d choices n (e ∷ es) (item_of old)
played_one d old new choices n e es h = ap (played d choices (n + 1) es) (same_function (item_of new) (set_at (item_of old) (spot_of e.0) (given d choices n e)) (λ q. elim (set_at_tells (item_of old) (spot_of e.0) (given d choices n e) q) [
  | inl here ↦ ap (item_of new) here.1 ∙ h.here ∙ sym here.0
  | inr other ↦ h.others q other.1 ∙ sym other.0
]))

no_folder : (o : Option ℕ) → is_folder (item_with o) ≡ false
no_folder None = refl
no_folder (Some n) = refl

-- and no folder comes or goes
pub folders_stay : (d old new : MemDisk) (at : Spot) (o : Option ℕ) → ItemSet old new at (item_with o) → is_folder (item_of d at) ≡ false → ((q : Spot) → is_folder (item_of old q) ≡ is_folder (item_of d q)) → (q : Spot)
    → is_folder (item_of new q) ≡ is_folder (item_of d q)
folders_stay d old new at o h plain same q = elim (set_at_tells (item_of old) at (item_with o) q) [
  | inl here ↦ ap (λ p. is_folder (item_of new p)) here.1 ∙ ap is_folder h.here ∙ no_folder o ∙ sym plain ∙ ap (λ p. is_folder (item_of d p)) (sym here.1)
  | inr other ↦ ap is_folder (h.others q other.1) ∙ same q
]
