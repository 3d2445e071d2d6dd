-- The greatest number among names, and among the entries of the aside folder.
use Rattle.std.proofs.Common.{◌≡◌, ◌≢◌, ◌⊎◌, ℕ, ◌+◌, ◌<◌, ◌≤◌, ◌^◌, Bool, true, false, List, [], ◌∷◌, ◌++◌, max, refl, sym, ap, ◌∙◌, subst, inl, inr, arith}
use Rattle.std.specs.List.{Contains}
use Rattle.std.specs.Fmt.{decimal}
use Rattle.std.specs.declared.option.Option.{Option}
use Rattle.std.specs.declared.option.Option.TheVariants.{None, Some}
use Rattle.std.proofs.lemmas.Fmt.{decimal_injective}
use Rattle.std.proofs.lemmas.List.Elements.{Contains-append_left}
use Rattle.list_laws.proofs.Containing.{last_cases, contains_seam, contains_none, contains_map}
use Rattle.tree_fs.specs.declared.name.Entry.{Entry}
use Rattle.tree_fs.specs.declared.name.Kind.{Kind}
use Rattle.tree_fs.specs.declared.name.Kind.TheVariants.{Absent, File, Folder, Other}
use Rattle.tree_fs.specs.Spot.{Spot, below, parent}
use Rattle.tree_fs.specs.Disk.{Disk, Value, none, file, odd, IsValid, kind_of, kind_at}
use Rattle.tree_fs.specs.Listing.{entry_names, IsListing}
use Rattle.tree_fs.proofs.Spots.{parent-below}
use Rattle.tree_fs.proofs.KindOf.{kind-absent, absent-kind}
use Rattle.tree_fs.proofs.Listings.{listed_item}
use Rattle.backup_keep.specs.Places.{aside_folder}
use Rattle.backup_keep.specs.Asides.{IsAsideNumber, HasAside, IsNextAside, IsGreatest}

pub none_greatest : IsGreatest [] 0
none_greatest = record { above = λ k h c. absurd (contains_none (decimal k) c); among = inl refl }

wide : (n : ℕ) → IsAsideNumber n → n < 2 ^ 64
wide n h = omega (arith, h.1)

module _ (names : List (List ℕ)) (g : ℕ) (name : List ℕ) where
  pub greatest-other : IsGreatest names g → ((n : ℕ) → IsAsideNumber n → name ≡ decimal n → ⊥) → IsGreatest (names ++ name ∷ []) g
  greatest-other is other = record {
    above = λ k h c. by_place k h (last_cases names name (decimal k) c);
    among = among_more is.among;
  }
    where
      by_place : (k : ℕ) → IsAsideNumber k → Contains names (decimal k) ⊎ (decimal k ≡ name) → k ≤ g
      by_place k h (inl c) = is.above k h c
      by_place k h (inr e) = absurd (other k h (sym e))

      among_more : (g ≡ 0) ⊎ (IsAsideNumber g × Contains names (decimal g)) → (g ≡ 0) ⊎ (IsAsideNumber g × Contains (names ++ name ∷ []) (decimal g))
      among_more (inl e) = inl e
      among_more (inr h) = inr (h.0, Contains-append_left names (name ∷ []) (decimal g) h.1)

  pub greatest-number : IsGreatest names g → (n : ℕ) → IsAsideNumber n → name ≡ decimal n → IsGreatest (names ++ name ∷ []) (max n g)
  greatest-number is n number written = record {
    above = λ k h c. by_place k h (last_cases names name (decimal k) c);
    among = inr (by_order is.among (grind arith));
  }
    where
      by_place : (k : ℕ) → IsAsideNumber k → Contains names (decimal k) ⊎ (decimal k ≡ name) → k ≤ max n g
      by_place k h (inl c) = let le = is.above k h c in omega arith
      by_place k h (inr e) = let same : k ≡ n = decimal_injective k n (wide k h) (wide n number) (e ∙ written) in omega arith

      here : Contains (names ++ name ∷ []) (decimal n)
      here = subst (λ t. Contains (names ++ name ∷ []) t) written (contains_seam names name [])

      by_order : (g ≡ 0) ⊎ (IsAsideNumber g × Contains names (decimal g)) → (g ≤ n) ⊎ (n < g) → IsAsideNumber (max n g) × Contains (names ++ name ∷ []) (decimal (max n g))
      by_order among (inl le) =
          let top : max n g ≡ n = omega arith in
          subst (λ m. IsAsideNumber m × Contains (names ++ name ∷ []) (decimal m)) (sym top) (number, here)
      by_order (inl e) (inr lt) = let wrong : ⊥ = omega arith in absurd wrong
      by_order (inr h) (inr lt) =
          let top : max n g ≡ g = omega arith in
          subst (λ m. IsAsideNumber m × Contains (names ++ name ∷ []) (decimal m)) (sym top) (h.0, Contains-append_left names (name ∷ []) (decimal g) h.1)

-- where the aside folder isn't there, nothing is below it
pub none_aside : (d : Disk) → IsValid d → kind_of d aside_folder ≡ Absent → (k : ℕ) → HasAside d k → ⊥
none_aside d valid absent k has = has.1 (absent-kind d (below aside_folder (decimal k)) (no_folder (d.folders (below aside_folder (decimal k))) refl) (no_value (d.now (below aside_folder (decimal k))) refl))
  where
    gone : d.folders aside_folder ≡ false
    gone = (kind-absent d aside_folder absent).0

    above : parent (below aside_folder (decimal k)) ≡ aside_folder
    above = parent-below aside_folder (decimal k)

    wrong : d.folders (parent (below aside_folder (decimal k))) ≡ true → ⊥
    wrong e = let t : true ≡ false = sym e ∙ ap d.folders above ∙ gone in cc

    no_folder : (b : Bool) → d.folders (below aside_folder (decimal k)) ≡ b → d.folders (below aside_folder (decimal k)) ≡ false
    no_folder true is = absurd (wrong (valid.nested (below aside_folder (decimal k)) is))
    no_folder false is = is

    no_value : (v : Value) → d.now (below aside_folder (decimal k)) ≡ v → d.now (below aside_folder (decimal k)) ≡ none
    no_value none is = is
    no_value (file n) is = absurd (wrong (valid.parents (below aside_folder (decimal k)) (file n) (inl (sym is)) (λ e. cc)))
    no_value odd is = absurd (wrong (valid.parents (below aside_folder (decimal k)) odd (inl (sym is)) (λ e. cc)))

pub first_number : (d : Disk) → IsValid d → kind_of d aside_folder ≡ Absent → IsNextAside d 1
first_number d valid absent = record { above = λ k has. absurd (none_aside d valid absent k has); least = inl refl }

-- what a listing names is there
is_there : (d : Disk) (folder : Spot) (entries : List Entry) (name : List ℕ) → IsListing d folder entries → Contains (entry_names entries) name → kind_of d (below folder name) ≢ Absent
is_there d folder entries name listing c absent =
    let found = contains_map (λ (e : Entry). e.name) entries name c in
    let entry = listed_item d folder entries found.0 listing found.1 in
    entry.2 (entry.1 ∙ ap (λ n. kind_of d (below folder n)) found.2 ∙ absent)

module _ (d : Disk) (entries : List Entry) (listing : IsListing d aside_folder entries) (g : ℕ) (greatest : IsGreatest (entry_names entries) g) where
  stands : (n : ℕ) → IsAsideNumber n → Contains (entry_names entries) (decimal n) → HasAside d n
  stands n number c = (number, is_there d aside_folder entries (decimal n) listing c)

  below_greatest : (k : ℕ) → HasAside d k → k ≤ g
  below_greatest k has = greatest.above k has.0 (listing.whole (decimal k) has.1)

  pub next_number : IsNextAside d (g + 1)
  next_number = record { above = λ k has. (let le = below_greatest k has in omega arith); least = from greatest.among }
    where
      from : (g ≡ 0) ⊎ (IsAsideNumber g × Contains (entry_names entries) (decimal g)) → (g + 1 ≡ 1) ⊎ ((k : ℕ) × HasAside d k × (g + 1 ≡ k + 1))
      from (inl e) = inl (ap (λ n. n + 1) e)
      from (inr h) = inr (g, stands g h.0 h.1, refl)

  pub last_number : g ≡ 4294967295 → HasAside d 4294967295
  last_number e = from greatest.among
    where
      from : (g ≡ 0) ⊎ (IsAsideNumber g × Contains (entry_names entries) (decimal g)) → HasAside d 4294967295
      from (inl z) = let wrong : ⊥ = omega arith in absurd wrong
      from (inr h) = subst (HasAside d) e (stands g h.0 h.1)
