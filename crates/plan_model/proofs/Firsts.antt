-- The first row, or winner, of a path, and the shadowed row behind.
use Rattle.list_laws.proofs.Orders.{text_not_itself}
use Rattle.list_laws.proofs.Texts.{names_eq_tells}
use Rattle.std.proofs.Common.{◌≡◌, ℕ, Bool, true, false, ◌&&◌, if◌then◌else◌, List, [], ◌∷◌, map, refl, sym, ap, ◌∙◌, inl, inr, subst}
use Rattle.std.specs.Option.{option_map}
use Rattle.std.specs.List.{Contains}
use Rattle.std.specs.List.Sorted.{IsStrictlySortedBy}
use Rattle.std.specs.Ordering.{nat_cmp}
use Rattle.std.specs.Cmp.Lexicographic.{slice_cmp}
use Rattle.std.specs.declared.option.Option.{Option}
use Rattle.std.specs.declared.option.Option.TheVariants.{None, Some}
use Rattle.std.proofs.lemmas.Slice.Eq.{slice_eq-Decides, bytes_eq-Decides}
use Rattle.rel_paths.specs.Names.{names_of, backup_names}
use Rattle.rel_paths.proofs.Truths.{both}
use Rattle.rel_paths.proofs.NamesOf.{same_text}
use Rattle.list_laws.proofs.Alls.{all_item}
use Rattle.list_laws.proofs.Containing.{contains_here, contains_there, contains_cases, contains_none, map_contains}
use Rattle.manifest_json.specs.declared.manifest.Row.{Row}
use Rattle.desk_model.specs.Places.{Names, names_eq}
use Rattle.desk_model.specs.Records.{row_at, row_behind}
use Rattle.desk_model.specs.Deployed.{Win, winner_of}

abbrev Text : Type 0
Text = List ℕ

abbrev pub Rises : List Text → Type 0
Rises = IsStrictlySortedBy (slice_cmp nat_cmp)

-- the first item of a path
abbrev pub first_at : {X : Type 0} → (X → Text) → List X → Names → Option X
first_at path [] p = None
first_at path (x ∷ xs) p = if names_eq (names_of (path x)) p then Some x else first_at path xs p

module _ {X : Type 0} (path : X → Text) where
  pub first-some : (xs : List X) (p : Names) (x : X) → first_at path xs p ≡ Some x → Contains xs x × (names_of (path x) ≡ p)
  first-some [] p x e = absurd (cc)
  first-some (y ∷ ys) p x e = elim (names_eq_tells (names_of (path y)) p) [
    | inl t ↦ let h : y ≡ x = here (names_eq (names_of (path y)) p) t.0 e in (subst (λ c. Contains (y ∷ ys) c) h (contains_here y ys), ap (λ z. names_of (path z)) (sym h) ∙ t.1)
    | inr t ↦ let rest = first-some ys p x (later (names_eq (names_of (path y)) p) t.0 e) in (contains_there y x ys rest.0, rest.1)
  ]
    where
      here : (b : Bool) → b ≡ true → (if b then Some y else first_at path ys p) ≡ Some x → y ≡ x
      here true is h = cc
      here false is h = absurd (cc)

      later : (b : Bool) → b ≡ false → (if b then Some y else first_at path ys p) ≡ Some x → first_at path ys p ≡ Some x
      later false is h = h
      later true is h = absurd (cc)

  -- where paths rise, each item is the first of its path
  pub first-here : (xs : List X) (x : X) → Rises (map path xs) → Contains xs x → first_at path xs (names_of (path x)) ≡ Some x
  unfolding IsStrictlySortedBy
  first-here [] x rise c = absurd (contains_none x c)
  first-here (y ∷ ys) x rise c = elim (contains_cases y x ys c) [
    | inl is ↦ on_true (names_eq (names_of (path y)) (names_of (path x))) (same is)
    | inr there ↦ elim (names_eq_tells (names_of (path y)) (names_of (path x))) [
      | inl t ↦ absurd (text_not_itself (path x) (ap (λ q. slice_cmp nat_cmp q (path x)) (sym (same_text (path y) (path x) t.1)) ∙ all_item _ (map path ys) (path x) rise.0 (map_contains path ys x there)))
      | inr t ↦ on_false (names_eq (names_of (path y)) (names_of (path x))) t.0 (first-here ys x rise.1 there)
    ]
  ]
    where
      same : x ≡ y → (names_eq (names_of (path y)) (names_of (path x)) ≡ true) × (y ≡ x)
      same is = ((slice_eq-Decides bytes_eq-Decides (names_of (path y)) (names_of (path x)) _ refl).1 (ap (λ z. names_of (path z)) (sym is)), sym is)

      on_true : (b : Bool) → (b ≡ true) × (y ≡ x) → (if b then Some y else first_at path ys (names_of (path x))) ≡ Some x
      on_true true h = ap Some h.1
      on_true false h = let t = h.0 in absurd (cc)

      on_false : (b : Bool) → b ≡ false → first_at path ys (names_of (path x)) ≡ Some x → (if b then Some y else first_at path ys (names_of (path x))) ≡ Some x
      on_false false e h = h
      on_false true e h = absurd (cc)

-- a look-up goes through a map that keeps the paths
pub first-map : {X Y : Type 0} (f : X → Y) (path : X → Text) (other : Y → Text) (xs : List X) (p : Names) → ((x : X) → other (f x) ≡ path x) → first_at other (map f xs) p ≡ option_map f (first_at path xs p)
first-map f path other [] p same = refl
first-map f path other (x ∷ xs) p same =
    ap (λ q. if names_eq (names_of q) p then Some (f x) else first_at other (map f xs) p) (same x)
    ∙ by_test (names_eq (names_of (path x)) p) (first-map f path other xs p same)
  where
    by_test : (b : Bool) → first_at other (map f xs) p ≡ option_map f (first_at path xs p) → (if b then Some (f x) else first_at other (map f xs) p) ≡ option_map f (if b then Some x else first_at path xs p)
    by_test true h = refl
    by_test false h = h

pub row_at-first : (rows : List Row) (p : Names) → row_at rows p ≡ first_at (λ r. r.path) rows p
unfolding row_at
row_at-first [] p = refl
row_at-first (r ∷ rs) p = ap (λ o. if names_eq (names_of r.path) p then Some r else o) (row_at-first rs p)

pub winner_of-first : (wins : List Win) (p : Names) → winner_of wins p ≡ first_at (λ w. w.path) wins p
winner_of-first [] p = refl
winner_of-first (r ∷ rs) p = ap (λ o. if names_eq (names_of r.path) p then Some r else o) (winner_of-first rs p)

pub row-some : (rows : List Row) (p : Names) (r : Row) → row_at rows p ≡ Some r → Contains rows r × (names_of r.path ≡ p)
row-some rows p r e = first-some (λ (r : Row). r.path) rows p r (sym (row_at-first rows p) ∙ e)

pub win-some : (wins : List Win) (p : Names) (w : Win) → winner_of wins p ≡ Some w → Contains wins w × (names_of w.path ≡ p)
win-some wins p w e = first-some (λ (w : Win). w.path) wins p w (sym (winner_of-first wins p) ∙ e)

pub row-here : (rows : List Row) (r : Row) → Rises (map (λ r. r.path) rows) → Contains rows r → row_at rows (names_of r.path) ≡ Some r
row-here rows r rise c = row_at-first rows (names_of r.path) ∙ first-here (λ (r : Row). r.path) rows r rise c

pub win-here : (wins : List Win) (w : Win) → Rises (map (λ w. w.path) wins) → Contains wins w → winner_of wins (names_of w.path) ≡ Some w
win-here wins w rise c = winner_of-first wins (names_of w.path) ∙ first-here (λ (w : Win). w.path) wins w rise c

pub rows-map : (f : Win → Row) (wins : List Win) (p : Names) → ((w : Win) → (f w).path ≡ w.path) → row_at (map f wins) p ≡ option_map f (winner_of wins p)
rows-map f wins p same = row_at-first (map f wins) p ∙ first-map f (λ (w : Win). w.path) (λ (r : Row). r.path) wins p same ∙ ap (option_map f) (sym (winner_of-first wins p))

-- a shadowed row whose backup this is
pub record IsBehind (rows : List Row) (p : Names) (r : Row) : Type 0 where
  pub listed : Contains rows r
  pub shadowed : r.shadowed ≡ true
  pub here : backup_names (names_of r.path) ≡ p

pub behind-some : (rows : List Row) (p : Names) (r : Row) → row_behind rows p ≡ Some r → IsBehind rows p r
unfolding row_behind
behind-some [] p r e = absurd (cc)
behind-some (s ∷ ss) p r e = by_test (behind-some ss p r) (s.shadowed && names_eq (backup_names (names_of s.path)) p) refl e
  where
    by_test : (row_behind ss p ≡ Some r → IsBehind ss p r) → (b : Bool) → (s.shadowed && names_eq (backup_names (names_of s.path)) p) ≡ b → (if b then Some s else row_behind ss p) ≡ Some r → IsBehind (s ∷ ss) p r
    by_test rest_of true t h =
        let is : s ≡ r = cc in
        let parts = both s.shadowed (names_eq (backup_names (names_of s.path)) p) t in
        let same = (slice_eq-Decides bytes_eq-Decides (backup_names (names_of s.path)) p _ refl).0 parts.1 in
        subst (IsBehind (s ∷ ss) p) is (record { listed = contains_here s ss; shadowed = parts.0; here = same })
    by_test rest_of false t h = let rest = rest_of h in record { listed = contains_there s r ss rest.listed; shadowed = rest.shadowed; here = rest.here }

pub behind-none : (rows : List Row) (p : Names) (r : Row) → row_behind rows p ≡ None → ¬ IsBehind rows p r
unfolding row_behind
behind-none [] p r e h = contains_none r h.listed
behind-none (s ∷ ss) p r e h = by_test (behind-none ss p r) (s.shadowed && names_eq (backup_names (names_of s.path)) p) refl e
  where
    on_true : s.shadowed ≡ true → backup_names (names_of s.path) ≡ p → (s.shadowed && names_eq (backup_names (names_of s.path)) p) ≡ true
    on_true shadowed here = rw shadowed ((slice_eq-Decides bytes_eq-Decides (backup_names (names_of s.path)) p _ refl).1 here)

    by_test : (row_behind ss p ≡ None → IsBehind ss p r → ⊥) → (b : Bool) → (s.shadowed && names_eq (backup_names (names_of s.path)) p) ≡ b → (if b then Some s else row_behind ss p) ≡ None → ⊥
    by_test rest_of true t n = cc
    by_test rest_of false t n = elim (contains_cases s r ss h.listed) [
      | inl is ↦ let u : true ≡ false = sym (on_true (ap (λ (x : Row). x.shadowed) (sym is) ∙ h.shadowed) (ap (λ (x : Row). backup_names (names_of x.path)) (sym is) ∙ h.here)) ∙ t in cc
      | inr there ↦ rest_of n (record { listed = there; shadowed = h.shadowed; here = h.here })
    ]
