-- What the look-ups of a plan's lists find.
use Rattle.std.proofs.Common.{◌≡◌, ◌≢◌, Bool, true, false, ◌&&◌, ◌||◌, if◌then◌else◌, List, [], ◌∷◌, refl, sym, ap, ◌∙◌, inl, inr, subst}
use Rattle.std.specs.List.{Contains}
use Rattle.std.specs.declared.option.Option.{Option}
use Rattle.std.specs.declared.option.Option.TheVariants.{None, Some}
use Rattle.tree_fs.specs.declared.place.Place.{Place}
use Rattle.tree_fs.specs.Spot.{Spot, spot_of, spot_eq}
use Rattle.tree_fs.proofs.Spots.{spot_eq_tells}
use Rattle.tree_fs.proofs.Lists.{contains_here, contains_there, contains_cases, contains_none}
use Rattle.move_plan.specs.declared.plan.SetRow.{SetRow}
use Rattle.move_plan.specs.Places.{Has}
use Rattle.std.proofs.lemmas.Slice.Eq.{slice_eq-Decides, bytes_eq-Decides}
use Rattle.rel_paths.specs.Names.{names_of, backup_names}
use Rattle.rel_paths.proofs.Truths.{both}
use Rattle.manifest_json.specs.declared.manifest.Row.{Row}
use Rattle.desk_model.specs.Places.{Names, names_eq}
use Rattle.desk_model.specs.Records.{row_at, row_behind}
use Rattle.desk_model.specs.Outcome.{set_to, save_to, is_one_of}
use Rattle.list_laws.proofs.Texts.{names_eq_tells}

-- the first item for which a test holds
abbrev first_by : {A : Type 0} → (A → Spot) → List A → Spot → Option A
first_by to [] x = None
first_by to (a ∷ as') x = if spot_eq (to a) x then Some a else first_by to as' x

first_some : {A : Type 0} (to : A → Spot) (l : List A) (x : Spot) (a : A) → first_by to l x ≡ Some a → Contains l a × (to a ≡ x)
first_some to [] x a e = absurd (cc)
first_some to (b ∷ bs) x a e = elim (spot_eq_tells (to b) x) [
  | inl s ↦ let h : b ≡ a = first_is (spot_eq (to b) x) s.0 e in (subst (λ c. Contains (b ∷ bs) c) h (contains_here b bs), ap to (sym h) ∙ s.1)
  | inr s ↦ let rest = first_some to bs x a (later (spot_eq (to b) x) s.0 e) in (contains_there b a bs rest.0, rest.1)
]
  where
    first_is : (t : Bool) → t ≡ true → (if t then Some b else first_by to bs x) ≡ Some a → b ≡ a
    first_is true is h = cc
    first_is false is h = absurd (cc)

    later : (t : Bool) → t ≡ false → (if t then Some b else first_by to bs x) ≡ Some a → first_by to bs x ≡ Some a
    later false is h = h
    later true is h = absurd (cc)

first_none : {A : Type 0} (to : A → Spot) (l : List A) (x : Spot) (a : A) → first_by to l x ≡ None → Contains l a → to a ≢ x
first_none to [] x a e c = absurd (contains_none a c)
first_none to (b ∷ bs) x a e c = elim (spot_eq_tells (to b) x) [
  | inl s ↦ absurd (never (spot_eq (to b) x) s.0 e)
  | inr s ↦ elim (contains_cases b a bs c) [
    | inl same ↦ λ is. s.1 (ap to (sym same) ∙ is)
    | inr there ↦ first_none to bs x a (later (spot_eq (to b) x) s.0 e) there
  ]
]
  where
    never : (t : Bool) → t ≡ true → (if t then Some b else first_by to bs x) ≡ None → ⊥
    never true is h = cc
    never false is h = cc

    later : (t : Bool) → t ≡ false → (if t then Some b else first_by to bs x) ≡ None → first_by to bs x ≡ None
    later false is h = h
    later true is h = absurd (cc)

set_is_first : (rows : List SetRow) (x : Spot) → set_to rows x ≡ first_by (λ r. spot_of r.to) rows x
unfolding set_to
set_is_first [] x = refl
set_is_first (r ∷ rs) x = ap (λ o. if spot_eq (spot_of r.to) x then Some r else o) (set_is_first rs x)

save_is_first : (saves : List (Place × Place)) (x : Spot) → save_to saves x ≡ first_by (λ s. spot_of s.1) saves x
unfolding save_to
save_is_first [] x = refl
save_is_first (r ∷ rs) x = ap (λ o. if spot_eq (spot_of r.1) x then Some r else o) (save_is_first rs x)

pub set_to-some : (rows : List SetRow) (x : Spot) (row : SetRow) → set_to rows x ≡ Some row → Contains rows row × (spot_of row.to ≡ x)
set_to-some rows x row e = first_some (λ r. spot_of r.to) rows x row (sym (set_is_first rows x) ∙ e)

pub set_to-none : (rows : List SetRow) (x : Spot) (row : SetRow) → set_to rows x ≡ None → Contains rows row → spot_of row.to ≢ x
set_to-none rows x row e c = first_none (λ r. spot_of r.to) rows x row (sym (set_is_first rows x) ∙ e) c

pub save_to-some : (saves : List (Place × Place)) (x : Spot) (s : Place × Place) → save_to saves x ≡ Some s → Contains saves s × (spot_of s.1 ≡ x)
save_to-some saves x s e = first_some (λ r. spot_of r.1) saves x s (sym (save_is_first saves x) ∙ e)

pub save_to-none : (saves : List (Place × Place)) (x : Spot) (s : Place × Place) → save_to saves x ≡ None → Contains saves s → spot_of s.1 ≢ x
save_to-none saves x s e c = first_none (λ r. spot_of r.1) saves x s (sym (save_is_first saves x) ∙ e) c

either : (a b : Bool) → (a || b) ≡ false → (a ≡ false) × (b ≡ false)
either false b e = (refl, e)
either true b e = absurd (cc)

pub one_of-false : (places : List Place) (x : Spot) → is_one_of places x ≡ false → ¬ Has places x
unfolding is_one_of
one_of-false [] x e h = contains_none h.place h.listed
one_of-false (p ∷ ps) x e h =
    let both = either (spot_eq (spot_of p) x) (is_one_of ps x) e in
    elim (contains_cases p h.place ps h.listed) [
      | inl same ↦ elim (spot_eq_tells (spot_of p) x) [ inl s ↦ let t : true ≡ false = sym s.0 ∙ both.0 in cc | inr s ↦ s.1 (ap spot_of (sym same) ∙ h.here) ]
      | inr there ↦ one_of-false ps x both.1 (record { place = h.place; listed = there; here = h.here })
    ]

pub one_of-true : (places : List Place) (x : Spot) → is_one_of places x ≡ true → Has places x
unfolding is_one_of
one_of-true [] x e = absurd (cc)
one_of-true (p ∷ ps) x e = elim (spot_eq_tells (spot_of p) x) [
  | inl s ↦ record { place = p; listed = contains_here p ps; here = s.1 }
  | inr s ↦ let rest = one_of-true ps x (sym (ap (λ b. b || is_one_of ps x) s.0) ∙ e) in record { place = rest.place; listed = contains_there p rest.place ps rest.listed; here = rest.here }
]

-- the row of a path is one of the rows
pub row_at-some : (rows : List Row) (p : Names) (r : Row) → row_at rows p ≡ Some r → Contains rows r × (names_of r.path ≡ p)
unfolding row_at
row_at-some [] p r e = absurd (cc)
row_at-some (s ∷ ss) p r e = elim (names_eq_tells (names_of s.path) p) [
  | inl t ↦ let h : s ≡ r = here (names_eq (names_of s.path) p) t.0 e in (subst (λ c. Contains (s ∷ ss) c) h (contains_here s ss), ap (λ (u : Row). names_of u.path) (sym h) ∙ t.1)
  | inr t ↦ let rest = row_at-some ss p r (later (names_eq (names_of s.path) p) t.0 e) in (contains_there s r ss rest.0, rest.1)
]
  where
    here : (b : Bool) → b ≡ true → (if b then Some s else row_at ss p) ≡ Some r → s ≡ r
    here true is h = cc
    here false is h = absurd (cc)

    later : (b : Bool) → b ≡ false → (if b then Some s else row_at ss p) ≡ Some r → row_at ss p ≡ Some r
    later false is h = h
    later true is h = absurd (cc)

-- so is the shadowed row whose backup this is
pub row_behind-some : (rows : List Row) (p : Names) (r : Row) → row_behind rows p ≡ Some r → Contains rows r × (backup_names (names_of r.path) ≡ p)
unfolding row_behind
row_behind-some [] p r e = absurd (cc)
row_behind-some (s ∷ ss) p r e = by_test (row_behind-some ss p r) (s.shadowed && names_eq (backup_names (names_of s.path)) p) refl e
  where
    by_test : (row_behind ss p ≡ Some r → Contains ss r × (backup_names (names_of r.path) ≡ p)) → (b : Bool) → (s.shadowed && names_eq (backup_names (names_of s.path)) p) ≡ b → (if b then Some s else row_behind ss p) ≡ Some r → Contains (s ∷ ss) r × (backup_names (names_of r.path) ≡ p)
    by_test rest_of true t h =
        let is : s ≡ r = cc in
        let same = (slice_eq-Decides bytes_eq-Decides (backup_names (names_of s.path)) p _ refl).0 (both s.shadowed _ t).1 in
        (subst (λ c. Contains (s ∷ ss) c) is (contains_here s ss), ap (λ (u : Row). backup_names (names_of u.path)) (sym is) ∙ same)
    by_test rest_of false t h = let rest = rest_of h in (contains_there s r ss rest.0, rest.1)
