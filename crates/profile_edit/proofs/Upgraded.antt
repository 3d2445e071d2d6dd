-- A profile of version 1 without a key of version 2 keeps as version 2 what a profile keeps.
use Rattle.std.proofs.Common.{◌≡◌, ◌⊎◌, ◌≤◌, ℕ, ◌+◌, zero, suc, List, [], ◌∷◌, Bool, true, false, not, nat_eq, nat_lt, if◌then◌else◌, Option, None, Some, codes, is_some, length, drop, slice_get, position, inl, inr, refl, sym, ap, subst, ◌∙◌, arith}
use Rattle.std.proofs.lemmas.Bool.Decides.{nat_tests}
use Rattle.std.specs.List.{AllByRecursion, position_or_len}
use Rattle.std.specs.Option.{option_map, option_or}
use Rattle.list_laws.proofs.Truths.{none-from_is_some, none-from_map}
use Rattle.toml.specs.Data.{Data, Members, get_member}
use Rattle.profile_toml.specs.Faults.{first_fault}
use Rattle.profile_toml.specs.Kept.{IsVersion, Fits, FitsMod, FitsRule}
use Rattle.profile_toml.specs.Records.{ProfileData, ModData, RuleData, type_ids}
use Rattle.profile_toml.specs.Tables.{Document}
use Rattle.profile_toml.specs.Unknown.{AreUnknown}
use Rattle.profile_edit.specs.declared.upgrade.NewKey.{NewKey}
use Rattle.profile_edit.specs.declared.upgrade.NewKey.TheVariants.{Fold, Types, Release, ModType, Range}
use Rattle.profile_edit.specs.Upgrades.{has_key, key_if, mod_key, first_new_key}

or_none : {E : Type 0} (a b : Option E) → option_or a b ≡ None → (a ≡ None) × (b ≡ None)
or_none None b h = (refl, h)
or_none (Some e) b h = cc

no_key : (o : Option Data) (key : NewKey) → key_if (is_some o) key ≡ None → o ≡ None
no_key None key h = refl
no_key (Some d) key h = cc

later : (n m : ℕ) → nat_lt (1 + n) (suc m) ≡ false → nat_lt n m ≡ false
later n m h = grind (arith, nat_tests)

above_none : (n : ℕ) → nat_lt 0 (suc n) ≡ true
above_none n = grind (arith, nat_tests)

none_passes_at : {X : Type 0} (p : X → Bool) (x : X) (xs : List X) (b : Bool) → p x ≡ b → nat_lt (position_or_len p (x ∷ xs)) (length (x ∷ xs)) ≡ false
    → (nat_lt (position_or_len p xs) (length xs) ≡ false → AllByRecursion (λ y. p y ≡ false) xs) → (p x ≡ false) × AllByRecursion (λ y. p y ≡ false) xs
none_passes_at p x xs true is h rest = let bad : true ≡ false = sym (above_none (length xs)) ∙ (rw is at h) in cc
none_passes_at p x xs false is h rest = (is, rest (later (position_or_len p xs) (length xs) (rw is at h)))

none_passes : {X : Type 0} (p : X → Bool) (xs : List X) → nat_lt (position_or_len p xs) (length xs) ≡ false → AllByRecursion (λ x. p x ≡ false) xs
none_passes p [] h = tt
none_passes p (x ∷ xs) h = none_passes_at p x xs (p x) refl h (none_passes p xs)

no_place : {X : Type 0} (p : X → Bool) (xs : List X) → position p xs ≡ None → nat_lt (position_or_len p xs) (length xs) ≡ false
no_place p xs h = by (nat_lt (position_or_len p xs) (length xs)) h
  where
    by : (b : Bool) → (if b then Some (position_or_len p xs) else None) ≡ None → b ≡ false
    by true e = cc
    by false e = refl

two_is_not_one : ◌≡◌ {A = ℕ} 2 1 → ⊥
two_is_not_one e = omega (arith, e)

upgraded_rules : (rs : List RuleData) → AllByRecursion (FitsRule 1) rs → AllByRecursion (λ r. has_key (codes "range") r.extra ≡ false) rs → AllByRecursion (FitsRule 2) rs
upgraded_rules [] h none = tt
upgraded_rules (r ∷ rs) h none = (
  record { range = λ e. absurd (two_is_not_one e); extra = (h.0.extra.0, (h.0.extra.1.0, (none-from_is_some (get_member (codes "range") r.extra) none.0, tt))) },
  upgraded_rules rs h.1 none.1,
)

upgraded_mod : (i : ℕ) (ids : List (List ℕ)) (m : List ℕ × ModData) → FitsMod 1 ids m.1 → mod_key i m ≡ None → FitsMod 2 ids m.1
upgraded_mod i ids m h none =
    let range = option_map (λ j. Range i j) (position (λ r. has_key (codes "range") r.extra) m.1.rules) in
    let kind = key_if (has_key (codes "type") m.1.extra) (ModType i) in
    let past_release = or_none (key_if (has_key (codes "release") m.1.extra) (Release i)) (option_or kind range) none in
    let past_type = or_none kind range past_release.1 in
    let rules = none_passes (λ r. has_key (codes "range") r.extra) m.1.rules (no_place (λ r. has_key (codes "range") r.extra) m.1.rules (none-from_map (λ j. Range i j) (position (λ r. has_key (codes "range") r.extra) m.1.rules) (sym past_type.1))) in
    record {
      release = λ e. absurd (two_is_not_one e);
      mod_type = h.mod_type;
      rules = upgraded_rules m.1.rules h.rules rules;
      extra = (
        h.extra.0,
        (h.extra.1.0, (no_key (get_member (codes "release") m.1.extra) (Release i) past_release.0, (no_key (get_member (codes "type") m.1.extra) (ModType i) past_type.0, (h.extra.1.1.0, tt)))),
      );
    }

upgraded_mods : (n : ℕ) (ids : List (List ℕ)) (ms : List (List ℕ × ModData)) → AllByRecursion (λ m. FitsMod 1 ids m.1) ms → first_fault mod_key n ms ≡ None → AllByRecursion (λ m. FitsMod 2 ids m.1) ms
upgraded_mods n ids [] h none = tt
upgraded_mods n ids (m ∷ ms) h none =
    let parts = or_none (mod_key n m) (first_fault mod_key (n + 1) ms) none in
    (upgraded_mod n ids m h.0 parts.0, upgraded_mods (n + 1) ids ms h.1 parts.1)

upgraded_document : (ms : Members) → AreUnknown 1 Document ms → get_member (codes "fold") ms ≡ None → get_member (codes "types") ms ≡ None → AreUnknown 2 Document ms
upgraded_document ms h no_fold no_types = record {
  others = (h.others.0, (no_fold, (no_types, (h.others.1.0, (h.others.1.1.0, tt)))));
  shallow = h.shallow;
  no_floats = h.no_floats;
}

pub upgraded : (p : ProfileData) → Fits p → p.version ≡ 1 → first_new_key p ≡ None → Fits (record p { version = 2 })
upgraded p h one none =
    let by_mod = first_fault mod_key 0 p.mods in
    let types = key_if (has_key (codes "types") p.extra) Types in
    let past_fold = or_none (key_if (has_key (codes "fold") p.extra) Fold) (option_or types by_mod) none in
    let past_types = or_none types by_mod past_fold.1 in
    record {
      version = inr refl;
      types = λ e. absurd (two_is_not_one e);
      ids = h.ids;
      mods = upgraded_mods 0 (type_ids p.types) p.mods (subst (λ v. AllByRecursion (λ m. FitsMod v (type_ids p.types) m.1) p.mods) one h.mods) past_types.1;
      extra = upgraded_document p.extra (subst (λ v. AreUnknown v Document p.extra) one h.extra) (no_key (get_member (codes "fold") p.extra) Fold past_fold.0) (no_key (get_member (codes "types") p.extra) Types past_types.0);
    }

-- a version that isn't 1 is 2
pub second : (version : ℕ) → IsVersion version → (version ≡ 1 → ⊥) → version ≡ 2
second version (inl is) h = absurd (h is)
second version (inr is) h = is

pub not_first : (version : ℕ) → (version ≡ 1 → ⊥) → nat_eq version 1 ≡ false
not_first version h = by (nat_eq version 1) refl
  where
    by : (b : Bool) → nat_eq version 1 ≡ b → b ≡ false
    by true is = absurd (h (grind (arith, nat_tests)))
    by false is = refl

-- ---- a walk over the mods by their indices

drop_get : {X : Type 0} (xs : List X) (n : ℕ) (x : X) → slice_get xs n ≡ Some x → drop n xs ≡ x ∷ drop (n + 1) xs
drop_get [] n x h = cc
drop_get (y ∷ ys) zero x h = let same : y ≡ x = cc in ap (λ z. z ∷ ys) same
drop_get (y ∷ ys) (suc n) x h =
    let next : suc (n + 1) ≡ suc n + 1 = omega arith in
    drop_get ys n x h ∙ ap (λ k. x ∷ drop k (y ∷ ys)) next

module _ (es : List (List ℕ × ModData)) (n : ℕ) (m : List ℕ × ModData) (at : slice_get es n ≡ Some m) (so_far : first_fault mod_key n (drop n es) ≡ first_fault mod_key 0 es) where
  -- the first mod with such a key
  pub key_here : (key : NewKey) → mod_key n m ≡ Some key → Some key ≡ first_fault mod_key 0 es
  key_here key h = sym (ap (λ o. option_or o (first_fault mod_key (n + 1) (drop (n + 1) es))) h) ∙ ap (first_fault mod_key n) (sym (drop_get es n m at)) ∙ so_far

  -- a mod without one
  pub key_later : mod_key n m ≡ None → first_fault mod_key (n + 1) (drop (n + 1) es) ≡ first_fault mod_key 0 es
  key_later h = sym (ap (λ o. option_or o (first_fault mod_key (n + 1) (drop (n + 1) es))) h) ∙ ap (first_fault mod_key n) (sym (drop_get es n m at)) ∙ so_far

drop_past : {X : Type 0} (xs : List X) (n : ℕ) → length xs ≤ n → drop n xs ≡ []
drop_past [] zero h = refl
drop_past [] (suc n) h = refl
drop_past (x ∷ xs) zero h = absurd (omega (arith, h))
drop_past (x ∷ xs) (suc n) h = drop_past xs n (omega (arith, h))

pub no_key_at_all : (es : List (List ℕ × ModData)) (n : ℕ) → length es ≤ n → first_fault mod_key n (drop n es) ≡ first_fault mod_key 0 es → None ≡ first_fault mod_key 0 es
no_key_at_all es n past so_far = sym (ap (first_fault mod_key n) (drop_past es n past)) ∙ so_far
