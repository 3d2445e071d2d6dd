-- Texts that are bases, and texts that are ids of types.
use Rattle.std.proofs.Common.{◌≡◌, ℕ, Bool, true, false, not, ◌&&◌, nat_le, nat_eq, List, [], ◌∷◌, Option, None, Some, is_none, length, if◌then◌else◌, ◌<◌, ◌≤◌, arith, refl, sym, ap, subst, ◌∙◌}
use Rattle.std.proofs.lemmas.Bool.Decides.{nat_tests}
use Rattle.std.specs.List.{AllByRecursion, list_any}
use Rattle.std.specs.Cmp.Lexicographic.{pointwise}
use Rattle.std.proofs.lemmas.Slice.Eq.{bytes_eq-Decides}
use Rattle.rel_paths.specs.Names.{IsUserPath, IsModId, id_fault, is_base, is_reserved, names_of, path_fault, user_limits}
use Rattle.profile_toml.specs.Kept.{is_type}
use Rattle.profile_toml.specs.Texts.{is_mod_id, is_user_path}

-- a user path is a base by three tests
pub base_by : (path : List ℕ) (reserved few short : Bool) → IsUserPath path → is_reserved (names_of path) ≡ reserved → nat_le (length (names_of path)) 8 ≡ few → nat_le (length path) 300 ≡ short
    → (not reserved && few && short) ≡ is_base path
unfolding is_base
base_by path reserved few short user a b c = rw (user, a, b, c) refl

pub too_many : (n : ℕ) → 8 < n → nat_le n 8 ≡ false
too_many n h = grind (arith, nat_tests)

pub not_too_many : (n : ℕ) → n ≤ 8 → nat_le n 8 ≡ true
not_too_many n h = grind (arith, nat_tests)

-- a text that is no user path is no base
pub no_base : (text : List ℕ) → is_user_path text ≡ false → is_base text ≡ false
unfolding is_base
no_base text h = rw h refl

none_of : (text : List ℕ) (k : List ℕ) (b : Bool) → pointwise nat_eq text k ≡ b → IsModId k → is_mod_id text ≡ false → b ≡ false
none_of text k true p good bad = absurd (differ (sym good_text ∙ bad))
  where
    differ : true ≡ false → ⊥
    differ q = cc

    good_text : is_mod_id text ≡ true
    good_text = rw ((bytes_eq-Decides text k).0 p) (rw good refl)
none_of text k false p good bad = refl

-- a text that is no id is the id of no type
pub no_type : (ids : List (List ℕ)) (text : List ℕ) → AllByRecursion IsModId ids → is_mod_id text ≡ false → is_type ids text ≡ false
no_type [] text h bad = refl
no_type (k ∷ ks) text h bad =
    let here : pointwise nat_eq text k ≡ false = none_of text k (pointwise nat_eq text k) refl h.0 bad in
    rw here (no_type ks text h.1 bad)

-- what is read where a test holds
pub none_if : {A : Type 0} (b : Bool) (x : A) → None ≡ (if b then Some x else None) → b ≡ false
none_if true x h = cc
none_if false x h = refl

pub some_if : {A : Type 0} (b : Bool) (x y : A) → Some y ≡ (if b then Some x else None) → (b ≡ true) × (y ≡ x)
some_if true x y h = (refl, cc)
some_if false x y h = cc

pub if_false : {A : Type 0} (b : Bool) (x : A) → b ≡ false → None ≡ (if b then Some x else None)
if_false b x h = rw h refl

pub if_true : {A : Type 0} (b : Bool) (x y : A) → b ≡ true → y ≡ x → Some y ≡ (if b then Some x else None)
if_true b x y h is = rw h (ap Some is)
