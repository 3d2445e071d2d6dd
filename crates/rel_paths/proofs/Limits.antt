-- What a text within the limits has, and which limits are wider.
use Rattle.std.proofs.Common.{ltb-false, le-ltb, le-leb, leb-true, ◌≡◌, ◌<◌, ◌≤◌, ◌+◌, ℕ, nat_lt, nat_le, ◌==◌, Bool, true, false, not, cond, List, [], ◌∷◌, ◌++◌, length, position, refl, sym, ap, ◌∙◌, arith}
use Rattle.std.specs.List.{list_all}
use Rattle.std.specs.declared.option.Option.{Option}
use Rattle.std.specs.declared.option.Option.TheVariants.{None, Some}
use Rattle.std.proofs.lemmas.List.{length-append}
use Rattle.std.proofs.lemmas.List.Folds.{list_all-append}
use Rattle.rel_paths.proofs.NamesOf.{names_of-between, names_of-joined, joined-text}
use Rattle.rel_paths.specs.declared.names.Limits.{Limits}
use Rattle.rel_paths.specs.declared.control.Control.{Control}
use Rattle.rel_paths.specs.declared.control.Control.TheVariants.{Intent, IntentTemp, ManifestTemp, ProfileTemp, Profile, Manifest}
use Rattle.rel_paths.specs.declared.error.PathError.TheVariants.{Empty, Long, Deep}
use Rattle.rel_paths.specs.Controls.{control_path}
use Rattle.rel_paths.specs.Names.{names_of, is_good_name, is_name_within, joined, bad_name_fault, path_fault, user_limits, held_limits, IsUserPath, IsHeldPath}
use Rattle.std.proofs.lemmas.Bool.{and_parts, and_from}
use Rattle.list_laws.proofs.Truths.{some-from_test, test-from_some}
use Rattle.list_laws.proofs.Positions.{passes-from_place, place-from_passes, place-from_none, none-from_place}

-- no fault comes where no test finds one
no_fault : (a b c : Bool) (o : Option ℕ) → cond a (Some Empty) (cond b (Some Long) (cond c (Some Deep) (bad_name_fault o))) ≡ None → (a ≡ false) × (b ≡ false) × (c ≡ false) × (o ≡ None)
no_fault true b c o e = let none : ⊥ = cc in absurd none
no_fault false true c o e = let none : ⊥ = cc in absurd none
no_fault false false true o e = let none : ⊥ = cc in absurd none
no_fault false false false None e = (refl, refl, refl, refl)
no_fault false false false (Some k) e = let none : ⊥ = cc in absurd none

-- a text within the limits
pub record IsWithin (most : Limits) (text : List ℕ) : Type 0 where
  pub some : 0 < length text
  pub bytes : length text ≤ most.bytes
  pub names : length (names_of text) ≤ most.names
  pub good : list_all (is_name_within most.name_bytes) (names_of text) ≡ true

pub IsWithin-from_fault : (most : Limits) (text : List ℕ) → path_fault most text ≡ None → IsWithin most text
unfolding path_fault
IsWithin-from_fault most text e =
    let ok = is_name_within most.name_bytes in
    let tests = no_fault (length text == 0) (nat_lt most.bytes (length text)) (nat_lt most.names (length (names_of text))) (position (λ n. not (ok n)) (names_of text)) e in
    record {
      some = some-from_test (length text) tests.0;
      bytes = ltb-false most.bytes (length text) tests.1;
      names = ltb-false most.names (length (names_of text)) tests.2;
      good = passes-from_place ok (names_of text) (place-from_none (λ n. not (ok n)) (names_of text) tests.3);
    }

pub fault-from_IsWithin : (most : Limits) (text : List ℕ) → IsWithin most text → path_fault most text ≡ None
unfolding path_fault
fault-from_IsWithin most text h =
    let ok = is_name_within most.name_bytes in
    let empty : (length text == 0) ≡ false = test-from_some (length text) h.some in
    let long : nat_lt most.bytes (length text) ≡ false = le-ltb most.bytes (length text) h.bytes in
    let deep : nat_lt most.names (length (names_of text)) ≡ false = le-ltb most.names (length (names_of text)) h.names in
    let good : position (λ n. not (ok n)) (names_of text) ≡ None = none-from_place (λ n. not (ok n)) (names_of text) (place-from_passes ok (names_of text) h.good) in
    rw (empty, long, deep, good)

-- a name that is within so many bytes is within more
name_within_more : (few more : ℕ) → few ≤ more → (ns : List (List ℕ)) → list_all (is_name_within few) ns ≡ true → list_all (is_name_within more) ns ≡ true
name_within_more few more h [] e = refl
name_within_more few more h (n ∷ ns) e =
    let first = and_parts (is_name_within few n) (list_all (is_name_within few) ns) e in
    let parts = and_parts (is_good_name n) (nat_le (length n) few) first.0 in
    and_from (is_name_within more n) (list_all (is_name_within more) ns)
    (and_from (is_good_name n) (nat_le (length n) more) parts.0 (le-leb (length n) more (let fits : length n ≤ few = leb-true (length n) few parts.1 in omega arith)))
    (name_within_more few more h ns first.1)

-- a user path is a held path
pub IsHeldPath-user : (text : List ℕ) → IsUserPath text → IsHeldPath text
IsHeldPath-user text e =
    let h = IsWithin-from_fault user_limits text e in
    fault-from_IsWithin held_limits text record {
      some = h.some;
      bytes = omega arith;
      names = omega arith;
      good = name_within_more 240 254 (omega arith) (names_of text) h.good;
    }

-- a control place has a user path
pub IsUserPath-control : (which : Control) → IsUserPath (control_path which)
unfolding path_fault
IsUserPath-control Intent = refl
IsUserPath-control IntentTemp = refl
IsUserPath-control ManifestTemp = refl
IsUserPath-control ProfileTemp = refl
IsUserPath-control Profile = refl
IsUserPath-control Manifest = refl

-- of one name
pub names_of-control : (which : Control) → names_of (control_path which) ≡ control_path which ∷ []
names_of-control Intent = refl
names_of-control IntentTemp = refl
names_of-control ManifestTemp = refl
names_of-control ProfileTemp = refl
names_of-control Profile = refl
names_of-control Manifest = refl

pub IsHeldPath-control : (which : Control) → IsHeldPath (control_path which)
IsHeldPath-control which = IsHeldPath-user (control_path which) (IsUserPath-control which)

-- a text of good names has bytes
good_is_some : (most : ℕ) (text : List ℕ) → list_all (is_name_within most) (names_of text) ≡ true → 0 < length text
good_is_some most [] h = let never : ⊥ = cc in absurd never
good_is_some most (b ∷ bs) h = omega arith

-- what stands above a slash is within the limits of the whole, and so is what stands below it
pub IsWithin-above : (most : Limits) (above below : List ℕ) → IsWithin most (above ++ 47 ∷ below) → IsWithin most above
IsWithin-above most above below h =
    let ok = is_name_within most.name_bytes in
    let parts = and_parts (list_all ok (names_of above)) (list_all ok (names_of below)) (sym (list_all-append ok (names_of above) (names_of below)) ∙ sym (ap (list_all ok) (names_of-between above below)) ∙ h.good) in
    let count : length (names_of (above ++ 47 ∷ below)) ≡ length (names_of above) + length (names_of below) = ap length (names_of-between above below) ∙ length-append (names_of above) (names_of below) in
    let size : length (above ++ 47 ∷ below) ≡ length above + length (47 ∷ below) = length-append above (47 ∷ below) in
    let bytes_most = h.bytes in
    let names_most = h.names in
    record { some = good_is_some most.name_bytes above parts.0; bytes = omega arith; names = omega arith; good = parts.0 }

pub IsWithin-below : (most : Limits) (above below : List ℕ) → IsWithin most (above ++ 47 ∷ below) → IsWithin most below
IsWithin-below most above below h =
    let ok = is_name_within most.name_bytes in
    let parts = and_parts (list_all ok (names_of above)) (list_all ok (names_of below)) (sym (list_all-append ok (names_of above) (names_of below)) ∙ sym (ap (list_all ok) (names_of-between above below)) ∙ h.good) in
    let count : length (names_of (above ++ 47 ∷ below)) ≡ length (names_of above) + length (names_of below) = ap length (names_of-between above below) ∙ length-append (names_of above) (names_of below) in
    let size : length (above ++ 47 ∷ below) ≡ length above + length (47 ∷ below) = length-append above (47 ∷ below) in
    let bytes_most = h.bytes in
    let names_most = h.names in
    record { some = good_is_some most.name_bytes below parts.1; bytes = omega arith; names = omega arith; good = parts.1 }

-- a joined path is within the limits where and_parts are, and the sums of bytes and names
pub IsWithin-joined : (most : Limits) (above below : List ℕ) → IsWithin most above → IsWithin most below → length above + length below < most.bytes → length (names_of above) + length (names_of below) ≤ most.names → IsWithin most (joined above below)
IsWithin-joined most above below a b bytes_fit names_fit =
    let ok = is_name_within most.name_bytes in
    let count : length (names_of (joined above below)) ≡ length (names_of above) + length (names_of below) = ap length (names_of-joined above below) ∙ length-append (names_of above) (names_of below) in
    let size : length (joined above below) ≡ length above + length (47 ∷ below) = ap length (joined-text above below) ∙ length-append above (47 ∷ below) in
    record {
      some = omega arith;
      bytes = omega arith;
      names = omega arith;
      good = ap (list_all ok) (names_of-joined above below) ∙ list_all-append ok (names_of above) (names_of below) ∙ and_from (list_all ok (names_of above)) (list_all ok (names_of below)) a.good b.good;
    }

pub IsHeldPath-joined : (above below : List ℕ) → IsHeldPath above → IsHeldPath below → length above + length below < 1400 → length (names_of above) + length (names_of below) ≤ 72 → IsHeldPath (joined above below)
IsHeldPath-joined above below a b bytes_fit names_fit =
    fault-from_IsWithin held_limits (joined above below)
    (IsWithin-joined held_limits above below (IsWithin-from_fault held_limits above a) (IsWithin-from_fault held_limits below b) bytes_fit names_fit)

pub IsHeldPath-above : (above below : List ℕ) → IsHeldPath (above ++ 47 ∷ below) → IsHeldPath above
IsHeldPath-above above below h =
    fault-from_IsWithin held_limits above (IsWithin-above held_limits above below (IsWithin-from_fault held_limits (above ++ 47 ∷ below) h))

pub IsHeldPath-below : (above below : List ℕ) → IsHeldPath (above ++ 47 ∷ below) → IsHeldPath below
IsHeldPath-below above below h =
    fault-from_IsWithin held_limits below (IsWithin-below held_limits above below (IsWithin-from_fault held_limits (above ++ 47 ∷ below) h))

pub IsUserPath-above : (above below : List ℕ) → IsUserPath (above ++ 47 ∷ below) → IsUserPath above
IsUserPath-above above below h =
    fault-from_IsWithin user_limits above (IsWithin-above user_limits above below (IsWithin-from_fault user_limits (above ++ 47 ∷ below) h))

pub IsUserPath-below : (above below : List ℕ) → IsUserPath (above ++ 47 ∷ below) → IsUserPath below
IsUserPath-below above below h =
    fault-from_IsWithin user_limits below (IsWithin-below user_limits above below (IsWithin-from_fault user_limits (above ++ 47 ∷ below) h))
