-- The text of a place below the aside folder.
use Rattle.std.proofs.Common.{◌≡◌, ◌≢◌, ◌⊎◌, ℕ, ◌+◌, ◌*◌, ◌/◌, ◌%◌, ◌<◌, ◌≤◌, ◌^◌, Bool, true, false, not, ◌&&◌, ◌==◌, nat_le, List, [], ◌∷◌, ◌++◌, length, refl, sym, ap, ◌∙◌, subst, inl, inr, codes, lit<, arith, length-append}
use Rattle.std.specs.Fmt.{decimal}
use Rattle.std.specs.List.{list_all}
use Rattle.std.specs.Str.{bytes_eq}
use Rattle.std.specs.declared.option.Option.{Option}
use Rattle.std.specs.declared.option.Option.TheVariants.{None, Some}
use Rattle.std.proofs.lemmas.Bool.{and_from, and_parts}
use Rattle.std.proofs.lemmas.Bool.Decides.{nat_tests}
use Rattle.std.proofs.lemmas.Fmt.{decimal_by_steps, length-decimal-le}
use Rattle.std.proofs.lemmas.List.Folds.{list_all-append}
use Rattle.rel_paths.specs.Names.{names_of, is_good_byte, is_good_name, is_name_within, user_limits, held_limits, IsUserPath, IsHeldPath, IsModId}
use Rattle.rel_paths.proofs.Limits.{IsWithin, IsWithin-from_fault, fault-from_IsWithin, IsHeldPath-user}
use Rattle.rel_paths.proofs.NamesOf.{names_of-between, same_text}
use Rattle.rel_paths.proofs.OneName.{names_of-name, name-from_IsModId, names_of-id}
use Rattle.tree_fs.specs.declared.place.Root.{Root}
use Rattle.tree_fs.specs.declared.place.Root.TheVariants.{Stage, Game, Keep}
use Rattle.tree_fs.specs.declared.place.Place.{Place}
use Rattle.tree_fs.specs.Spot.{Spot, spot_of, names_below}
use Rattle.tree_fs.specs.Places.{game_spot, staged_spot}
use Rattle.tree_fs.specs.Texts.{root_word, place_text}
use Rattle.tree_fs.proofs.Spots.{not_nameless}
use Rattle.backup_keep.specs.Places.{aside_spot, IsOrigin, in_game, in_mod}

-- a written number: good bytes, the first of which is no dot
record IsWritten (n : ℕ) (ds : List ℕ) : Type 0 where
  first : ℕ
  rest : List ℕ
  split : ds ≡ first ∷ rest
  digit : 48 ≤ first
  good : list_all is_good_byte ds ≡ true

good_digit : (m : ℕ) → m < 10 → is_good_byte (48 + m) ≡ true
good_digit m h = grind (arith, nat_tests)

is_written : (n : ℕ) → n < 2 ^ 64 → IsWritten n (decimal n)
is_written n wide = decimal_by_steps IsWritten one more n wide
  where
    one : (n : ℕ) → n < 10 → IsWritten n ((48 + n) ∷ [])
    one n h = record { first = 48 + n; rest = []; split = refl; digit = omega arith; good = λ i. good_digit n h i && true }

    more : (n : ℕ) (ds : List ℕ) → 10 ≤ n → IsWritten (n / 10) ds → IsWritten n (ds ++ (48 + n % 10) ∷ [])
    more n ds h is = record {
      first = is.first;
      rest = is.rest ++ (48 + n % 10) ∷ [];
      split = ap (λ l. l ++ (48 + n % 10) ∷ []) is.split;
      digit = is.digit;
      good = list_all-append is_good_byte ds ((48 + n % 10) ∷ []) ∙ and_from (list_all is_good_byte ds) (is_good_byte (48 + n % 10) && true) is.good (λ i. good_digit (n % 10) (small n) i && true);
    }
      where
        small : (n : ℕ) → n % 10 < 10
        small n = grind arith

good_number : (n : ℕ) → n < 2 ^ 64 → is_good_name (decimal n) ≡ true
good_number n wide = by (decimal n) (is_written n wide)
  where
    apart : (a : ℕ) → 48 ≤ a → (46 == a) ≡ false
    apart a h = grind (arith, nat_tests)

    apart_too : (a : ℕ) → 48 ≤ a → (a == 46) ≡ false
    apart_too a h = grind (arith, nat_tests)

    by : (ds : List ℕ) → IsWritten n ds → is_good_name ds ≡ true
    by ds is = subst (λ l. is_good_name l ≡ true) (sym is.split) (good is.first is.rest is.digit (subst (λ l. list_all is_good_byte l ≡ true) is.split is.good))
      where
        good : (a : ℕ) (bs : List ℕ) → 48 ≤ a → list_all is_good_byte (a ∷ bs) ≡ true → is_good_name (a ∷ bs) ≡ true
        good a rest h all =
            let some : not (length (a ∷ rest) == 0) ≡ true = grind (arith, nat_tests) in
            let e = apart_too a h in
            λ i. some i && not (e i && bytes_eq rest []) && not (e i && bytes_eq rest (46 ∷ [])) && all i

-- a number of 32 bits has at most ten digits
short_number : (n : ℕ) → n < 4294967296 → length (decimal n) ≤ 10
short_number n h = length-decimal-le 10 n (lit< tt) (omega arith) (omega arith)

within_number : (n : ℕ) → n < 4294967296 → is_name_within 254 (decimal n) ≡ true
within_number n h =
    let wide : n < 2 ^ 64 = omega arith in
    let short = short_number n h in
    let fits : nat_le (length (decimal n)) 254 ≡ true = grind (arith, nat_tests) in
    and_from (is_good_name (decimal n)) (nat_le (length (decimal n)) 254) (good_number n wide) fits

good_root : (r : Root) → is_name_within 254 (root_word r) ≡ true
good_root Stage = refl
good_root Game = refl
good_root Keep = refl

root_length : (r : Root) → length (root_word r) ≤ 5
root_length Stage = omega arith
root_length Game = omega arith
root_length Keep = omega arith

abbrev pub aside_text : ℕ → Root → List ℕ → List ℕ
aside_text n r path = codes "aside" ++ 47 ∷ (decimal n ++ 47 ∷ (root_word r ++ 47 ∷ path))

root_name : (r : Root) → names_of (root_word r) ≡ root_word r ∷ []
root_name r = names_of-name (root_word r) (and_parts (is_good_name (root_word r)) (nat_le (length (root_word r)) 254) (good_root r)).0

pub aside_names : (n : ℕ) (r : Root) (path : List ℕ) → n < 4294967296 → names_of (aside_text n r path) ≡ codes "aside" ∷ decimal n ∷ root_word r ∷ names_of path
aside_names n r path h =
    let wide : n < 2 ^ 64 = omega arith in
    names_of-between (codes "aside") (decimal n ++ 47 ∷ (root_word r ++ 47 ∷ path))
    ∙ (λ i. names_of-name (codes "aside") refl i
    ++ (names_of-between (decimal n) (root_word r ++ 47 ∷ path)
    ∙ (λ j. names_of-name (decimal n) (good_number n wide) j
    ++ (names_of-between (root_word r) path ∙ (λ k. root_name r k ++ names_of path)) j)) i)

-- what a path may have to be set aside
record FitsAside (path : List ℕ) : Type 0 where
  bytes : length path ≤ 1265
  names : length (names_of path) ≤ 65
  good : list_all (is_name_within 254) (names_of path) ≡ true

held_aside : (n : ℕ) (r : Root) (path : List ℕ) → n < 4294967296 → FitsAside path → IsHeldPath (aside_text n r path)
held_aside n r path h fits =
    let names = aside_names n r path h in
    let short = short_number n h in
    let root = root_length r in
    let bytes = fits.bytes in
    let few = fits.names in
    let one = length-append (root_word r) (47 ∷ path) in
    let two = length-append (decimal n) (47 ∷ (root_word r ++ 47 ∷ path)) in
    let three = length-append (codes "aside") (47 ∷ (decimal n ++ 47 ∷ (root_word r ++ 47 ∷ path))) in
    let count = ap length names in
    fault-from_IsWithin held_limits (aside_text n r path) (record {
      some = omega arith;
      bytes = omega arith;
      names = omega arith;
      good = subst (λ l. list_all (is_name_within 254) l ≡ true) (sym names)
          (and_from (is_name_within 254 (codes "aside")) _ refl
          (and_from (is_name_within 254 (decimal n)) _ (within_number n h)
          (and_from (is_name_within 254 (root_word r)) _ (good_root r) fits.good)));
    })

user_fits : (path : List ℕ) → IsUserPath path → FitsAside path
user_fits path user =
    let w = IsWithin-from_fault user_limits path user in
    let bytes = w.bytes in
    let names = w.names in
    record { bytes = omega arith; names = omega arith; good = (IsWithin-from_fault held_limits path (IsHeldPath-user path user)).good }

mod_fits : (id path : List ℕ) → IsModId id → IsUserPath path → FitsAside (id ++ 47 ∷ path)
mod_fits id path good user =
    let w = IsWithin-from_fault user_limits path user in
    let name = and_parts (is_good_name id) (nat_le (length id) 240) (name-from_IsModId id good) in
    let within = name.1 in
    let short : length id ≤ 240 = grind (arith, nat_tests) in
    let bytes = w.bytes in
    let few = w.names in
    let size = length-append id (47 ∷ path) in
    let names : names_of (id ++ 47 ∷ path) ≡ id ∷ names_of path = names_of-between id path ∙ ap (λ l. l ++ names_of path) (names_of-id id good) in
    let count = ap length names in
    record {
      bytes = omega arith;
      names = omega arith;
      good = subst (λ l. list_all (is_name_within 254) l ≡ true) (sym names)
          (and_from (is_name_within 254 id) _
          (and_from (is_good_name id) (nat_le (length id) 254) name.0 (grind (arith, nat_tests)))
          ((IsWithin-from_fault held_limits path (IsHeldPath-user path user)).good));
    }

-- a place that may be set aside: its root and its path
record IsPlaceOf (p : Place) : Type 0 where
  path : List ℕ
  rel : p.rel ≡ Some path
  fits : FitsAside path

place_of : (p : Place) → IsOrigin (spot_of p) → IsPlaceOf p
place_of p origin = by p.root p.rel refl origin
  where
    by : (r : Root) (rel : Option (List ℕ)) → p.rel ≡ rel → IsOrigin (record { root = r; names = names_below rel }) → IsPlaceOf p
    by r None is (in_game q user e) = absurd (not_nameless q (sym (ap (λ s. s.names) e)))
    by r None is (in_mod id q good user e) = absurd (nameless (ap (λ s. s.names) e))
      where
        nameless : [] ≡ id ∷ names_of q → ⊥
        nameless f = cc
    by r (Some path) is (in_game q user e) = record { path = path; rel = is; fits = subst FitsAside (sym (same_text path q (ap (λ s. s.names) e))) (user_fits q user) }
    by r (Some path) is (in_mod id q good user e) =
        let text : path ≡ id ++ 47 ∷ q = same_text path (id ++ 47 ∷ q) (ap (λ s. s.names) e ∙ sym (names_of-between id q ∙ ap (λ l. l ++ names_of q) (names_of-id id good))) in
        record { path = path; rel = is; fits = subst FitsAside (sym text) (mod_fits id q good user) }

abbrev pub text_of_aside : ℕ → Place → List ℕ
text_of_aside n p = codes "aside/" ++ (decimal n ++ (47 ∷ place_text p))

text_is : (n : ℕ) (p : Place) (is : IsPlaceOf p) → text_of_aside n p ≡ aside_text n p.root is.path
text_is n p is = ap (λ rel. codes "aside/" ++ (decimal n ++ (47 ∷ place_text (record { root = p.root; rel = rel })))) is.rel

pub held_place : (n : ℕ) (p : Place) → n < 4294967296 → IsOrigin (spot_of p) → IsHeldPath (text_of_aside n p)
held_place n p h origin =
    let is = place_of p origin in
    subst IsHeldPath (sym (text_is n p is)) (held_aside n p.root is.path h is.fits)

pub aside_place-spot : (n : ℕ) (p : Place) → n < 4294967296 → IsOrigin (spot_of p) → names_of (text_of_aside n p) ≡ (aside_spot n (spot_of p)).names
aside_place-spot n p h origin =
    let is = place_of p origin in
    ap names_of (text_is n p is) ∙ aside_names n p.root is.path h
    ∙ ap (λ rel. codes "aside" ∷ decimal n ∷ root_word p.root ∷ names_below rel) (sym is.rel)
