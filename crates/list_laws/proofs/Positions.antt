-- The places at which a test passes.
use Rattle.std.proofs.Common.{◌≡◌, zero, suc, ◌<◌, ◌≤◌, ◌+◌, ℕ, nat_lt, Bool, true, false, not, ◌&&◌, cond, List, [], ◌∷◌, length, filter, take, drop, ap, position, Some, None, refl, ltb-false, le-ltb, arith}
use Rattle.std.specs.List.{list_all, position_or_len, AllWithin}
use Rattle.std.proofs.lemmas.List.Sums.{prefix_len-le-length}
use Rattle.std.proofs.lemmas.List.Quantifiers.{position-Some}

-- the test passes at each item just where its opposite has no place
pub passes-from_place : {X : Type 0} (p : X → Bool) (xs : List X) → position_or_len (λ x. not (p x)) xs ≡ length xs → list_all p xs ≡ true
passes-from_place p [] e = refl
passes-from_place p (x ∷ xs) e =
    let rest : position_or_len (λ y. not (p y)) xs ≡ length xs → list_all p xs ≡ true = passes-from_place p xs in
    elim (p x) as (λ b. cond (not (not b)) (1 + position_or_len (λ y. not (p y)) xs) 0 ≡ length (x ∷ xs) → (b && list_all p xs) ≡ true) [
      | true ↦ λ q. rest (omega arith)
      | false ↦ λ q. absurd (omega arith)
    ] e

pub place-from_passes : {X : Type 0} (p : X → Bool) (xs : List X) → list_all p xs ≡ true → position_or_len (λ x. not (p x)) xs ≡ length xs
place-from_passes p [] e = refl
place-from_passes p (x ∷ xs) e =
    let rest : list_all p xs ≡ true → position_or_len (λ y. not (p y)) xs ≡ length xs = place-from_passes p xs in
    elim (p x) as (λ b. (b && list_all p xs) ≡ true → cond (not (not b)) (1 + position_or_len (λ y. not (p y)) xs) 0 ≡ length (x ∷ xs)) [
      | true ↦ λ q. let more : position_or_len (λ y. not (p y)) xs ≡ length xs = rest q in omega arith
      | false ↦ λ q. let none : ⊥ = cc in absurd none
    ] e

pub place-from_none : {X : Type 0} (p : X → Bool) (xs : List X) → position p xs ≡ None → position_or_len p xs ≡ length xs
place-from_none p xs e =
    let most : position_or_len p xs ≤ length xs = prefix_len-le-length (λ x. not (p x)) xs in
    elim (nat_lt (position_or_len p xs) (length xs)) as (λ b. nat_lt (position_or_len p xs) (length xs) ≡ b → cond b (Some (position_or_len p xs)) None ≡ None → position_or_len p xs ≡ length xs) [
      | true ↦ λ t q. let none : ⊥ = cc in absurd none
      | false ↦ λ t q. let least : length xs ≤ position_or_len p xs = ltb-false (position_or_len p xs) (length xs) t in omega arith
    ] refl e

pub none-from_place : {X : Type 0} (p : X → Bool) (xs : List X) → position_or_len p xs ≡ length xs → position p xs ≡ None
none-from_place p xs e =
    let past : nat_lt (position_or_len p xs) (length xs) ≡ false = le-ltb (position_or_len p xs) (length xs) (omega arith) in
    rw past refl

pub place-from_some : {X : Type 0} (p : X → Bool) (xs : List X) (i : ℕ) → position p xs ≡ Some i → i ≡ position_or_len p xs
place-from_some p xs i h = by (nat_lt (position_or_len p xs) (length xs)) h
  where
    by : (b : Bool) → cond b (Some (position_or_len p xs)) None ≡ Some i → i ≡ position_or_len p xs
    by true e = cc
    by false e = let never : ⊥ = cc in absurd never

pub place_below : {X : Type 0} (p : X → Bool) (xs : List X) (i : ℕ) → position p xs ≡ Some i → i < length xs
place_below p [] i h = let never : ⊥ = cc in absurd never
place_below p (x ∷ xs) i h = (position-Some p (x ∷ xs) i x h).0

-- items that pass and stand together are what a filter leaves
pub filter_mid : {X : Type 0} (p : X → Bool) (xs : List X) (s n : ℕ) → AllWithin (λ x. p x ≡ false) xs 0 s → AllWithin (λ x. p x ≡ true) xs s (s + n) → AllWithin (λ x. p x ≡ false) xs (s + n) (length xs)
    → s + n ≤ length xs → filter p xs ≡ take n (drop s xs)
filter_mid p [] zero zero a b c l = refl
filter_mid p [] zero (suc n) a b c l = refl
filter_mid p [] (suc s) zero a b c l = refl
filter_mid p [] (suc s) (suc n) a b c l = refl
filter_mid p (x ∷ xs) (suc s) n a b c l =
    let first : p x ≡ false = a 0 x (omega arith) (omega arith) in
    rw first (filter_mid p xs s n (λ k d lo hi. a (suc k) d (omega arith) (omega (arith, hi))) (λ k d lo hi. b (suc k) d (omega (arith, lo)) (omega (arith, hi))) (λ k d lo hi. c (suc k) d (omega (arith, lo)) (omega (arith, hi))) (omega (arith, l)))
filter_mid p (x ∷ xs) zero (suc n) a b c l =
    let first : p x ≡ true = b 0 x (omega arith) (omega arith) in
    rw first (ap (λ t. x ∷ t) (filter_mid p xs zero n (λ k d lo hi. absurd (omega (arith, hi))) (λ k d lo hi. b (suc k) d (omega arith) (omega (arith, hi))) (λ k d lo hi. c (suc k) d (omega (arith, lo)) (omega (arith, hi))) (omega (arith, l))))
filter_mid p (x ∷ xs) zero zero a b c l =
    let first : p x ≡ false = c 0 x (omega arith) (omega arith) in
    rw first (filter_mid p xs zero zero (λ k d lo hi. absurd (omega (arith, hi))) (λ k d lo hi. absurd (omega (arith, hi))) (λ k d lo hi. c (suc k) d (omega arith) (omega (arith, hi))) (omega arith))
