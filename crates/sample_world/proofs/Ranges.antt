-- What holds of each item of lists that are made of ranges.
use Rattle.std.proofs.Common.{◌≡◌, ◌<◌, ◌≤◌, ◌+◌, ℕ, zero, suc, Bool, true, false, cond, List, [], ◌∷◌, ◌++◌, map, filter, refl, sym, ap, subst, ◌∙◌, inl, inr, ◌⊎◌, add-one, append-nil, arith}
use Rattle.std.specs.List.{AllByRecursion, Contains, range_with_len, flat_map}
use Rattle.std.proofs.lemmas.List.Elements.{filter-append}
use Rattle.std.proofs.lemmas.List.{map-append}
use Rattle.list_laws.proofs.Alls.{all_append}
use Rattle.list_laws.proofs.Containing.{contains_here, contains_there}

pub all_range : (P : ℕ → Type 0) (a n : ℕ) → ((k : ℕ) → a ≤ k → k < a + n → P k) → AllByRecursion P (range_with_len a n)
all_range P a zero h = tt
all_range P a (suc n) h = (h a (omega arith) (omega arith), all_range P (a + 1) n (λ k lo hi. h k (omega (arith, lo)) (omega (arith, hi))))

pub all_flat_map : {X Y : Type 0} (P : Y → Type 0) (f : X → List Y) (xs : List X) → AllByRecursion (λ x. AllByRecursion P (f x)) xs → AllByRecursion P (flat_map f xs)
all_flat_map P f [] a = tt
all_flat_map P f (x ∷ xs) a = all_append P (f x) (flat_map f xs) a.0 (all_flat_map P f xs a.1)

range_suc : (a n : ℕ) → range_with_len a (suc n) ≡ range_with_len a n ++ (a + n) ∷ []
range_suc a zero = let e : a ≡ a + 0 = omega arith in ap (λ k. k ∷ []) e
range_suc a (suc n) =
    let e : a + 1 + n ≡ a + suc n = omega arith in
    ap (λ l. a ∷ l) (range_suc (a + 1) n ∙ ap (λ k. range_with_len (a + 1) n ++ k ∷ []) e)

pub range_next : (n : ℕ) → range_with_len 0 (n + 1) ≡ range_with_len 0 n ++ n ∷ []
range_next n =
    let e : 0 + n ≡ n = omega arith in
    ap (range_with_len 0) (add-one n) ∙ range_suc 0 n ∙ ap (λ k. range_with_len 0 n ++ k ∷ []) e

filter_more : {Y : Type 0} (p : ℕ → Bool) (f : ℕ → Y) (n : ℕ) → map f (filter p (range_with_len 0 (n + 1))) ≡ map f (filter p (range_with_len 0 n)) ++ map f (cond (p n) (n ∷ []) [])
filter_more p f n =
    ap (λ l. map f (filter p l)) (range_next n) ∙ ap (map f) (filter-append p (range_with_len 0 n) (n ∷ []))
    ∙ map-append f (filter p (range_with_len 0 n)) (cond (p n) (n ∷ []) [])

first_or_later : (a k : ℕ) → a ≤ k → (k ≡ a) ⊎ (a + 1 ≤ k)
first_or_later zero zero le = inl refl
first_or_later zero (suc k) le = inr (omega arith)
first_or_later (suc a) zero le = absurd (omega arith)
first_or_later (suc a) (suc k) le = elim (first_or_later a k (omega arith)) [ inl e ↦ inl (ap suc e) | inr l ↦ inr (omega arith) ]

pub contains_range : (a n k : ℕ) → a ≤ k → k < a + n → Contains (range_with_len a n) k
contains_range a zero k lo hi = absurd (omega arith)
contains_range a (suc n) k lo hi = elim (first_or_later a k lo) [
  | inl e ↦ subst (Contains (range_with_len a (suc n))) (sym e) (contains_here a (range_with_len (a + 1) n))
  | inr l ↦ contains_there a k (range_with_len (a + 1) n) (contains_range (a + 1) n k l (omega (arith, hi)))
]

-- a number more that passes, or doesn't
pub filter_passes : {Y : Type 0} (p : ℕ → Bool) (f : ℕ → Y) (n : ℕ) → p n ≡ true → map f (filter p (range_with_len 0 (n + 1))) ≡ map f (filter p (range_with_len 0 n)) ++ f n ∷ []
filter_passes p f n h = filter_more p f n ∙ ap (λ b. map f (filter p (range_with_len 0 n)) ++ map f (cond b (n ∷ []) [])) h

pub filter_fails : {Y : Type 0} (p : ℕ → Bool) (f : ℕ → Y) (n : ℕ) → p n ≡ false → map f (filter p (range_with_len 0 (n + 1))) ≡ map f (filter p (range_with_len 0 n))
filter_fails p f n h = filter_more p f n ∙ ap (λ b. map f (filter p (range_with_len 0 n)) ++ map f (cond b (n ∷ []) [])) h ∙ append-nil _
