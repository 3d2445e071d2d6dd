-- Texts and lists of texts, compared byte by byte.
use Rattle.std.proofs.Common.{◌≡◌, Bool, ◌≢◌, ◌⊎◌, ◌<◌, ℕ, nat_eq, true, false, List, length, drop, ◌++◌, Decides, bytes_eq, refl, sym, ap, ◌∙◌, eqb-true, eq-eqb, inl, inr, arith}
use Rattle.std.specs.List.{starts_with, list_any, Contains}
use Rattle.std.specs.Cmp.Lexicographic.{pointwise}
use Rattle.std.proofs.lemmas.Bool.Decides.{same_from_decides, Decides-like, Decides-eqb}
use Rattle.std.proofs.lemmas.Slice.Eq.{starts_is, slice_eq-Decides, bytes_eq-Decides}
use Rattle.list_laws.proofs.Truths.{tells}
use Rattle.list_laws.proofs.Containing.{any-from_contains, contains-from_any_one}

pub bytes_eq-itself : (a : List ℕ) → bytes_eq a a ≡ true
bytes_eq-itself a = (bytes_eq-Decides a a).1 refl

pub bytes_eq_tells : (a b : List ℕ) → ((bytes_eq a b ≡ true) × (a ≡ b)) ⊎ ((bytes_eq a b ≡ false) × (a ≢ b))
bytes_eq_tells a b = tells (bytes_eq a b) (bytes_eq-Decides a b)

pub bytes_eq-apart : (a b : List ℕ) → a ≢ b → bytes_eq a b ≡ false
bytes_eq-apart a b apart = elim (bytes_eq_tells a b) [ inl t ↦ absurd (apart t.1) | inr t ↦ t.0 ]

pub bytes_eq-turned : (a b : List ℕ) → bytes_eq a b ≡ bytes_eq b a
bytes_eq-turned a b = same_from_decides {P = a ≡ b} _ _ (bytes_eq-Decides a b) (Decides-like _ sym sym (bytes_eq-Decides b a))

-- a longer text is another one
pub longer_differs : (xs ys : List ℕ) → length ys < length xs → bytes_eq xs ys ≡ false
longer_differs xs ys h = bytes_eq-apart xs ys (λ e. let same : length xs ≡ length ys = ap length e in omega arith)

pub names_eq-Decides : (xs ys : List (List ℕ)) → Decides (pointwise bytes_eq xs ys) (xs ≡ ys)
names_eq-Decides xs ys = slice_eq-Decides bytes_eq-Decides xs ys _ refl

pub names_eq_tells : (a b : List (List ℕ)) → ((pointwise bytes_eq a b ≡ true) × (a ≡ b)) ⊎ ((pointwise bytes_eq a b ≡ false) × (a ≢ b))
names_eq_tells a b = tells (pointwise bytes_eq a b) (names_eq-Decides a b)

-- Texts and numbers among others

pub text_in-from_any : (texts : List (List ℕ)) (t : List ℕ) → list_any (bytes_eq t) texts ≡ true → Contains texts t
text_in-from_any texts t h = contains-from_any_one (bytes_eq t) texts t (λ y e. sym ((bytes_eq-Decides t y).0 e)) h

pub any-from_text_in : (texts : List (List ℕ)) (t : List ℕ) → Contains texts t → list_any (bytes_eq t) texts ≡ true
any-from_text_in texts t c = any-from_contains (bytes_eq t) texts t (bytes_eq-itself t) c

pub text_in_or_not : (texts : List (List ℕ)) (t : List ℕ) → Contains texts t ⊎ (Contains texts t → ⊥)
text_in_or_not texts t = by_test (list_any (bytes_eq t) texts) refl
  where
    by_test : (b : Bool) → list_any (bytes_eq t) texts ≡ b → Contains texts t ⊎ (Contains texts t → ⊥)
    by_test true e = inl (text_in-from_any texts t e)
    by_test false e = inr (λ c. let h : true ≡ false = sym (any-from_text_in texts t c) ∙ e in cc)

pub number_in-from_any : (ns : List ℕ) (n : ℕ) → list_any (nat_eq n) ns ≡ true → Contains ns n
number_in-from_any ns n h = contains-from_any_one (nat_eq n) ns n (λ y e. sym (eqb-true n y e)) h

pub any-from_number_in : (ns : List ℕ) (n : ℕ) → Contains ns n → list_any (nat_eq n) ns ≡ true
any-from_number_in ns n c = any-from_contains (nat_eq n) ns n (eq-eqb n n refl) c

pub number_in_or_not : (ns : List ℕ) (n : ℕ) → Contains ns n ⊎ (Contains ns n → ⊥)
number_in_or_not ns n = by_test (list_any (nat_eq n) ns) refl
  where
    by_test : (b : Bool) → list_any (nat_eq n) ns ≡ b → Contains ns n ⊎ (Contains ns n → ⊥)
    by_test true e = inl (number_in-from_any ns n e)
    by_test false e = inr (λ c. let h : true ≡ false = sym (any-from_number_in ns n c) ∙ e in cc)

-- What the test of a beginning tells: of bytes, and of lists of texts

pub bytes_begin : (p t : List ℕ) → starts_with nat_eq p t ≡ true → p ≡ t ++ drop (length t) p
bytes_begin p t h = (starts_is Decides-eqb p t _ refl).0 h

pub bytes_begin-test : (p t x : List ℕ) → p ≡ t ++ x → starts_with nat_eq p t ≡ true
bytes_begin-test p t x e = (starts_is Decides-eqb p t _ refl).1 x e

pub names_begin : (names first : List (List ℕ)) → starts_with bytes_eq names first ≡ true → names ≡ first ++ drop (length first) names
names_begin names first h = (starts_is bytes_eq-Decides names first _ refl).0 h

pub names_begin-test : (names first rest : List (List ℕ)) → names ≡ first ++ rest → starts_with bytes_eq names first ≡ true
names_begin-test names first rest e = (starts_is bytes_eq-Decides names first _ refl).1 rest e
