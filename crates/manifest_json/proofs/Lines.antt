-- Rising texts, and texts that begin others.
use Rattle.std.proofs.Common.{◌≡◌, ℕ, nat_eq, true, List, [], ◌∷◌, ◌++◌, length, drop, refl, sym, ap, ◌∙◌, arith}
use Rattle.std.specs.List.{starts_with, AllByRecursion}
use Rattle.std.specs.Ordering.{nat_cmp, ordering_then}
use Rattle.std.specs.declared.cmp.Ordering.TheVariants.{Less, Equal, Greater}
use Rattle.std.specs.Cmp.Lexicographic.{slice_cmp, nat_list_cmp_total}
use Rattle.std.proofs.lemmas.Bool.Decides.{nat_tests, Decides-eqb}
use Rattle.std.proofs.lemmas.Slice.Eq.{starts_is}
use Rattle.manifest_json.specs.Paths.{is_above}
use Rattle.manifest_json.specs.Stack.{IsLine}
use Rattle.manifest_json.proofs.Booleans.{less, is_less}

nat_less : (a b : ℕ) → nat_cmp a b ≡ Less → nat_cmp b a ≡ Greater
nat_less a b h = grind (arith, nat_tests)

nat_same : (a b : ℕ) → nat_cmp a b ≡ Equal → a ≡ b
nat_same a b h = grind (arith, nat_tests)

-- what stands between a text and one that it begins, begins with it too
pub between : (t r p x : List ℕ) → slice_cmp nat_cmp t r ≡ Less → slice_cmp nat_cmp r p ≡ Less → p ≡ t ++ x → (y : List ℕ) × (r ≡ t ++ y)
between [] r p x h k e = (r, refl)
between (a ∷ t) [] p x h k e = let never : ⊥ = cc in absurd never
between (a ∷ t) (b ∷ r) [] x h k e = let never : ⊥ = cc in absurd never
between (a ∷ t) (b ∷ r) (c ∷ p) x h k e =
    let first : c ≡ a = cc in
    let rest : p ≡ t ++ x = cc in
    elim (nat_cmp a b) as (λ o. nat_cmp a b ≡ o → ordering_then o (slice_cmp nat_cmp t r) ≡ Less → (y : List ℕ) × (b ∷ r ≡ a ∷ t ++ y)) [
      | Less ↦ λ is g. let back : nat_cmp b a ≡ Greater = nat_less a b is in
          let over : ordering_then (nat_cmp b c) (slice_cmp nat_cmp r p) ≡ Greater = rw (first, back) in
          let never : ⊥ = cc in absurd never
      | Equal ↦ λ is g.
          let same : a ≡ b = nat_same a b is in
          let here : nat_cmp b c ≡ Equal = ap (λ n. nat_cmp b n) (first ∙ same) ∙ ap (λ n. nat_cmp n b) (sym same) ∙ is in
          let more : slice_cmp nat_cmp r p ≡ Less = ap (λ o. ordering_then o (slice_cmp nat_cmp r p)) (sym here) ∙ k in
          let found = between t r p x g more rest in
          (found.0, λ i. sym same i ∷ found.1 i)
      | Greater ↦ λ is g. let never : ⊥ = cc in absurd never
    ] refl h

-- the texts, last one first: each is above the next
abbrev pub AreSteps : List (List ℕ) → Type 0
AreSteps [] = Unit {0}
AreSteps (p ∷ ps) = (is_above ps p ≡ true) × AreSteps ps

pub steps_of : (ps : List (List ℕ)) → IsLine ps → AreSteps ps
steps_of [] h = tt
steps_of (p ∷ ps) h = (h.0, steps_of ps h.2)

abbrev pub AreBelow : List ℕ → List (List ℕ) → Type 0
AreBelow p = AllByRecursion (λ q. slice_cmp nat_cmp q p ≡ Less)

above_more : (ps : List (List ℕ)) (q r : List ℕ) → is_above ps q ≡ true → slice_cmp nat_cmp q r ≡ Less → is_above ps r ≡ true
above_more [] q r h k = refl
above_more (s ∷ ps) q r h k = is_less _ (nat_list_cmp_total.trans s q r (less _ h) k)

pub below_all : (ps : List (List ℕ)) (r : List ℕ) → AreSteps ps → is_above ps r ≡ true → AreBelow r ps
below_all [] r line h = tt
below_all (q ∷ ps) r line h = (less _ h, below_all ps r line.1 (above_more ps q r line.0 (less _ h)))

pub all_below : (ps : List (List ℕ)) (r : List ℕ) → IsLine ps → is_above ps r ≡ true → AreBelow r ps
all_below ps r line h = below_all ps r (steps_of ps line) h

-- the test of a beginning
pub begins : (p t : List ℕ) → starts_with nat_eq p t ≡ true → p ≡ t ++ drop (length t) p
begins p t h = (starts_is Decides-eqb p t _ refl).0 h

pub begins_with : (p t x : List ℕ) → p ≡ t ++ x → starts_with nat_eq p t ≡ true
begins_with p t x e = (starts_is Decides-eqb p t _ refl).1 x e
