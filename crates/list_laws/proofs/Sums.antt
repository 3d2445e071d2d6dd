-- Sums over lists: weights of items, and counts.
use Rattle.std.proofs.Common.{◌≡◌, ℕ, ◌+◌, ◌≤◌, Bool, true, false, cond, List, [], ◌∷◌, ◌++◌, reverse, length, count_by, Ordering, Less, refl, sym, ap, subst, ◌∙◌, inl, inr, arith}
use Rattle.std.specs.List.{AllByRecursion, Contains}
use Rattle.std.specs.List.Sorted.{IsStrictlySortedBy}
use Rattle.std.specs.Cmp.{IsTotalOrder}
use Rattle.std.proofs.lemmas.List.Sums.{sum_by-cons, sum_by-append}
use Rattle.list_laws.proofs.Orders.{not_both, less-apart}
use Rattle.list_laws.proofs.Alls.{all_item}
use Rattle.list_laws.proofs.Containing.{contains_here, contains_there, contains_cases, contains_none}
use Rattle.list_laws.proofs.Lists.{reverse_cons}

-- each item has a weight, and all of them together weigh so much
abbrev pub Weighs : {K : Type 0} → (K → ℕ → Type 0) → List K → ℕ → Type 0
Weighs W [] total = total ≡ 0
Weighs W (x ∷ xs) total = (weight : ℕ) × (rest : ℕ) × W x weight × Weighs W xs rest × (total ≡ weight + rest)

-- one item more at the end
pub weighs_more : {K : Type 0} (W : K → ℕ → Type 0) (xs : List K) (x : K) (total weight : ℕ) → Weighs W xs total → W x weight → Weighs W (xs ++ x ∷ []) (total + weight)
weighs_more W [] x total weight none w = (weight, 0, w, refl, omega (arith, none))
weighs_more W (y ∷ ys) x total weight all w =
    let sum = all.4 in
    (all.0, all.1 + weight, all.2, weighs_more W ys x all.1 weight all.3 w, omega (arith, sum))

-- the weight of one of the items
pub weight_of : {K : Type 0} (W : K → ℕ → Type 0) (xs : List K) (total : ℕ) (x : K) → Weighs W xs total → Contains xs x → (weight : ℕ) × W x weight
weight_of W [] total x none c = absurd (contains_none x c)
weight_of W (y ∷ ys) total x all c = elim (contains_cases y x ys c) [
  | inl is ↦ (all.0, subst (λ v. W v all.0) (sym is) all.2)
  | inr there ↦ weight_of W ys all.1 x all.3 there
]

pub weighs_length : {K : Type 0} (xs : List K) → Weighs (λ _ n. n ≡ 1) xs (length xs)
weighs_length [] = refl
weighs_length (x ∷ xs) = (1, length xs, refl, weighs_length xs, omega arith)

-- what is among the items of a list in order weighs no more than all of them
module _ {K : Type 0} {c : K → K → Ordering} (total : IsTotalOrder c) where
  behind_other : (x y : K) (xs ys : List K) → Contains ys x → AllByRecursion (λ z. c x z ≡ Less) xs → AllByRecursion (λ z. c y z ≡ Less) ys → ((z : K) → Contains (x ∷ xs) z → Contains (y ∷ ys) z) → (z : K) → Contains (x ∷ xs) z → Contains ys z
  behind_other x y xs ys in_rest order above among z there =
      let first = all_item (λ v. c y v ≡ Less) ys x above in_rest in
      elim (contains_cases y z ys (among z there)) [
        | inl is ↦ elim (contains_cases x z xs there) [
          | inl head ↦ absurd (less-apart total y x first (sym is ∙ head))
          | inr more ↦ absurd (not_both total x y (subst (λ v. c x v ≡ Less) is (all_item (λ v. c x v ≡ Less) xs z order more)) first)
        ]
        | inr rest ↦ rest
      ]

  behind_same : (x y : K) (xs ys : List K) → x ≡ y → AllByRecursion (λ z. c x z ≡ Less) xs → ((z : K) → Contains (x ∷ xs) z → Contains (y ∷ ys) z) → (z : K) → Contains xs z → Contains ys z
  behind_same x y xs ys same order among z there =
      elim (contains_cases y z ys (among z (contains_there x z xs there))) [
        | inl is ↦ absurd (less-apart total x z (all_item (λ v. c x v ≡ Less) xs z order there) (same ∙ sym is))
        | inr rest ↦ rest
      ]

  module _ (W : K → ℕ → Type 0) (one : (x : K) (m n : ℕ) → W x m → W x n → m ≡ n) where
    pub weighs_within : (xs ys : List K) (s t : ℕ) → IsStrictlySortedBy c xs → IsStrictlySortedBy c ys → ((x : K) → Contains xs x → Contains ys x) → Weighs W xs s → Weighs W ys t → s ≤ t
    unfolding IsStrictlySortedBy
    weighs_within [] ys s t _ _ _ ws wt = omega (arith, ws)
    weighs_within (x ∷ xs) [] s t _ _ among ws wt = absurd (contains_none x (among x (contains_here x xs)))
    weighs_within (x ∷ xs) (y ∷ ys) s t ox oy among ws wt =
        elim (contains_cases y x ys (among x (contains_here x xs))) [
          | inl same ↦
              let rest = weighs_within xs ys ws.1 wt.1 ox.1 oy.1 (behind_same x y xs ys same ox.0 among) ws.3 wt.3 in
              let weight : ws.0 ≡ wt.0 = one x ws.0 wt.0 ws.2 (subst (λ v. W v wt.0) (sym same) wt.2) in
              let s_is = ws.4 in
              let t_is = wt.4 in
              omega (arith, rest, weight, s_is, t_is)
          | inr in_rest ↦
              let rest = weighs_within (x ∷ xs) ys s wt.1 ox oy.1 (behind_other x y xs ys in_rest ox.0 oy.0 among) ws wt.3 in
              let t_is = wt.4 in
              omega (arith, rest, t_is)
        ]

  -- so it has no more items
  pub length_within : (xs ys : List K) → IsStrictlySortedBy c xs → IsStrictlySortedBy c ys → ((x : K) → Contains xs x → Contains ys x) → length xs ≤ length ys
  length_within xs ys ox oy among = weighs_within (λ _ n. n ≡ 1) (λ x m n a b. a ∙ sym b) xs ys (length xs) (length ys) ox oy among (weighs_length xs) (weighs_length ys)

-- Counts

pub count-cons : {X : Type 0} (p : X → Bool) (x : X) (xs : List X) → count_by p (x ∷ xs) ≡ cond (p x) 1 0 + count_by p xs
count-cons p x xs = sum_by-cons (λ y. cond (p y) 1 0) x xs

pub count-append : {X : Type 0} (p : X → Bool) (xs ys : List X) → count_by p (xs ++ ys) ≡ count_by p xs + count_by p ys
count-append p xs ys = sum_by-append (λ y. cond (p y) 1 0) xs ys

pub count-reverse : {X : Type 0} (p : X → Bool) (xs : List X) → count_by p (reverse xs) ≡ count_by p xs
count-reverse p [] = refl
count-reverse p (x ∷ xs) =
    let turned : count_by p (reverse (x ∷ xs)) ≡ count_by p (reverse xs ++ x ∷ []) = ap (count_by p) (reverse_cons x xs) in
    let parts = count-append p (reverse xs) (x ∷ []) in
    let last = count-cons p x [] in
    let none : count_by p [] ≡ 0 = refl in
    let first = count-cons p x xs in
    omega (arith, turned, parts, last, none, first, count-reverse p xs)

-- an item that passes is counted, and where none passes the count is 0
pub some_count : {X : Type 0} (p : X → Bool) (xs : List X) (x : X) → Contains xs x → p x ≡ true → 1 ≤ count_by p xs
some_count p [] x c h = absurd (contains_none x c)
some_count p (y ∷ ys) x c h = elim (contains_cases y x ys c) [
  | inl is ↦ let one : cond {A = ℕ} (p y) 1 0 ≡ 1 = ap (λ b. cond {A = ℕ} b 1 0) (ap p (sym is) ∙ h) in omega (arith, count-cons p y ys, one)
  | inr there ↦ omega (arith, count-cons p y ys, some_count p ys x there h)
]

pub no_count : {X : Type 0} (p : X → Bool) (xs : List X) → ((x : X) → Contains xs x → p x ≡ false) → count_by p xs ≡ 0
no_count p [] h = refl
no_count p (x ∷ xs) h =
    let none : cond {A = ℕ} (p x) 1 0 ≡ 0 = ap (λ b. cond {A = ℕ} b 1 0) (h x (contains_here x xs)) in
    omega (arith, count-cons p x xs, none, no_count p xs (λ y c. h y (contains_there x y xs c)))
