-- Lists without a repeated node, by counts.
use Rattle.std.proofs.Common.{◌≡◌, ◌≤◌, ℕ, List, [], ◌∷◌, ◌++◌, Bool, true, false, cond, nat_eq, eq-eqb, Contains, reverse, refl, sym, ap, subst, arith}
use Rattle.std.specs.List.{count_by}
use Rattle.std.proofs.lemmas.Bool.{ne_eqb}
use Rattle.std.proofs.lemmas.Map.Views.{exact_unsigned_eq}
use Rattle.list_laws.proofs.Containing.{contains_here, contains_there, parts}
use Rattle.list_laws.proofs.Sums.{count-cons, count-append, count-reverse, some_count, no_count}
use Rattle.load_order.specs.Orders.{HasNoRepeat}

once_tail : (x : ℕ) (xs : List ℕ) → HasNoRepeat (x ∷ xs) → HasNoRepeat xs
once_tail x xs h front node back e at = h (x ∷ front) node back (ap (λ l. x ∷ l) e) (contains_there x node front at)

pub once_end : (front back : List ℕ) → HasNoRepeat (front ++ back) → HasNoRepeat back
once_end [] back h = h
once_end (x ∷ front) back h = once_end front back (once_tail x (front ++ back) h)

at_most_once : (q : ℕ) (xs : List ℕ) → HasNoRepeat xs → count_by (nat_eq q) xs ≤ 1
at_most_once q [] h = let none : count_by (nat_eq q) [] ≡ 0 = refl in omega (arith, none)
at_most_once q (x ∷ xs) h = by (nat_eq q x) refl (at_most_once q xs (once_tail x xs h))
  where
    by : (b : Bool) → nat_eq q x ≡ b → count_by (nat_eq q) xs ≤ 1 → count_by (nat_eq q) (x ∷ xs) ≤ 1
    by true t rest =
        let same : q ≡ x = exact_unsigned_eq q x t in
        let out : Contains xs q → ⊥ = λ l. (let p = parts xs q l in h (x ∷ p.front) q p.back (ap (λ z. x ∷ z) p.is) (subst (λ k. Contains (x ∷ p.front) k) (sym same) (contains_here x p.front))) in
        let none = no_count (nat_eq q) xs (λ y at. ne_eqb q y (λ e. out (subst (λ k. Contains xs k) (sym e) at))) in
        let one : cond {A = ℕ} (nat_eq q x) 1 0 ≡ 1 = ap (λ b. cond {A = ℕ} b 1 0) t in
        omega (arith, count-cons (nat_eq q) x xs, one, none)
    by false t rest =
        let none : cond {A = ℕ} (nat_eq q x) 1 0 ≡ 0 = ap (λ b. cond {A = ℕ} b 1 0) t in
        omega (arith, count-cons (nat_eq q) x xs, none, rest)

once_from_counts : (xs : List ℕ) → ((q : ℕ) → count_by (nat_eq q) xs ≤ 1) → HasNoRepeat xs
once_from_counts xs most front node back e at =
    let here : nat_eq node node ≡ true = eq-eqb node node refl in
    let whole : count_by (nat_eq node) xs ≡ count_by (nat_eq node) (front ++ node ∷ back) = ap (count_by (nat_eq node)) e in
    let sum = count-append (nat_eq node) front (node ∷ back) in
    let first = some_count (nat_eq node) front node at here in
    let second = some_count (nat_eq node) (node ∷ back) node (contains_here node back) here in
    omega (arith, whole, sum, first, second, most node)

pub reverse_once : (xs : List ℕ) → HasNoRepeat xs → HasNoRepeat (reverse xs)
reverse_once xs h = once_from_counts (reverse xs) (λ q. (let most = at_most_once q xs h in let same = count-reverse (nat_eq q) xs in omega (arith, most, same)))

-- a list begun elsewhere
pub turned_round : (front back : List ℕ) → HasNoRepeat (front ++ back) → HasNoRepeat (back ++ front)
turned_round front back h =
    once_from_counts (back ++ front) (λ q. (let most = at_most_once q (front ++ back) h in let one = count-append (nat_eq q) front back in let other = count-append (nat_eq q) back front in omega (arith, most, one, other)))
