-- How many predecessors a node waits for.
use Rattle.std.proofs.Common.{◌≡◌, ◌<◌, ◌≤◌, ◌⊎◌, inl, inr, ℕ, ◌+◌, ◌-◌, zero, suc, List, [], ◌∷◌, ◌++◌, Bool, true, false, cond, not, ◌&&◌, ◌||◌, nat_eq, Contains, length, get_or, set, take, eq-eqb, refl, sym, ap, subst, ◌∙◌, arith}
use Rattle.std.specs.List.{count_by}
use Rattle.std.proofs.lemmas.List.Sums.{sum_by-take-le, count_by_more_yes, count_by_more_no}
use Rattle.std.proofs.lemmas.List.Folds.{list_any-append}
use Rattle.std.proofs.lemmas.Map.Views.{exact_unsigned_eq}
use Rattle.std.proofs.lemmas.List.{get_or-set_same, get_or-set_other}
use Rattle.mod_rules.specs.Edges.{AreWithin}
use Rattle.load_order.specs.Counts.{has, count_into, count_waiting, edges_from}
use Rattle.list_laws.proofs.Sums.{count-cons}
use Rattle.list_laws.proofs.Containing.{contains_here, contains_there, contains_none, contains_cases}
use Rattle.list_laws.proofs.Texts.{number_in-from_any, any-from_number_in}

-- before anything is placed
pub waits_at_first : (y : ℕ) (es : List (ℕ × ℕ)) → count_waiting [] y es ≡ count_into y es
waits_at_first y [] = refl
waits_at_first y (e ∷ es) = count-cons (λ e. nat_eq e.1 y && not (has [] e.0)) e es ∙ by (nat_eq e.1 y) (count_waiting [] y es) (count_into y es) (waits_at_first y es) ∙ sym (count-cons (λ e. nat_eq e.1 y) e es)
  where
    by : (b : Bool) (m n : ℕ) → m ≡ n → cond (b && not false) 1 0 + m ≡ cond b 1 0 + n
    by true m n h = ap (λ k. 1 + k) h
    by false m n h = ap (λ k. 0 + k) h

bits : (to from in' : Bool) → (from ≡ true → in' ≡ false) → cond (to && not (in' || (from || false))) 1 0 + cond from (cond to 1 0) 0 ≡ cond (to && not in') 1 0
bits true true true h = let bad = h refl in cc
bits true true false h = refl
bits true false true h = refl
bits true false false h = refl
bits false true in' h = refl
bits false false in' h = refl

count-kept : (p : ℕ × ℕ → Bool) (b : Bool) (e : ℕ × ℕ) (es : List (ℕ × ℕ)) → count_by p (cond b (e ∷ es) es) ≡ cond b (cond (p e) 1 0) 0 + count_by p es
count-kept p true e es = count-cons p e es
count-kept p false e es = omega arith

-- one more is placed
pub waits_released : (placed : List ℕ) (x y : ℕ) (es : List (ℕ × ℕ)) → has placed x ≡ false → count_waiting (placed ++ x ∷ []) y es + count_into y (edges_from x es) ≡ count_waiting placed y es
waits_released placed x y [] out = refl
waits_released placed x y (e ∷ es) out =
    let was = count-cons (λ e. nat_eq e.1 y && not (has placed e.0)) e es in
    let now = count-cons (λ e. nat_eq e.1 y && not (has (placed ++ x ∷ []) e.0)) e es in
    let more = ap (λ b. cond {A = ℕ} (nat_eq e.1 y && not b) 1 0) (list_any-append (nat_eq e.0) placed (x ∷ [])) in
    let kept = count-kept (λ e. nat_eq e.1 y) (nat_eq e.0 x) e (edges_from x es) in
    let same : nat_eq e.0 x ≡ true → has placed e.0 ≡ false = λ t. ap (has placed) (exact_unsigned_eq e.0 x t) ∙ out in
    omega (arith, was, now, more, kept, bits (nat_eq e.1 y) (nat_eq e.0 x) (has placed e.0) same, waits_released placed x y es out)

-- a node that waits for none
pub waits_for_none : (placed : List ℕ) (y : ℕ) (es : List (ℕ × ℕ)) → count_waiting placed y es ≡ 0 → (a : ℕ) → Contains es (a, y) → Contains placed a
waits_for_none placed y [] none a at = absurd (contains_none (a, y) at)
waits_for_none placed y (e ∷ es) none a at = by (contains_cases e (a, y) es at) (waits_for_none placed y es (omega (arith, sum, none)) a)
  where
    sum : count_waiting placed y (e ∷ es) ≡ cond (nat_eq e.1 y && not (has placed e.0)) 1 0 + count_waiting placed y es
    sum = count-cons (λ e. nat_eq e.1 y && not (has placed e.0)) e es

    is : (b c : Bool) → b ≡ true → cond {A = ℕ} (b && not c) 1 0 ≡ 0 → c ≡ true
    is true true t z = refl
    is true false t z = let bad : suc zero ≡ zero = z in cc
    is false true t z = refl
    is false false t z = cc

    by : ((a, y) ≡ e) ⊎ Contains es (a, y) → (Contains es (a, y) → Contains placed a) → Contains placed a
    by (inl same) rest =
        let f : e ≡ (a, y) = sym same in
        let to : nat_eq e.1 y ≡ true = eq-eqb e.1 y (ap (λ q. q.1) f) in
        let zero_here : cond (nat_eq e.1 y && not (has placed e.0)) 1 0 ≡ 0 = omega (arith, sum, none) in
        number_in-from_any placed a (ap (has placed) (sym (ap (λ q. q.0) f)) ∙ is (nat_eq e.1 y) (has placed e.0) to zero_here)
    by (inr l) rest = rest l

pub none_to_wait_for : (placed : List ℕ) (y : ℕ) (es : List (ℕ × ℕ)) → ((a : ℕ) → Contains es (a, y) → Contains placed a) → count_waiting placed y es ≡ 0
none_to_wait_for placed y [] all = refl
none_to_wait_for placed y (e ∷ es) all =
    count-cons (λ e. nat_eq e.1 y && not (has placed e.0)) e es ∙ by (nat_eq e.1 y) refl (none_to_wait_for placed y es (λ a l. all a (contains_there e (a, y) es l)))
  where
    by : (b : Bool) → nat_eq e.1 y ≡ b → count_waiting placed y es ≡ 0 → cond (nat_eq e.1 y && not (has placed e.0)) 1 0 + count_waiting placed y es ≡ 0
    by true t rest =
        let first : e ≡ (e.0, y) = ap (λ n. (e.0, n)) (exact_unsigned_eq e.1 y t) in
        let at : Contains (e ∷ es) (e.0, y) = subst (λ q. Contains (e ∷ es) q) first (contains_here e es) in
        rw (t, any-from_number_in placed e.0 (all e.0 at)) (omega (arith, rest))
    by false t rest = rw t (omega (arith, rest))

-- one more edge is counted
pub counted_more : (es : List (ℕ × ℕ)) (i : ℕ) (e : ℕ × ℕ) (counts : List ℕ) (y : ℕ) → i < length es → e ≡ get_or es i e → e.1 < length counts → get_or counts y 0 ≡ count_into y (take i es)
    → get_or (set counts e.1 (get_or counts e.1 0 + 1)) y 0 ≡ count_into y (take (i + 1) es)
counted_more es i e counts y l is within h = by (nat_eq e.1 y) refl
  where
    by : (b : Bool) → nat_eq e.1 y ≡ b → get_or (set counts e.1 (get_or counts e.1 0 + 1)) y 0 ≡ count_into y (take (i + 1) es)
    by true t =
        let same : e.1 ≡ y = exact_unsigned_eq e.1 y t in
        let more = count_by_more_yes (λ e. nat_eq e.1 y) es i e l (ap (λ q. nat_eq q.1 y) (sym is) ∙ t) in
        subst (λ n. get_or (set counts n (get_or counts n 0 + 1)) y 0 ≡ count_into y (take (i + 1) es)) (sym same)
        (get_or-set_same counts y (get_or counts y 0 + 1) 0 (omega (arith, same, within)) ∙ omega (arith, more, h))
    by false t =
        let other : y ≡ e.1 → ⊥ = λ s. (let u = eq-eqb e.1 y (sym s) in cc) in
        let more = count_by_more_no (λ e. nat_eq e.1 y) es i e l (ap (λ q. nat_eq q.1 y) (sym is) ∙ t) in
        get_or-set_other counts e.1 y (get_or counts e.1 0 + 1) 0 other ∙ h ∙ sym more

-- the step of `release`: one edge to the node y
pub released_more : (es : List (ℕ × ℕ)) (i : ℕ) (e : ℕ × ℕ) (waits : List ℕ) (y all : ℕ) → i < length es → e ≡ get_or es i e → e.1 < length waits → 1 ≤ get_or waits e.1 0 → get_or waits y 0 + count_into y (take i es) ≡ all
    → get_or (set waits e.1 (get_or waits e.1 0 - 1)) y 0 + count_into y (take (i + 1) es) ≡ all
released_more es i e waits y all l is within some h = by (nat_eq e.1 y) refl
  where
    by : (b : Bool) → nat_eq e.1 y ≡ b → get_or (set waits e.1 (get_or waits e.1 0 - 1)) y 0 + count_into y (take (i + 1) es) ≡ all
    by true t =
        let same : e.1 ≡ y = exact_unsigned_eq e.1 y t in
        let more = count_by_more_yes (λ e. nat_eq e.1 y) es i e l (ap (λ q. nat_eq q.1 y) (sym is) ∙ t) in
        let read : get_or (set waits y (get_or waits y 0 - 1)) y 0 ≡ get_or waits y 0 - 1 = get_or-set_same waits y (get_or waits y 0 - 1) 0 (omega (arith, same, within)) in
        let some_y : 1 ≤ get_or waits y 0 = subst (λ n. 1 ≤ get_or waits n 0) same some in
        subst (λ n. get_or (set waits n (get_or waits n 0 - 1)) y 0 + count_into y (take (i + 1) es) ≡ all) (sym same)
        (omega (arith, more, h, read, some_y))
    by false t =
        let other : y ≡ e.1 → ⊥ = λ s. (let u = eq-eqb e.1 y (sym s) in cc) in
        let more = count_by_more_no (λ e. nat_eq e.1 y) es i e l (ap (λ q. nat_eq q.1 y) (sym is) ∙ t) in
        let read = get_or-set_other waits e.1 y (get_or waits e.1 0 - 1) 0 other in
        omega (arith, more, h, read)

-- the node of the next edge still waits
pub still_waits : (es : List (ℕ × ℕ)) (i : ℕ) (e : ℕ × ℕ) (now all : ℕ) → i < length es → e ≡ get_or es i e → now + count_into e.1 (take i es) ≡ all → count_into e.1 es ≤ all → 1 ≤ now
still_waits es i e now all l is h enough =
    let yes : nat_eq e.1 e.1 ≡ true = eq-eqb e.1 e.1 refl in
    let more = count_by_more_yes (λ f. nat_eq f.1 e.1) es i e l (ap (λ q. nat_eq q.1 e.1) (sym is) ∙ yes) in
    let part : count_into e.1 (take (i + 1) es) ≤ count_into e.1 es = sum_by-take-le (λ f. cond (nat_eq f.1 e.1) 1 0) es (i + 1) in
    omega (arith, more, part, h, enough)

pub within_at : (count : ℕ) (es : List (ℕ × ℕ)) (i : ℕ) → AreWithin count es → i < length es → (get_or es i (0, 0)).1 < count
within_at count es i h l = (h i (0, 0) l).1
