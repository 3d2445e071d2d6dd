-- The earliest waiting node before each, and the loop turned.
use Rattle.std.proofs.Common.{◌≡◌, ◌<◌, ◌≤◌, ◌⊎◌, inl, inr, ℕ, ◌+◌, ◌-◌, List, ◌∷◌, ◌++◌, Bool, true, false, nat_eq, Contains, length, get_or, set, take, drop, reverse, refl, sym, ap, subst, ◌∙◌, arith}
use Rattle.std.specs.List.Sorted.{IsNonDecreasingBy}
use Rattle.std.proofs.lemmas.Bool.{eqb-false}
use Rattle.std.proofs.lemmas.List.{get_or-set_same, get_or-set_other, length-drop, drop_more, take-append-drop, get_or_default, get_or-drop}
use Rattle.std.proofs.lemmas.List.Elements.{Contains-append_left, Contains-append_right, Contains-append_cases}
use Rattle.std.proofs.lemmas.Map.Views.{exact_unsigned_eq}
use Rattle.load_order.specs.Walks.{IsTurned, IsEarliestWaiting}
use Rattle.list_laws.proofs.Containing.{contains_here, contains_there, contains_cases}

lifted : (waits : List ℕ) (e : ℕ × ℕ) (es : List (ℕ × ℕ)) (node b : ℕ) → IsEarliestWaiting waits es node b → ((o : ℕ) → e ≡ (o, node) → 0 < get_or waits o 0 → b ≤ o) → IsEarliestWaiting waits (e ∷ es) node b
lifted waits e es node b h low = record { edge = contains_there e (b, node) es h.edge; waiting = h.waiting; earliest = λ o at w. by o w (contains_cases e (o, node) es at) }
  where
    by : (o : ℕ) → 0 < get_or waits o 0 → ((o, node) ≡ e) ⊎ Contains es (o, node) → b ≤ o
    by o w (inl s) = low o (sym s) w
    by o w (inr l) = h.earliest o l w

-- one more edge, whose first node waits
pub before_then : (waits : List ℕ) (e : ℕ × ℕ) (es : List (ℕ × ℕ)) (before : List ℕ) → e.1 < length before → ((f : ℕ × ℕ) → Contains es f → e.0 ≤ f.0) → 0 < get_or waits e.0 0
    → ((node a : ℕ) → Contains es (a, node) → 0 < get_or waits a 0 → IsEarliestWaiting waits es node (get_or before node 0))
    → (node a : ℕ) → Contains (e ∷ es) (a, node) → 0 < get_or waits a 0 → IsEarliestWaiting waits (e ∷ es) node (get_or (set before e.1 e.0) node 0)
before_then waits e es before within low waiting h node a at w = by (nat_eq node e.1) refl
  where
    first : (o : ℕ) → e.1 ≡ node → ((o, node) ≡ e) ⊎ Contains es (o, node) → e.0 ≤ o
    first o same (inl s) = let is : o ≡ e.0 = ap (λ q. q.0) s in omega (arith, is)
    first o same (inr l) = low (o, node) l

    later : (node ≡ e.1 → ⊥) → ((a, node) ≡ e) ⊎ Contains es (a, node) → Contains es (a, node)
    later ne (inl s) = absurd (ne (ap (λ q. q.1) s))
    later ne (inr l) = l

    by : (b : Bool) → nat_eq node e.1 ≡ b → IsEarliestWaiting waits (e ∷ es) node (get_or (set before e.1 e.0) node 0)
    by true t =
        let same : e.1 ≡ node = sym (exact_unsigned_eq node e.1 t) in
        let read : get_or (set before e.1 e.0) node 0 ≡ e.0 = subst (λ n. get_or (set before e.1 e.0) n 0 ≡ e.0) same (get_or-set_same before e.1 e.0 0 within) in
        let edge : Contains (e ∷ es) (e.0, node) = subst (λ n. Contains (e ∷ es) (e.0, n)) same (contains_here e es) in
        let found : IsEarliestWaiting waits (e ∷ es) node e.0 = record { edge = edge; waiting = waiting; earliest = λ o in' some. first o same (contains_cases e (o, node) es in') } in
        subst (λ b. IsEarliestWaiting waits (e ∷ es) node b) (sym read) found
    by false t =
        let ne : node ≡ e.1 → ⊥ = eqb-false node e.1 t in
        let read = get_or-set_other before e.1 node e.0 0 ne in
        let old = h node a (later ne (contains_cases e (a, node) es at)) w in
        subst (λ b. IsEarliestWaiting waits (e ∷ es) node b) (sym read) (lifted waits e es node (get_or before node 0) old (λ o s some. absurd (ne (sym (ap (λ q. q.1) s)))))

-- one more edge, whose first node is placed
pub before_else : (waits : List ℕ) (e : ℕ × ℕ) (es : List (ℕ × ℕ)) (before : List ℕ) → get_or waits e.0 0 ≤ 0
    → ((node a : ℕ) → Contains es (a, node) → 0 < get_or waits a 0 → IsEarliestWaiting waits es node (get_or before node 0))
    → (node a : ℕ) → Contains (e ∷ es) (a, node) → 0 < get_or waits a 0 → IsEarliestWaiting waits (e ∷ es) node (get_or before node 0)
before_else waits e es before none h node a at w = lifted waits e es node (get_or before node 0) (h node a (later (contains_cases e (a, node) es at)) w) (λ o s some. absurd (not_first o s some))
  where
    not_first : (o : ℕ) → e ≡ (o, node) → 0 < get_or waits o 0 → ⊥
    not_first o s some = let is = ap (λ q. get_or waits q.0 0) s in omega (arith, is, some, none)

    later : ((a, node) ≡ e) ⊎ Contains es (a, node) → Contains es (a, node)
    later (inl s) = absurd (not_first a (sym s) w)
    later (inr l) = l

pub next_edge : (es : List (ℕ × ℕ)) (i : ℕ) → i < length es → drop (length es - (i + 1)) es ≡ get_or es (length es - 1 - i) (0, 0) ∷ drop (length es - i) es
next_edge es i l =
    let k : length es - (i + 1) ≡ length es - 1 - i = omega arith in
    let m : length es - 1 - i + 1 ≡ length es - i = omega (arith, l) in
    ap (λ n. drop n es) k ∙ drop_more es (length es - 1 - i) (0, 0) (omega (arith, l)) ∙ ap (λ n. get_or es (length es - 1 - i) (0, 0) ∷ drop n es) m

pub none_lower : (es : List (ℕ × ℕ)) (i : ℕ) → i < length es → IsNonDecreasingBy (λ (e : ℕ × ℕ). e.0) es → (f : ℕ × ℕ) → Contains (drop (length es - i) es) f → (get_or es (length es - 1 - i) (0, 0)).0 ≤ f.0
none_lower es i l up f at =
    let m = length es - i in
    let read : get_or es (m + at.0) (0, 0) ≡ f = get_or_default es (m + at.0) (0, 0) f (omega (arith, at.1, length-drop m es)) ∙ sym (get_or-drop m es at.0 f) ∙ at.2 in
    let le = up (length es - 1 - i) (m + at.0) (0, 0) (omega (arith, l)) (omega (arith, at.1, length-drop m es)) in
    let is = ap (λ (q : ℕ × ℕ). q.0) read in
    omega (arith, le, is)

-- the end of a path, backwards, and begun elsewhere
pub turned_at : (path cycle turned : List ℕ) (again i k : ℕ) → i < length path → get_or path i 0 ≡ again → turned ≡ reverse (drop i path) → k < length turned → ((j : ℕ) → j < length turned → get_or turned k 0 ≤ get_or turned j 0)
    → cycle ≡ drop k turned ++ take k turned → IsTurned path again cycle
turned_at path cycle turned again i k l read is lk least made = record {
  entry = take i path;
  loop = drop (i + 1) path;
  splits = sym (take-append-drop i path) ∙ ap (λ t. take i path ++ t) rest;
  front = take k turned;
  first = get_or turned k 0;
  rest = drop (k + 1) turned;
  turned = ap reverse (sym rest) ∙ sym is ∙ sym (take-append-drop k turned) ∙ ap (λ t. take k turned ++ t) tail;
  is = made ∙ ap (λ t. t ++ take k turned) tail;
  earliest = λ node at. by node (Contains-append_cases (drop k turned) (take k turned) node (subst (λ z. Contains z node) made at));
}
  where
    rest : drop i path ≡ again ∷ drop (i + 1) path
    rest = drop_more path i 0 l ∙ ap (λ n. n ∷ drop (i + 1) path) read

    tail : drop k turned ≡ get_or turned k 0 ∷ drop (k + 1) turned
    tail = drop_more turned k 0 lk

    among : (node : ℕ) → Contains turned node → get_or turned k 0 ≤ node
    among node at = let j = least at.0 at.1 in let r = get_or_default turned at.0 0 node at.1 ∙ at.2 in omega (arith, j, r)

    by : (node : ℕ) → Contains (drop k turned) node ⊎ Contains (take k turned) node → get_or turned k 0 ≤ node
    by node (inl at) = among node (subst (λ z. Contains z node) (take-append-drop k turned) (Contains-append_right (take k turned) (drop k turned) node at))
    by node (inr at) = among node (subst (λ z. Contains z node) (take-append-drop k turned) (Contains-append_left (take k turned) (drop k turned) node at))

pub within_set : (before : List ℕ) (i v n : ℕ) → i < length before → ((k : ℕ) → k < n → get_or before k 0 < n) → v < n → (k : ℕ) → k < n → get_or (set before i v) k 0 < n
within_set before i v n l all small k lk = by (nat_eq k i) refl
  where
    by : (b : Bool) → nat_eq k i ≡ b → get_or (set before i v) k 0 < n
    by true t =
        let same : i ≡ k = sym (exact_unsigned_eq k i t) in
        let read : get_or (set before i v) k 0 ≡ v = subst (λ j. get_or (set before i v) j 0 ≡ v) same (get_or-set_same before i v 0 l) in
        omega (arith, read, small)
    by false t =
        let read = get_or-set_other before i k v 0 (eqb-false k i t) in
        omega (arith, read, all k lk)
