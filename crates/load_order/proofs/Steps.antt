-- A turn of the loop that places nodes.
use Rattle.std.proofs.Common.{◌≡◌, ◌<◌, ◌≤◌, ◌⊎◌, ◌↔◌, inl, inr, ℕ, ◌+◌, zero, suc, List, [], ◌∷◌, ◌++◌, Bool, true, false, cond, nat_eq, All, Contains, length, get_or, refl, sym, ap, subst, ◌∙◌, arith}
use Rattle.std.specs.BTreeSet.{BTreeSet, contains, btree_set_len}
use Rattle.std.specs.Ordering.{nat_cmp, is_eq, is_gt}
use Rattle.std.proofs.lemmas.Cmp.{nat_cmp_total}
use Rattle.std.proofs.lemmas.Map.Lookups.{exact_unsigned}
use Rattle.std.proofs.lemmas.Bool.{cases_lt, eqb-false}
use Rattle.std.proofs.lemmas.Bool.Decides.{nat_tests}
use Rattle.std.proofs.lemmas.List.{get_or_past}
use Rattle.std.proofs.lemmas.List.Elements.{All-filter, All-weaker, Contains-push, Contains-append_left, Contains-push_cases}
use Rattle.std.proofs.lemmas.Map.Views.{exact_unsigned_eq, btree_set_contains_iff}
use Rattle.mod_rules.specs.Edges.{GraphData, AreWithin}
use Rattle.load_order.specs.Orders.{MayComeNext, IsNext, EachIsNext, IsTaken}
use Rattle.load_order.specs.Counts.{has, count_into, count_waiting, edges_from}
use Rattle.list_laws.proofs.Containing.{contains_none}
use Rattle.list_laws.proofs.Texts.{number_in-from_any, any-from_number_in, number_in_or_not}
use Rattle.load_order.proofs.Members.{has_not}
use Rattle.load_order.proofs.Orders.{taken_more, closed}
use Rattle.load_order.proofs.Waits.{waits_at_first, waits_released, waits_for_none, none_to_wait_for}
use Rattle.load_order.proofs.Ready.{Ready, at_same, at_other}

-- how many of the nodes below n aren't in the list
abbrev pub left : ℕ → List ℕ → ℕ
left zero list = zero
left (suc n) list = cond (has list n) (left n list) (suc (left n list))

has_push : (list : List ℕ) (x n : ℕ) → has list n ≡ true → has (list ++ x ∷ []) n ≡ true
has_push list x n h = any-from_number_in (list ++ x ∷ []) n (Contains-append_left list (x ∷ []) n (number_in-from_any list n h))

left_step : (a b : Bool) (m n : ℕ) → (a ≡ true → b ≡ true) → n ≤ m → cond b n (suc n) ≤ cond a m (suc m)
left_step true true m n h le = le
left_step true false m n h le = let bad = h refl in cc
left_step false true m n h le = omega (arith, le)
left_step false false m n h le = omega (arith, le)

left_push : (n : ℕ) (list : List ℕ) (x : ℕ) → left n (list ++ x ∷ []) ≤ left n list
left_push zero list x = omega arith
left_push (suc n) list x = left_step (has list n) (has (list ++ x ∷ []) n) (left n list) (left n (list ++ x ∷ [])) (has_push list x n) (left_push n list x)

-- one more of them is in the list
pub left_fewer : (n : ℕ) (list : List ℕ) (x : ℕ) → x < n → (Contains list x → ⊥) → left n (list ++ x ∷ []) < left n list
left_fewer zero list x l out = absurd (omega (arith, l))
left_fewer (suc n) list x l out = by (nat_eq n x) refl (λ lt. left_fewer n list x lt out)
  where
    strict : (a b : Bool) (m k : ℕ) → (a ≡ true → b ≡ true) → k < m → cond b k (suc k) < cond a m (suc m)
    strict true true m k h lt = lt
    strict true false m k h lt = let bad = h refl in cc
    strict false true m k h lt = omega (arith, lt)
    strict false false m k h lt = omega (arith, lt)

    by : (b : Bool) → nat_eq n x ≡ b → (x < n → left n (list ++ x ∷ []) < left n list) → left (suc n) (list ++ x ∷ []) < left (suc n) list
    by true t rest =
        let same : x ≡ n = sym (exact_unsigned_eq n x t) in
        let was : has list n ≡ false = ap (has list) (sym same) ∙ has_not list x out in
        let now : has (list ++ x ∷ []) n ≡ true = ap (has (list ++ x ∷ [])) (sym same) ∙ any-from_number_in (list ++ x ∷ []) x (Contains-push list x) in
        let le = left_push n list x in
        rw (was, now) (omega (arith, le))
    by false t rest =
        let ne : n ≡ x → ⊥ = eqb-false n x t in
        strict (has list n) (has (list ++ x ∷ []) n) (left n list) (left n (list ++ x ∷ [])) (has_push list x n) (rest (omega (arith, ne, l)))

-- what holds at the start of each turn
pub record Going (g : GraphData) (placed waits : List ℕ) (ready : ℕ → Bool) : Type 0 where
  pub each : EachIsNext g [] placed
  pub same_length : length waits ≡ g.count
  pub counted : (y : ℕ) → y < g.count → get_or waits y 0 ≡ count_waiting placed y g.edges
  pub is_ready : (y : ℕ) → (ready y ≡ true) ↔ MayComeNext g placed y

-- a node that isn't placed and waits for none may come next
may : (g : GraphData) (placed : List ℕ) (y n : ℕ) → y < g.count → (Contains placed y → ⊥) → n ≡ count_waiting placed y g.edges → n ≡ 0 → MayComeNext g placed y
may g placed y n within out is none = record { within = within; unplaced = out; free = waits_for_none placed y g.edges (sym is ∙ none) }

pub begin : (g : GraphData) (waits : List ℕ) (ready : ℕ → Bool) → length waits ≡ g.count → ((y : ℕ) → y < g.count → get_or waits y 0 ≡ count_into y g.edges) → ((y : ℕ) → (ready y ≡ true) ↔ ((y < length waits) × (get_or waits y 0 ≡ 0)))
    → Going g [] waits ready
begin g waits ready same counts is = record {
  each = tt;
  same_length = same;
  counted = λ y l. at y l;
  is_ready = λ y. (
    λ r. (let h = (is y).0 r in may g [] y (get_or waits y 0) (omega (arith, h, same)) (contains_none y) (at y (omega (arith, h, same))) h.1),
    λ m. (let z = none_to_wait_for [] y g.edges m.free in (is y).1 (omega (arith, m.within, same), at y m.within ∙ z)),
  );
}
  where
    at : (y : ℕ) → y < g.count → get_or waits y 0 ≡ count_waiting [] y g.edges
    at y l = counts y l ∙ sym (waits_at_first y g.edges)

-- the least of the ready nodes is the next
pub is_next : (g : GraphData) (placed waits : List ℕ) (ready : ℕ → Bool) (x : ℕ) → Going g placed waits ready → ready x ≡ true → ((q : ℕ) → ready q ≡ true → is_gt (nat_cmp x q) ≡ false) → IsNext g placed x
is_next g placed waits ready x h on least = record { may = (h.is_ready x).0 on; earliest = λ other m. no_gt x other (least other ((h.is_ready other).1 m)) }
  where
    no_gt : (a b : ℕ) → is_gt (nat_cmp a b) ≡ false → a ≤ b
    no_gt a b e = grind (arith, nat_tests)

-- what `release` asks
pub from_within : (g : GraphData) (waits : List ℕ) (x : ℕ) → AreWithin g.count g.edges → length waits ≡ g.count → All (λ (e : ℕ × ℕ). e.1 < length waits) (edges_from x g.edges)
from_within g waits x within same = All-filter (λ (e : ℕ × ℕ). nat_eq e.0 x) (λ (e : ℕ × ℕ). e.1 < length waits) g.edges (All-weaker (λ (e : ℕ × ℕ). (e.0 < g.count) × (e.1 < g.count)) (λ (e : ℕ × ℕ). e.1 < length waits) (λ e b. omega (arith, b, same)) g.edges within)

pub enough : (g : GraphData) (placed waits : List ℕ) (ready : ℕ → Bool) (x y : ℕ) → Going g placed waits ready → (Contains placed x → ⊥) → y < length waits → count_into y (edges_from x g.edges) ≤ get_or waits y 0
enough g placed waits ready x y h out l =
    let sum = waits_released placed x y g.edges (has_not placed x out) in
    let is = h.counted y (omega (arith, l, h.same_length)) in
    omega (arith, sum, is)

some_within : (waits : List ℕ) (y : ℕ) → 0 < get_or waits y 0 → y < length waits
some_within waits y some = by (cases_lt y (length waits))
  where
    by : (y < length waits) ⊎ (length waits ≤ y) → y < length waits
    by (inl l) = l
    by (inr past) = let none = get_or_past waits y 0 past in absurd (omega (arith, some, none))

pub turn : (g : GraphData) (placed waits after : List ℕ) (ready mid now : ℕ → Bool) (x : ℕ) → Going g placed waits ready → IsNext g placed x
    → ((q : ℕ) → mid q ≡ cond (is_eq (nat_cmp x q)) false (ready q))
    → length after ≡ length waits
    → ((y : ℕ) → get_or after y 0 + count_into y (edges_from x g.edges) ≡ get_or waits y 0)
    → ((y : ℕ) → Ready (now y) (mid y) (get_or waits y 0) (get_or after y 0))
    → Going g (placed ++ x ∷ []) after now
turn g placed waits after ready mid now x h next popped same released readied = record {
  each = taken_more g [] placed x h.each next;
  same_length = same ∙ h.same_length;
  counted = at;
  is_ready = λ y. (λ r. came y r, λ m. on y m (decide_zero y));
}
  where
    at : (y : ℕ) → y < g.count → get_or after y 0 ≡ count_waiting (placed ++ x ∷ []) y g.edges
    at y l =
        let sum = waits_released placed x y g.edges (has_not placed x next.may.unplaced) in
        let was = h.counted y l in
        let now = released y in
        omega (arith, sum, was, now)

    out : (y : ℕ) → (Contains placed y → ⊥) → (x ≡ y → ⊥) → Contains (placed ++ x ∷ []) y → ⊥
    out y a b c = split (Contains-push_cases placed x y c)
      where
        split : Contains placed y ⊎ (x ≡ y) → ⊥
        split (inl p) = a p
        split (inr e) = b e

    -- x itself and what is placed wait for none
    waited : (y : ℕ) → y < g.count → 0 < get_or waits y 0 → Contains (placed ++ x ∷ []) y → ⊥
    waited y l some c = split (Contains-push_cases placed x y c)
      where
        split : Contains placed y ⊎ (x ≡ y) → ⊥
        split (inl p) =
            let none = none_to_wait_for placed y g.edges (λ a edge. closed g placed a y h.each p edge) in
            let is = h.counted y l in
            omega (arith, none, is, some)
        split (inr e) =
            let none = none_to_wait_for placed x g.edges next.may.free in
            let is = h.counted x next.may.within in
            let some_x : 0 < get_or waits x 0 = subst (λ n. 0 < get_or waits n 0) (sym e) some in
            omega (arith, none, is, some_x)

    came : (y : ℕ) → now y ≡ true → MayComeNext g (placed ++ x ∷ []) y
    came y r = split ((readied y).0 r) (nat_eq x y) refl
      where
        split : (mid y ≡ true) ⊎ ((0 < get_or waits y 0) × (get_or after y 0 ≡ 0)) → (b : Bool) → nat_eq x y ≡ b → MayComeNext g (placed ++ x ∷ []) y
        split (inr z) b e = let l : y < g.count = omega (arith, some_within waits y z.0, h.same_length) in may g (placed ++ x ∷ []) y (get_or after y 0) l (waited y l z.0) (at y l) z.1
        split (inl m) true e =
            let bad = sym m ∙ popped y ∙ ap (λ b. cond b false (ready y)) (at_same x y (exact_unsigned_eq x y e)) in
            cc
        split (inl m) false e =
            let other = eqb-false x y e in
            let was : ready y ≡ true = sym (ap (λ b. cond b false (ready y)) (at_other x y other)) ∙ sym (popped y) ∙ m in
            let old = (h.is_ready y).0 was in
            record { within = old.within; unplaced = out y old.unplaced other; free = λ a edge. Contains-append_left placed (x ∷ []) a (old.free a edge) }

    decide_zero : (y : ℕ) → (0 < get_or waits y 0) ⊎ (get_or waits y 0 ≤ 0)
    decide_zero y = cases_lt 0 (get_or waits y 0)

    on : (y : ℕ) → MayComeNext g (placed ++ x ∷ []) y → (0 < get_or waits y 0) ⊎ (get_or waits y 0 ≤ 0) → now y ≡ true
    on y m (inl some) =
        let none = none_to_wait_for (placed ++ x ∷ []) y g.edges m.free in
        (readied y).1 (inr (some, at y m.within ∙ none))
    on y m (inr zero_now) =
        let none : get_or waits y 0 ≡ 0 = omega (arith, zero_now) in
        let old : MayComeNext g placed y = may g placed y (get_or waits y 0) m.within (λ p. m.unplaced (Contains-append_left placed (x ∷ []) y p)) (h.counted y m.within) none in
        let other : x ≡ y → ⊥ = λ e. m.unplaced (subst (Contains (placed ++ x ∷ [])) e (Contains-push placed x)) in
        let stays : mid y ≡ true = popped y ∙ ap (λ b. cond b false (ready y)) (at_other x y other) ∙ (h.is_ready y).1 old in
        (readied y).1 (inl stays)

-- no node is ready
pub all_taken : (g : GraphData) (placed waits : List ℕ) (ready : ℕ → Bool) → Going g placed waits ready → ((q : ℕ) → ready q ≡ false) → IsTaken g placed
all_taken g placed waits ready h none = record { each = h.each; none_left = λ node m. (let on = (h.is_ready node).1 m in let off = none node in cc) }

pub waits_tell : (g : GraphData) (placed waits : List ℕ) (ready : ℕ → Bool) (y : ℕ) → Going g placed waits ready → ((q : ℕ) → ready q ≡ false) → y < g.count → Contains placed y ↔ (get_or waits y 0 ≡ 0)
waits_tell g placed waits ready y h none l = (λ p. h.counted y l ∙ none_to_wait_for placed y g.edges (λ a edge. closed g placed a y h.each p edge), λ z. by z (number_in_or_not placed y))
  where
    by : get_or waits y 0 ≡ 0 → Contains placed y ⊎ (Contains placed y → ⊥) → Contains placed y
    by z (inl p) = p
    by z (inr out) = let on = (h.is_ready y).1 (may g placed y (get_or waits y 0) l out (h.counted y l) z) in let off = none y in cc

-- the same in the words of the calls
pub begun : (g : GraphData) (placed waits ws : List ℕ) (es : List (ℕ × ℕ)) (count : ℕ) (ready : ℕ → Bool) → placed ≡ [] → ws ≡ waits → es ≡ g.edges → count ≡ g.count → length waits ≡ count
    → ((y : ℕ) → y < count → get_or waits y 0 ≡ count_into y es) → ((y : ℕ) → (ready y ≡ true) ↔ ((y < length ws) × (get_or ws y 0 ≡ 0))) → Going g placed waits ready
begun g placed waits ws es count ready none lent span same long counts is =
    subst (λ p. Going g p waits ready) (sym none)
    (begin g waits ready (long ∙ same) (λ y l. counts y (omega (arith, l, same)) ∙ ap (count_into y) span) (subst (λ w. (y : ℕ) → (ready y ≡ true) ↔ ((y < length w) × (get_or w y 0 ≡ 0))) lent is))

pub turned : (g : GraphData) (placed waits ws after : List ℕ) (es : List (ℕ × ℕ)) (ready mid now : ℕ → Bool) (x : ℕ) → ws ≡ waits → es ≡ edges_from x g.edges → Going g placed waits ready → IsNext g placed x
    → ((q : ℕ) → mid q ≡ cond (is_eq (nat_cmp x q)) false (ready q))
    → length after ≡ length ws
    → ((y : ℕ) → get_or after y 0 + count_into y es ≡ get_or ws y 0)
    → ((y : ℕ) → Ready (now y) (mid y) (get_or ws y 0) (get_or after y 0))
    → Going g (placed ++ x ∷ []) after now
turned g placed waits ws after es ready mid now x lent span h next popped same released readied =
    turn g placed waits after ready mid now x h next popped (same ∙ ap length lent)
    (λ y. ap (λ e. get_or after y 0 + count_into y e) (sym span) ∙ released y ∙ ap (λ w. get_or w y 0) lent)
    (λ y. subst (λ w. Ready (now y) (mid y) (get_or w y 0) (get_or after y 0)) lent (readied y))

pub none_ready : (s : BTreeSet ℕ) → (0 < btree_set_len s → ⊥) → (q : ℕ) → contains nat_cmp s q ≡ false
none_ready s h q = by (contains nat_cmp s q) refl
  where
    by : (b : Bool) → contains nat_cmp s q ≡ b → contains nat_cmp s q ≡ false
    by true e = let at = (btree_set_contains_iff nat_cmp_total exact_unsigned s q).0 e in absurd (h (omega (arith, at.1)))
    by false e = e
