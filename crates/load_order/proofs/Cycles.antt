-- The cycle is the one that the definition finds, and a closed walk.
use Rattle.std.proofs.Common.{◌≡◌, ◌<◌, ◌≤◌, ◌⊎◌, ◌↔◌, inl, inr, ℕ, ◌+◌, List, [], ◌∷◌, ◌++◌, Bool, true, false, cond, not, ◌&&◌, nat_eq, Contains, length, get_or, reverse, refl, sym, ap, subst, ◌∙◌, append_assoc, append-nil, arith}
use Rattle.std.proofs.lemmas.Bool.{cases_lt}
use Rattle.std.proofs.lemmas.List.{get_or_past, reverse-append}
use Rattle.list_laws.proofs.Sums.{count-cons}
use Rattle.std.proofs.lemmas.List.Elements.{All-contains}
use Rattle.std.proofs.lemmas.Map.Views.{exact_unsigned_eq}
use Rattle.mod_rules.specs.Edges.{GraphData, AreWithin}
use Rattle.load_order.specs.Orders.{HasNoRepeat, IsLawful, IsTaken}
use Rattle.load_order.specs.Cycles.{IsUnplaced, IsEarliestUnplaced, IsEarliestBefore, IsWalk, IsAlongEdges, IsClosedWalk, BeginsEarliest, IsFound}
use Rattle.load_order.specs.Counts.{has, count_waiting}
use Rattle.load_order.specs.Walks.{Goes, IsLasso, IsTurned, IsEarliestWaiting}
use Rattle.list_laws.proofs.Containing.{contains_here, contains_there}
use Rattle.list_laws.proofs.Texts.{any-from_number_in, number_in_or_not}
use Rattle.load_order.proofs.Repeats.{once_end, reverse_once, turned_round}
use Rattle.load_order.proofs.Orders.{none_lawful}
use Rattle.load_order.proofs.Waits.{waits_for_none}

-- ---- along edges
split_along : (g : GraphData) (x : ℕ) (ys : List ℕ) (z : ℕ) (zs : List ℕ) → IsAlongEdges g x (ys ++ z ∷ zs) → IsAlongEdges g x (ys ++ z ∷ []) × IsAlongEdges g z zs
split_along g x [] z zs h = ((h.0, tt), h.1)
split_along g x (y ∷ ys) z zs h = let rest = split_along g y ys z zs h.1 in ((h.0, rest.0), rest.1)

join_along : (g : GraphData) (x : ℕ) (xs p : List ℕ) (last : ℕ) (zs : List ℕ) → x ∷ xs ≡ p ++ last ∷ [] → IsAlongEdges g x xs → IsAlongEdges g last zs → IsAlongEdges g x (xs ++ zs)
join_along g x [] [] last zs e h k = let same : last ≡ x = cc in subst (λ n. IsAlongEdges g n zs) same k
join_along g x [] (q ∷ []) last zs e h k = cc
join_along g x [] (q ∷ r ∷ p) last zs e h k = cc
join_along g x (y ∷ xs) [] last zs e h k = cc
join_along g x (y ∷ xs) (q ∷ p) last zs e h k = let rest : y ∷ xs ≡ p ++ last ∷ [] = cc in (h.0, join_along g y xs p last zs rest h.1 k)

-- a walk backwards goes along edges
back_along : (g : GraphData) (placed : List ℕ) (s : ℕ) (xs p : List ℕ) (t : ℕ) (more : List ℕ) → s ∷ xs ≡ p ++ t ∷ [] → IsWalk g placed s xs → IsAlongEdges g s more → IsAlongEdges g t (reverse p ++ more)
back_along g placed s [] [] t more e h k = let same : s ≡ t = cc in subst (λ n. IsAlongEdges g n more) same k
back_along g placed s [] (q ∷ []) t more e h k = cc
back_along g placed s [] (q ∷ r ∷ p) t more e h k = cc
back_along g placed s (x ∷ xs) [] t more e h k = cc
back_along g placed s (x ∷ xs) (q ∷ p) t more e h k =
    let same : s ≡ q = cc in
    let rest : x ∷ xs ≡ p ++ t ∷ [] = cc in
    let longer : IsAlongEdges g x (s ∷ more) = (h.0.edge, k) in
    let turned : reverse (q ∷ p) ≡ reverse p ++ q ∷ [] = reverse-append (q ∷ []) p in
    let whole : reverse p ++ s ∷ more ≡ reverse (q ∷ p) ++ more = ap (λ n. reverse p ++ n ∷ more) same ∙ sym (append_assoc (reverse p) (q ∷ []) more) ∙ ap (λ l. l ++ more) (sym turned) in
    subst (IsAlongEdges g t) whole (back_along g placed x xs p t (s ∷ more) rest h.1 longer)

-- the last of a list is the last of its end
last_of : (front : List ℕ) (b : ℕ) (bs r : List ℕ) (n : ℕ) → front ++ b ∷ bs ≡ r ++ n ∷ [] → (p : List ℕ) × (b ∷ bs ≡ p ++ n ∷ [])
last_of [] b bs r n e = (r, e)
last_of (f ∷ []) b bs [] n e = cc
last_of (f ∷ h ∷ front) b bs [] n e = cc
last_of (f ∷ front) b bs (x ∷ r) n e = last_of front b bs r n (let rest : front ++ b ∷ bs ≡ r ++ n ∷ [] = cc in rest)

walk_end : (g : GraphData) (placed : List ℕ) (s : ℕ) (xs front : List ℕ) (n : ℕ) (back : List ℕ) → s ∷ xs ≡ front ++ n ∷ back → IsWalk g placed s xs → IsWalk g placed n back
walk_end g placed s xs [] n back e h =
    let same : s ≡ n = cc in
    let rest : xs ≡ back = cc in
    subst (λ k. IsWalk g placed k back) same (subst (IsWalk g placed s) rest h)
walk_end g placed s [] (q ∷ []) n back e h = cc
walk_end g placed s [] (q ∷ r ∷ front) n back e h = cc
walk_end g placed s (x ∷ xs) (q ∷ front) n back e h = walk_end g placed x xs front n back (let rest : x ∷ xs ≡ front ++ n ∷ back = cc in rest) h.1

-- ---- what waits
some_waiting : (placed : List ℕ) (y : ℕ) (es : List (ℕ × ℕ)) → 0 < count_waiting placed y es → (a : ℕ) × Contains es (a, y) × (Contains placed a → ⊥)
some_waiting placed y [] h = absurd (omega (arith, h))
some_waiting placed y (e ∷ es) h = by (nat_eq e.1 y) refl (number_in_or_not placed e.0) (some_waiting placed y es)
  where
    later : (a : ℕ) × Contains es (a, y) × (Contains placed a → ⊥) → (a : ℕ) × Contains (e ∷ es) (a, y) × (Contains placed a → ⊥)
    later w = (w.0, contains_there e (w.0, y) es w.1, w.2)

    sum : count_waiting placed y (e ∷ es) ≡ cond (nat_eq e.1 y && not (has placed e.0)) 1 0 + count_waiting placed y es
    sum = count-cons (λ e. nat_eq e.1 y && not (has placed e.0)) e es

    by : (b : Bool) → nat_eq e.1 y ≡ b → Contains placed e.0 ⊎ (Contains placed e.0 → ⊥) → (0 < count_waiting placed y es → (a : ℕ) × Contains es (a, y) × (Contains placed a → ⊥)) → (a : ℕ) × Contains (e ∷ es) (a, y) × (Contains placed a → ⊥)
    by true t (inr out) rest = (e.0, subst (λ n. Contains (e ∷ es) (e.0, n)) (exact_unsigned_eq e.1 y t) (contains_here e es), out)
    by true t (inl p) rest =
        let none : cond {A = ℕ} (nat_eq e.1 y && not (has placed e.0)) 1 0 ≡ 0 = rw (t, any-from_number_in placed e.0 p) refl in
        later (rest (omega (arith, h, sum, none)))
    by false t p rest =
        let none : cond {A = ℕ} (nat_eq e.1 y && not (has placed e.0)) 1 0 ≡ 0 = rw t refl in
        later (rest (omega (arith, h, sum, none)))

-- nothing may come next, and these are the counts
pub record Stopped (g : GraphData) (placed waits : List ℕ) : Type 0 where
  pub taken : IsTaken g placed
  pub same_length : length waits ≡ g.count
  pub tell : (node : ℕ) → node < g.count → Contains placed node ↔ (get_or waits node 0 ≡ 0)

unplaced : (g : GraphData) (placed waits : List ℕ) (y : ℕ) → Stopped g placed waits → 0 < get_or waits y 0 → IsUnplaced g placed y
unplaced g placed waits y h some = by (cases_lt y (length waits))
  where
    by : (y < length waits) ⊎ (length waits ≤ y) → IsUnplaced g placed y
    by (inl l) =
        let within : y < g.count = omega (arith, l, h.same_length) in
        record { within = within; unplaced = λ p. (let z = (h.tell y within).0 p in omega (arith, z, some)) }
    by (inr past) = let none = get_or_past waits y 0 past in absurd (omega (arith, some, none))

waiting : (g : GraphData) (placed waits : List ℕ) (y : ℕ) → Stopped g placed waits → IsUnplaced g placed y → 0 < get_or waits y 0
waiting g placed waits y h u = by (cases_lt 0 (get_or waits y 0))
  where
    by : (0 < get_or waits y 0) ⊎ (get_or waits y 0 ≤ 0) → 0 < get_or waits y 0
    by (inl l) = l
    by (inr z) = let none : get_or waits y 0 ≡ 0 = omega (arith, z) in absurd (u.unplaced ((h.tell y u.within).1 none))

-- an unplaced node has an unplaced one before it
held : (g : GraphData) (placed : List ℕ) (y : ℕ) → IsTaken g placed → IsUnplaced g placed y → (a : ℕ) × Contains g.edges (a, y) × (Contains placed a → ⊥)
held g placed y taken u = by (cases_lt 0 (count_waiting placed y g.edges))
  where
    by : (0 < count_waiting placed y g.edges) ⊎ (count_waiting placed y g.edges ≤ 0) → (a : ℕ) × Contains g.edges (a, y) × (Contains placed a → ⊥)
    by (inl some) = some_waiting placed y g.edges some
    by (inr z) =
        let none : count_waiting placed y g.edges ≡ 0 = omega (arith, z) in
        absurd (taken.none_left y record { within = u.within; unplaced = u.unplaced; free = waits_for_none placed y g.edges none })

goes_walk : (g : GraphData) (placed waits before : List ℕ) (s : ℕ) (xs : List ℕ) → AreWithin g.count g.edges → Stopped g placed waits
    → ((node a : ℕ) → Contains g.edges (a, node) → 0 < get_or waits a 0 → IsEarliestWaiting waits g.edges node (get_or before node 0))
    → IsUnplaced g placed s → Goes before s xs → IsWalk g placed s xs
goes_walk g placed waits before s [] within h least u goes = tt
goes_walk g placed waits before s (x ∷ xs) within h least u goes =
    let some = held g placed s h.taken u in
    let ends : (some.0 < g.count) × (s < g.count) = All-contains (λ (e : ℕ × ℕ). (e.0 < g.count) × (e.1 < g.count)) g.edges (some.0, s) within some.1 in
    let first = least s some.0 some.1 (waiting g placed waits some.0 h record { within = ends.0; unplaced = some.2 }) in
    let step : IsEarliestBefore g placed s (get_or before s 0) = record {
      is = unplaced g placed waits (get_or before s 0) h first.waiting;
      edge = first.edge;
      earliest = λ o v edge. first.earliest o edge (waiting g placed waits o h v);
    } in
    let step_x : IsEarliestBefore g placed s x = subst (IsEarliestBefore g placed s) (sym goes.0) step in
    (step_x, goes_walk g placed waits before x xs within h least step_x.is goes.1)

-- what the crate turned is the cycle that the definition finds
found : (g : GraphData) (placed before : List ℕ) (start : ℕ) (path : List ℕ) (again : ℕ) (cycle : List ℕ) → IsTaken g placed → IsEarliestUnplaced g placed start → (l : IsLasso before start path again) → IsWalk g placed start l.walk → IsTurned path again cycle
    → IsFound g cycle
found g placed before start path again cycle taken begins l walks t = record {
  placed = placed;
  taken = taken;
  start = start;
  walk = l.walk;
  entry = t.entry;
  again = again;
  loop = t.loop;
  begins = begins;
  walks = walks;
  splits = l.is ∙ ap (λ p. p ++ again ∷ []) t.splits ∙ append_assoc t.entry (again ∷ t.loop) (again ∷ []);
  once = subst HasNoRepeat t.splits l.once;
  front = t.front;
  first = t.first;
  rest = t.rest;
  turned = t.turned;
  is = t.is;
  earliest = t.earliest;
}

closed_walk : (g : GraphData) (placed before : List ℕ) (start : ℕ) (path : List ℕ) (again : ℕ) (cycle : List ℕ) → (l : IsLasso before start path again) → IsWalk g placed start l.walk → IsTurned path again cycle → IsClosedWalk g cycle
closed_walk g placed before start path again cycle l walks t = record {
  first = t.first;
  rest = t.rest ++ t.front;
  is = t.is;
  closed = subst (IsAlongEdges g t.first) (sym (append_assoc t.rest t.front (t.first ∷ []))) (join_along g t.first t.rest ends.0 again (t.front ++ t.first ∷ []) ends.1 both.1 both.0);
}
  where
    splits : start ∷ l.walk ≡ t.entry ++ again ∷ (t.loop ++ again ∷ [])
    splits = l.is ∙ ap (λ p. p ++ again ∷ []) t.splits ∙ append_assoc t.entry (again ∷ t.loop) (again ∷ [])

    along : IsAlongEdges g again (t.front ++ t.first ∷ t.rest)
    along = subst (IsAlongEdges g again) (append-nil (reverse (again ∷ t.loop)) ∙ t.turned)
        (back_along g placed again (t.loop ++ again ∷ []) (again ∷ t.loop) again [] refl (walk_end g placed start l.walk t.entry again (t.loop ++ again ∷ []) splits walks) tt)

    both : IsAlongEdges g again (t.front ++ t.first ∷ []) × IsAlongEdges g t.first t.rest
    both = split_along g again t.front t.first t.rest along

    ends : (p : List ℕ) × (t.first ∷ t.rest ≡ p ++ again ∷ [])
    ends = last_of t.front t.first t.rest (reverse t.loop) again (sym t.turned ∙ reverse-append (again ∷ []) t.loop)

cycle_once : (path : List ℕ) (again : ℕ) (cycle : List ℕ) → HasNoRepeat path → IsTurned path again cycle → HasNoRepeat cycle
cycle_once path again cycle once t =
    let loop = again ∷ t.loop in
    let loop_once : HasNoRepeat loop = once_end t.entry loop (subst HasNoRepeat t.splits once) in
    let turned_once : HasNoRepeat (t.front ++ t.first ∷ t.rest) = subst HasNoRepeat t.turned (reverse_once loop loop_once) in
    subst HasNoRepeat (sym t.is) (turned_round t.front (t.first ∷ t.rest) turned_once)

-- what `order` says of a cycle
pub record Told (g : GraphData) (cycle : List ℕ) : Type 0 where
  pub none_lawful : (list : List ℕ) → IsLawful g list → ⊥
  pub closed : IsClosedWalk g cycle
  pub once : HasNoRepeat cycle
  pub begins : BeginsEarliest cycle
  pub is_found : IsFound g cycle

pub told : (g : GraphData) (placed waits before : List ℕ) (start : ℕ) (path : List ℕ) (again : ℕ) (cycle : List ℕ) → AreWithin g.count g.edges → Stopped g placed waits
    → ((node a : ℕ) → Contains g.edges (a, node) → 0 < get_or waits a 0 → IsEarliestWaiting waits g.edges node (get_or before node 0))
    → 0 < get_or waits start 0 → ((node : ℕ) → 0 < get_or waits node 0 → start ≤ node) → IsLasso before start path again → IsTurned path again cycle
    → Told g cycle
told g placed waits before start path again cycle within h least some first l t =
    let u = unplaced g placed waits start h some in
    let walks = goes_walk g placed waits before start l.walk within h least u l.goes in
    let begins : IsEarliestUnplaced g placed start = record { is = u; earliest = λ o v. first o (waiting g placed waits o h v) } in
    record {
      none_lawful = none_lawful g placed start h.taken.none_left u.within u.unplaced;
      closed = closed_walk g placed before start path again cycle l walks t;
      once = cycle_once path again cycle l.once t;
      begins = record { first = t.first; rest = t.rest ++ t.front; is = t.is; earliest = t.earliest };
      is_found = found g placed before start path again cycle h.taken begins l walks t;
    }
