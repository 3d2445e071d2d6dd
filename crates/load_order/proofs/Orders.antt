-- What is taken node by node, against lawful lists.
use Rattle.std.proofs.Common.{◌≡◌, ◌<◌, ◌≤◌, ◌⊎◌, inl, inr, ℕ, List, [], ◌∷◌, ◌++◌, Contains, refl, sym, ap, subst, ◌∙◌, append_assoc, append-nil, arith}
use Rattle.std.proofs.lemmas.List.Elements.{Contains-append_left, Contains-append_right, Contains-push_cases}
use Rattle.std.proofs.lemmas.Bool.{cases_lt}
use Rattle.mod_rules.specs.Edges.{GraphData}
use Rattle.load_order.specs.Orders.{IsLawful, MayComeNext, IsNext, EachIsNext, IsNoLater}
use Rattle.list_laws.proofs.Containing.{contains_here, contains_none, contains_cases, parts}
use Rattle.list_laws.proofs.Texts.{number_in_or_not}

-- a node of the list was next after those in front of it
pub was_next : (g : GraphData) (p xs front : List ℕ) (node : ℕ) (back : List ℕ) → EachIsNext g p xs → xs ≡ front ++ node ∷ back → IsNext g (p ++ front) node
was_next g p [] [] node back h e = cc
was_next g p [] (f ∷ fs) node back h e = cc
was_next g p (x ∷ xs) [] node back h e =
    let same : x ≡ node = cc in
    subst (λ n. IsNext g (p ++ []) n) same (subst (λ l. IsNext g l x) (sym (append-nil p)) h.0)
was_next g p (x ∷ xs) (f ∷ fs) node back h e =
    let first : x ≡ f = cc in
    let rest : xs ≡ fs ++ node ∷ back = cc in
    subst (λ n. IsNext g (p ++ n ∷ fs) node) first
    (subst (λ l. IsNext g l node) (append_assoc p (x ∷ []) fs) (was_next g (p ++ x ∷ []) xs fs node back h.1 rest))

-- one more
pub taken_more : (g : GraphData) (p xs : List ℕ) (x : ℕ) → EachIsNext g p xs → IsNext g (p ++ xs) x → EachIsNext g p (xs ++ x ∷ [])
taken_more g p [] x h next = (subst (λ l. IsNext g l x) (append-nil p) next, tt)
taken_more g p (y ∷ ys) x h next = (h.0, taken_more g (p ++ y ∷ []) ys x h.1 (subst (λ l. IsNext g l x) (sym (append_assoc p (y ∷ []) ys)) next))

-- whatever has to load before a placed node is placed
pub closed : (g : GraphData) (placed : List ℕ) (a node : ℕ) → EachIsNext g [] placed → Contains placed node → Contains g.edges (a, node) → Contains placed a
closed g placed a node each at edge =
    let p = parts placed node at in
    subst (λ l. Contains l a) (sym p.is) (Contains-append_left p.front (node ∷ p.back) a ((was_next g [] placed p.front node p.back each p.is).may.free a edge))

-- the list is lawful, if each node is in it
pub lawful : (g : GraphData) (placed : List ℕ) → EachIsNext g [] placed → ((node : ℕ) → node < g.count → Contains placed node) → IsLawful g placed
lawful g placed each all = record {
  every = all;
  only = λ node at. let p = parts placed node at in (was_next g [] placed p.front node p.back each p.is).may.within;
  once = λ front node back e at. (was_next g [] placed front node back each e).may.unplaced at;
  ordered = λ a b edge front back e. (was_next g [] placed front b back each e).may.free a edge;
}

-- a lawful list takes a node only where it may come next
pub lawful_may : (g : GraphData) (p : List ℕ) (y : ℕ) (ys : List ℕ) → IsLawful g (p ++ y ∷ ys) → MayComeNext g p y
lawful_may g p y ys h = record {
  within = h.only y (Contains-append_right p (y ∷ ys) y (contains_here y ys));
  unplaced = λ at. h.once p y ys refl at;
  free = λ a edge. h.ordered a y edge p ys refl;
}

-- no lawful list is earlier
pub no_later : (g : GraphData) (p xs ys : List ℕ) → EachIsNext g p xs → IsLawful g (p ++ ys) → IsNoLater xs ys
no_later g p [] ys each h = tt
no_later g p (x ∷ xs) [] each h =
    let all : IsLawful g p = subst (IsLawful g) (append-nil p) h in
    absurd (each.0.may.unplaced (all.every x each.0.may.within))
no_later g p (x ∷ xs) (y ∷ ys) each h = by (cases_lt x y) (no_later g (p ++ x ∷ []) xs ys each.1)
  where
    least : x ≤ y
    least = each.0.earliest y (lawful_may g p y ys h)

    by : (x < y) ⊎ (y ≤ x) → (IsLawful g ((p ++ x ∷ []) ++ ys) → IsNoLater xs ys) → IsNoLater (x ∷ xs) (y ∷ ys)
    by (inl l) rest = inl l
    by (inr l) rest =
        let e : x ≡ y = omega (arith, least, l) in
        let moved : IsLawful g ((p ++ x ∷ []) ++ ys) = subst (IsLawful g) (ap (λ n. p ++ n ∷ ys) (sym e) ∙ sym (append_assoc p (x ∷ []) ys)) h in
        inr (e, rest moved)

-- what a lawful list takes first of those that aren't placed
stuck : (g : GraphData) (placed front rest : List ℕ) (u : ℕ) → ((node : ℕ) → MayComeNext g placed node → ⊥) → IsLawful g (front ++ rest) → ((x : ℕ) → Contains front x → Contains placed x)
    → (Contains placed u → ⊥) → Contains rest u → ⊥
stuck g placed front [] u none h all not at = contains_none u at
stuck g placed front (x ∷ rest) u none h all not at = by (number_in_or_not placed x) (stuck g placed (front ++ x ∷ []) rest u none)
  where
    free : (a : ℕ) → Contains g.edges (a, x) → Contains placed a
    free a edge = all a (h.ordered a x edge front rest refl)

    on : Contains placed x → (y : ℕ) → Contains front y ⊎ (x ≡ y) → Contains placed y
    on l y (inl f) = all y f
    on l y (inr e) = subst (Contains placed) e l

    left : Contains placed x → (u ≡ x) ⊎ Contains rest u → Contains rest u
    left l (inl e) = absurd (not (subst (Contains placed) (sym e) l))
    left l (inr r) = r

    by : Contains placed x ⊎ (Contains placed x → ⊥)
        → (IsLawful g ((front ++ x ∷ []) ++ rest) → ((y : ℕ) → Contains (front ++ x ∷ []) y → Contains placed y) → (Contains placed u → ⊥) → Contains rest u → ⊥) → ⊥
    by (inl l) later =
        later (subst (IsLawful g) (sym (append_assoc front (x ∷ []) rest)) h) (λ y f. on l y (Contains-push_cases front x y f)) not (left l (contains_cases x u rest at))
    by (inr l) later = none x record { within = h.only x (Contains-append_right front (x ∷ rest) x (contains_here x rest)); unplaced = l; free = free }

-- no list is lawful, if some node can't be placed
pub none_lawful : (g : GraphData) (placed : List ℕ) (u : ℕ) → ((node : ℕ) → MayComeNext g placed node → ⊥) → u < g.count → (Contains placed u → ⊥) → (list : List ℕ) → IsLawful g list → ⊥
none_lawful g placed u none within not list h = stuck g placed [] list u none h (λ x f. absurd (contains_none x f)) not (h.every u within)

-- what can be taken is determined
pub one_taken : (g : GraphData) (p xs ys : List ℕ) → EachIsNext g p xs → EachIsNext g p ys → ((n : ℕ) → MayComeNext g (p ++ xs) n → ⊥) → ((n : ℕ) → MayComeNext g (p ++ ys) n → ⊥) → xs ≡ ys
one_taken g p [] [] a b stop none = refl
one_taken g p [] (y ∷ ys) a b stop none = absurd (stop y (subst (λ l. MayComeNext g l y) (sym (append-nil p)) b.0.may))
one_taken g p (x ∷ xs) [] a b stop none = absurd (none x (subst (λ l. MayComeNext g l x) (sym (append-nil p)) a.0.may))
one_taken g p (x ∷ xs) (y ∷ ys) a b stop none =
    let l = a.0.earliest y b.0.may in
    let m = b.0.earliest x a.0.may in
    let e : x ≡ y = omega (arith, l, m) in
    let moved : EachIsNext g (p ++ x ∷ []) ys = subst (λ n. EachIsNext g (p ++ n ∷ []) ys) (sym e) b.1 in
    let none_x : (n : ℕ) → MayComeNext g ((p ++ x ∷ []) ++ xs) n → ⊥ = λ n may. stop n (subst (λ z. MayComeNext g z n) (append_assoc p (x ∷ []) xs) may) in
    let none_y : (n : ℕ) → MayComeNext g ((p ++ x ∷ []) ++ ys) n → ⊥ = λ n may. none n (subst (λ z. MayComeNext g z n) (append_assoc p (x ∷ []) ys ∙ ap (λ z. p ++ z ∷ ys) e) may) in
    let rest = one_taken g (p ++ x ∷ []) xs ys a.1 moved none_x none_y in
    ap (λ z. z ∷ xs) e ∙ ap (λ z. y ∷ z) rest
