-- The definition finds one cycle.
use Rattle.std.proofs.Common.{◌≡◌, ◌≤◌, ◌⊎◌, inl, inr, ℕ, List, [], ◌∷◌, ◌++◌, Contains, reverse, refl, sym, ap, subst, ◌∙◌, append_assoc, arith}
use Rattle.std.proofs.lemmas.List.Elements.{Contains-append_left, Contains-append_right, Contains-append_cases}
use Rattle.mod_rules.specs.Edges.{GraphData}
use Rattle.load_order.specs.Orders.{HasNoRepeat, IsTaken}
use Rattle.load_order.specs.Cycles.{IsEarliestUnplaced, IsWalk, IsFound}
use Rattle.list_laws.proofs.Containing.{contains_here, contains_there}
use Rattle.load_order.proofs.Orders.{one_taken}
use Rattle.load_order.proofs.Repeats.{once_end, reverse_once}

-- the greedy definition names one list
pub taken_alone : (g : GraphData) (list other : List ℕ) → IsTaken g list → IsTaken g other → other ≡ list
taken_alone g list other a b = one_taken g [] other list b.each a.each b.none_left a.none_left

-- the longer list begins with the list
record GoesOn (list longer : List ℕ) : Type 0 where
  next : ℕ
  rest : List ℕ
  is : longer ≡ list ++ next ∷ rest

goes_on : (x y : ℕ) (xs ys : List ℕ) → x ≡ y → GoesOn xs ys → GoesOn (x ∷ xs) (y ∷ ys)
goes_on x y xs ys e h = record { next = h.next; rest = h.rest; is = ap (λ n. n ∷ ys) (sym e) ∙ ap (λ l. x ∷ l) h.is }

-- of two walks from a node, one goes on where the other ends, unless they are one
meet : (g : GraphData) (placed : List ℕ) (s : ℕ) (xs ys : List ℕ) → IsWalk g placed s xs → IsWalk g placed s ys → (xs ≡ ys) ⊎ (GoesOn xs ys ⊎ GoesOn ys xs)
meet g placed s [] [] a b = inl refl
meet g placed s [] (y ∷ ys) a b = inr (inl record { next = y; rest = ys; is = refl })
meet g placed s (x ∷ xs) [] a b = inr (inr record { next = x; rest = xs; is = refl })
meet g placed s (x ∷ xs) (y ∷ ys) a b = by (meet g placed x xs ys a.1 (subst (λ n. IsWalk g placed n ys) (sym same) b.1))
  where
    same : x ≡ y
    same = let l = a.0.earliest y b.0.is b.0.edge in let m = b.0.earliest x a.0.is a.0.edge in omega (arith, l, m)

    by : (xs ≡ ys) ⊎ (GoesOn xs ys ⊎ GoesOn ys xs) → (x ∷ xs ≡ y ∷ ys) ⊎ (GoesOn (x ∷ xs) (y ∷ ys) ⊎ GoesOn (y ∷ ys) (x ∷ xs))
    by (inl e) = inl (ap (λ n. n ∷ xs) same ∙ ap (λ l. y ∷ l) e)
    by (inr (inl h)) = inr (inl (goes_on x y xs ys same h))
    by (inr (inr h)) = inr (inr (goes_on y x ys xs (sym same) h))

-- all of a list but its last goes on past the front of a part that isn't the last
short_of : (xs f : List ℕ) (n m z : ℕ) (zs : List ℕ) → xs ++ n ∷ [] ≡ f ++ m ∷ z ∷ zs → (c : List ℕ) × (xs ≡ f ++ m ∷ c)
short_of [] [] n m z zs e = cc
short_of [] (y ∷ []) n m z zs e = cc
short_of [] (y ∷ w ∷ f) n m z zs e = cc
short_of (x ∷ xs) [] n m z zs e = (xs, ap (λ k. k ∷ xs) (let same : x ≡ m = cc in same))
short_of (x ∷ xs) (y ∷ f) n m z zs e =
    let same : x ≡ y = cc in
    let rest = short_of xs f n m z zs (let tail : xs ++ n ∷ [] ≡ f ++ m ∷ z ∷ zs = cc in tail) in
    (rest.0, ap (λ k. k ∷ xs) same ∙ ap (λ l. y ∷ l) rest.1)

-- a walk that ends at the first node that repeats doesn't go on
stops : (path other : List ℕ) (n m : ℕ) → HasNoRepeat path → Contains other m → GoesOn (other ++ m ∷ []) (path ++ n ∷ []) → ⊥
stops path other n m once at h =
    let whole : path ++ n ∷ [] ≡ other ++ m ∷ h.next ∷ h.rest = h.is ∙ append_assoc other (m ∷ []) (h.next ∷ h.rest) in
    let part = short_of path other n m h.next h.rest whole in
    once other m part.0 part.1 at

same_ends : (xs ys : List ℕ) (n m : ℕ) → xs ++ n ∷ [] ≡ ys ++ m ∷ [] → (xs ≡ ys) × (n ≡ m)
same_ends [] [] n m e = (refl, cc)
same_ends [] (y ∷ []) n m e = cc
same_ends [] (y ∷ w ∷ ys) n m e = cc
same_ends (x ∷ []) [] n m e = cc
same_ends (x ∷ w ∷ xs) [] n m e = cc
same_ends (x ∷ xs) (y ∷ ys) n m e =
    let same : x ≡ y = cc in
    let rest = same_ends xs ys n m (let tail : xs ++ n ∷ [] ≡ ys ++ m ∷ [] = cc in tail) in
    (ap (λ k. k ∷ xs) same ∙ ap (λ l. y ∷ l) rest.0, rest.1)

-- a list without a repeated node has a node at one place
same_split : (f h : List ℕ) (n : ℕ) (b d : List ℕ) → HasNoRepeat (f ++ n ∷ b) → f ++ n ∷ b ≡ h ++ n ∷ d → (f ≡ h) × (b ≡ d)
same_split [] [] n b d once e = (refl, cc)
same_split [] (y ∷ h) n b d once e =
    let same : n ≡ y = cc in
    absurd (once (y ∷ h) n d e (subst (λ k. Contains (y ∷ h) k) (sym same) (contains_here y h)))
same_split (x ∷ f) [] n b d once e =
    let same : x ≡ n = cc in
    absurd (once (x ∷ f) n b refl (subst (λ k. Contains (x ∷ f) k) same (contains_here x f)))
same_split (x ∷ f) (y ∷ h) n b d once e =
    let same : x ≡ y = cc in
    let rest = same_split f h n b d (λ p k q s at. once (x ∷ p) k q (ap (λ l. x ∷ l) s) (later p k at)) (let tail : f ++ n ∷ b ≡ h ++ n ∷ d = cc in tail) in
    (ap (λ k. k ∷ f) same ∙ ap (λ l. y ∷ l) rest.0, rest.1)
  where
    later : (p : List ℕ) (k : ℕ) → Contains p k → Contains (x ∷ p) k
    later p k at = contains_there x k p at

-- ---- the two parts of a cycle

-- what is in a list is in it turned
turned_has : (f : List ℕ) (b : List ℕ) (n : ℕ) → Contains (f ++ b) n → Contains (b ++ f) n
turned_has f b n at = by (Contains-append_cases f b n at)
  where
    by : Contains f n ⊎ Contains b n → Contains (b ++ f) n
    by (inl h) = Contains-append_right b f n h
    by (inr h) = Contains-append_left b f n h

-- one list, begun at its earliest node in two ways
one_turn : (whole f h : List ℕ) (x y : ℕ) (b d cycle other : List ℕ) → HasNoRepeat whole → whole ≡ f ++ x ∷ b → whole ≡ h ++ y ∷ d → cycle ≡ x ∷ b ++ f → other ≡ y ∷ d ++ h
    → ((n : ℕ) → Contains cycle n → x ≤ n) → ((n : ℕ) → Contains other n → y ≤ n) → other ≡ cycle
one_turn whole f h x y b d cycle other once is_f is_h made_f made_h least_f least_h =
    let in_f : Contains cycle y = subst (λ l. Contains l y) (sym made_f) (turned_has f (x ∷ b) y (subst (λ l. Contains l y) (sym is_h ∙ is_f) (Contains-append_right h (y ∷ d) y (contains_here y d)))) in
    let in_h : Contains other x = subst (λ l. Contains l x) (sym made_h) (turned_has h (y ∷ d) x (subst (λ l. Contains l x) (sym is_f ∙ is_h) (Contains-append_right f (x ∷ b) x (contains_here x b)))) in
    let low = least_f y in_f in
    let high = least_h x in_h in
    let same : y ≡ x = omega (arith, low, high) in
    let parts = same_split f h x b d (subst HasNoRepeat is_f once) (sym is_f ∙ is_h ∙ ap (λ n. h ++ n ∷ d) same) in
    made_h ∙ ap (λ n. (n ∷ d) ++ h) same ∙ ap (λ l. (x ∷ l) ++ h) (sym parts.1) ∙ ap (λ l. (x ∷ b) ++ l) (sym parts.0) ∙ sym made_f

-- ---- the cycle

-- two walks from a node, each until a node repeats, have one path
one_path : (g : GraphData) (placed : List ℕ) (s : ℕ) (xs ys p q : List ℕ) (n m : ℕ) → IsWalk g placed s xs → IsWalk g placed s ys → s ∷ xs ≡ p ++ n ∷ [] → s ∷ ys ≡ q ++ m ∷ [] → HasNoRepeat p → HasNoRepeat q → Contains p n → Contains q m
    → (p ≡ q) × (n ≡ m)
one_path g placed s xs ys p q n m a b is_p is_q once_p once_q at_p at_q = by (meet g placed s xs ys a b)
  where
    moved : (v w l k : List ℕ) → s ∷ v ≡ l → s ∷ w ≡ k → GoesOn v w → GoesOn l k
    moved v w l k e f h = subst (λ t. GoesOn t k) e (subst (λ t. GoesOn (s ∷ v) t) f (goes_on s s v w refl h))

    by : (xs ≡ ys) ⊎ (GoesOn xs ys ⊎ GoesOn ys xs) → (p ≡ q) × (n ≡ m)
    by (inl e) = same_ends p q n m (sym is_p ∙ ap (λ l. s ∷ l) e ∙ is_q)
    by (inr (inl h)) = absurd (stops q p m n once_q at_p (moved xs ys (p ++ n ∷ []) (q ++ m ∷ []) is_p is_q h))
    by (inr (inr h)) = absurd (stops p q n m once_p at_q (moved ys xs (q ++ m ∷ []) (p ++ n ∷ []) is_q is_p h))

pub found_alone : (g : GraphData) (cycle other : List ℕ) → IsFound g cycle → IsFound g other → other ≡ cycle
found_alone g cycle other a b =
    one_turn (reverse (a.again ∷ a.loop)) a.front b.front a.first b.first a.rest b.rest cycle other (reverse_once (a.again ∷ a.loop) (once_end a.entry (a.again ∷ a.loop) a.once))
    a.turned (ap (λ n. reverse (n ∷ a.loop)) paths.1 ∙ ap (λ l. reverse (b.again ∷ l)) parts.1 ∙ b.turned) a.is b.is a.earliest b.earliest
  where
    same_placed : b.placed ≡ a.placed
    same_placed = taken_alone g a.placed b.placed a.taken b.taken

    starts : IsEarliestUnplaced g a.placed b.start
    starts = subst (λ l. IsEarliestUnplaced g l b.start) same_placed b.begins

    same_start : b.start ≡ a.start
    same_start = let low = a.begins.earliest b.start starts.is in let high = starts.earliest a.start a.begins.is in omega (arith, low, high)

    walks : IsWalk g a.placed a.start b.walk
    walks = subst (λ n. IsWalk g a.placed n b.walk) same_start (subst (λ l. IsWalk g l b.start b.walk) same_placed b.walks)

    paths : (a.entry ++ a.again ∷ a.loop ≡ b.entry ++ b.again ∷ b.loop) × (a.again ≡ b.again)
    paths = one_path g a.placed a.start a.walk b.walk (a.entry ++ a.again ∷ a.loop) (b.entry ++ b.again ∷ b.loop) a.again b.again a.walks walks
        (a.splits ∙ sym (append_assoc a.entry (a.again ∷ a.loop) (a.again ∷ []))) (ap (λ n. n ∷ b.walk) (sym same_start) ∙ b.splits ∙ sym (append_assoc b.entry (b.again ∷ b.loop) (b.again ∷ []))) a.once b.once
        (Contains-append_right a.entry (a.again ∷ a.loop) a.again (contains_here a.again a.loop)) (Contains-append_right b.entry (b.again ∷ b.loop) b.again (contains_here b.again b.loop))

    parts : (a.entry ≡ b.entry) × (a.loop ≡ b.loop)
    parts = same_split a.entry b.entry a.again a.loop b.loop a.once (paths.0 ∙ ap (λ n. b.entry ++ n ∷ b.loop) (sym paths.1))
