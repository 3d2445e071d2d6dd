-- Which items a list contains.
use Rattle.std.proofs.Common.{◌≡◌, ◌⊎◌, ℕ, zero, suc, ◌+◌, ◌<◌, ◌≤◌, Bool, true, false, ◌||◌, cond, List, [], ◌∷◌, ◌++◌, map, reverse, filter, filter_map, find, length, get_or, slice_get, take, take_all, drop, Option, Some, None, refl, sym, ap, ◌∙◌, inl, inr, subst, arith}
use Rattle.std.specs.List.{Contains, list_any, cons_option}
use Rattle.std.proofs.lemmas.List.Elements.{Contains-append_left, Contains-append_right, Contains-append_cases}
use Rattle.list_laws.proofs.Truths.{false_or, chosen_first, chosen_rest}
use Rattle.list_laws.proofs.Lists.{around, one_more, reverse_cons}

pub contains_here : {X : Type 0} (x : X) (xs : List X) → Contains (x ∷ xs) x
contains_here x xs = (zero, omega arith, refl)

pub contains_there : {X : Type 0} (x y : X) (xs : List X) → Contains xs y → Contains (x ∷ xs) y
contains_there x y xs c = (suc c.0, let lt = c.1 in omega arith, c.2)

-- the first item, or one of the others
pub contains_cases : {X : Type 0} (x y : X) (xs : List X) → Contains (x ∷ xs) y → (y ≡ x) ⊎ Contains xs y
contains_cases x y xs c = by_index c.0 c.1 c.2
  where
    by_index : (k : ℕ) → k < length (x ∷ xs) → get_or (x ∷ xs) k y ≡ y → (y ≡ x) ⊎ Contains xs y
    by_index zero lt is = inl (sym is)
    by_index (suc k) lt is = inr (k, omega arith, is)

pub contains_none : {X : Type 0} (y : X) → Contains [] y → ⊥
contains_none y c = let lt = c.1 in omega arith

pub contains_only : {X : Type 0} (x y : X) → Contains (x ∷ []) y → y ≡ x
contains_only x y c = elim (contains_cases x y [] c) [ inl is ↦ is | inr never ↦ absurd (contains_none y never) ]

-- in front of a seam, at it, or behind it
pub at_seam : {X : Type 0} (xs : List X) (y : X) (ys : List X) (x : X) → Contains (xs ++ y ∷ ys) x → Contains xs x ⊎ (x ≡ y) ⊎ Contains ys x
at_seam xs y ys x c = elim (Contains-append_cases xs (y ∷ ys) x c) [ inl front ↦ inl front | inr rest ↦ inr (contains_cases y x ys rest) ]

pub contains_seam : {X : Type 0} (xs : List X) (y : X) (ys : List X) → Contains (xs ++ y ∷ ys) y
contains_seam xs y ys = Contains-append_right xs (y ∷ ys) y (contains_here y ys)

-- one of the items, or the last
pub last_cases : {X : Type 0} (xs : List X) (y x : X) → Contains (xs ++ y ∷ []) x → Contains xs x ⊎ (x ≡ y)
last_cases xs y x c = elim (Contains-append_cases xs (y ∷ []) x c) [ inl front ↦ inl front | inr last ↦ inr (contains_only y x last) ]

-- what stands in front of an item, and what behind it
pub record Parts {X : Type 0} (list : List X) (x : X) : Type 0 where
  pub front : List X
  pub back : List X
  pub is : list ≡ front ++ x ∷ back

pub parts : {X : Type 0} (list : List X) (x : X) → Contains list x → Parts list x
parts [] x c = absurd (contains_none x c)
parts (y ∷ ys) x c = by (contains_cases y x ys c) (parts ys x)
  where
    by : (x ≡ y) ⊎ Contains ys x → (Contains ys x → Parts ys x) → Parts (y ∷ ys) x
    by (inl e) rest = record { front = []; back = ys; is = ap (λ z. z ∷ ys) (sym e) }
    by (inr l) rest = let p = rest l in record { front = y ∷ p.front; back = p.back; is = ap (λ z. y ∷ z) p.is }

pub index_of : {X : Type 0} (xs : List X) (x : X) → Contains xs x → (i : ℕ) × (slice_get xs i ≡ Some x)
index_of [] x c = absurd (contains_none x c)
index_of (y ∷ ys) x c = elim (contains_cases y x ys c) [
  | inl e ↦ (zero, ap Some (sym e))
  | inr there ↦ let rest = index_of ys x there in (suc rest.0, rest.1)
]

-- Lists made of others

-- an item of the mapped list is the image of an item
pub contains_map : {X Y : Type 0} (f : X → Y) (xs : List X) (y : Y) → Contains (map f xs) y → (x : X) × Contains xs x × (f x ≡ y)
contains_map f [] y c = absurd (contains_none y c)
contains_map f (x ∷ xs) y c = elim (contains_cases (f x) y (map f xs) c) [
  | inl e ↦ (x, contains_here x xs, sym e)
  | inr there ↦ let rest = contains_map f xs y there in (rest.0, contains_there x rest.0 xs rest.1, rest.2)
]

pub map_contains : {X Y : Type 0} (f : X → Y) (xs : List X) (x : X) → Contains xs x → Contains (map f xs) (f x)
map_contains f [] x c = absurd (contains_none x c)
map_contains f (y ∷ ys) x c = elim (contains_cases y x ys c) [
  | inl e ↦ subst (λ v. Contains (map f (y ∷ ys)) (f v)) (sym e) (contains_here (f y) (map f ys))
  | inr there ↦ contains_there (f y) (f x) (map f ys) (map_contains f ys x there)
]

-- an item that passes is left
pub filter_contains : {X : Type 0} (p : X → Bool) (xs : List X) (x : X) → Contains xs x → p x ≡ true → Contains (filter p xs) x
filter_contains p [] x c h = absurd (contains_none x c)
filter_contains p (y ∷ ys) x c h = elim (contains_cases y x ys c) [
  | inl e ↦ let here : p y ≡ true = ap p (sym e) ∙ h in rw here (subst (λ z. Contains (y ∷ filter p ys) z) (sym e) (contains_here y (filter p ys)))
  | inr there ↦ let rest = filter_contains p ys x there h in kept (p y) rest
]
  where
    kept : (b : Bool) → Contains (filter p ys) x → Contains (cond b (y ∷ filter p ys) (filter p ys)) x
    kept true r = contains_there y x (filter p ys) r
    kept false r = r

-- what is left is an item that passes
pub contains_filter : {X : Type 0} (p : X → Bool) (xs : List X) (x : X) → Contains (filter p xs) x → Contains xs x × (p x ≡ true)
contains_filter p [] x c = absurd (contains_none x c)
contains_filter p (y ∷ ys) x c = by_test (p y) refl c (contains_filter p ys x)
  where
    by_test : (b : Bool) → p y ≡ b → Contains (cond b (y ∷ filter p ys) (filter p ys)) x → (Contains (filter p ys) x → Contains ys x × (p x ≡ true)) → Contains (y ∷ ys) x × (p x ≡ true)
    by_test true e d rest = elim (contains_cases y x (filter p ys) d) [
      | inl is ↦ (subst (λ z. Contains (y ∷ ys) z) (sym is) (contains_here y ys), ap p is ∙ e)
      | inr there ↦ let r = rest there in (contains_there y x ys r.0, r.1)
    ]
    by_test false e d rest = let r = rest d in (contains_there y x ys r.0, r.1)

-- what a list gives is given by an item
pub contains_filter_map : {X Y : Type 0} (f : X → Option Y) (xs : List X) (y : Y) → Contains (filter_map f xs) y → (x : X) × Contains xs x × (f x ≡ Some y)
contains_filter_map f [] y c = absurd (contains_none y c)
contains_filter_map {X} {Y} f (x ∷ xs) y c = by (f x) refl c (contains_filter_map f xs y)
  where
    by : (o : Option Y) → f x ≡ o → Contains (cons_option o (filter_map f xs)) y → (Contains (filter_map f xs) y → (z : X) × Contains xs z × (f z ≡ Some y)) → (z : X) × Contains (x ∷ xs) z × (f z ≡ Some y)
    by None e d rest = let r = rest d in (r.0, contains_there x r.0 xs r.1, r.2)
    by (Some v) e d rest = elim (contains_cases v y (filter_map f xs) d) [
      | inl is ↦ (x, contains_here x xs, e ∙ ap Some (sym is))
      | inr there ↦ let r = rest there in (r.0, contains_there x r.0 xs r.1, r.2)
    ]

pub filter_map_contains : {X Y : Type 0} (f : X → Option Y) (xs : List X) (x : X) (y : Y) → Contains xs x → f x ≡ Some y → Contains (filter_map f xs) y
filter_map_contains f [] x y c h = absurd (contains_none x c)
filter_map_contains {X} {Y} f (z ∷ zs) x y c h = elim (contains_cases z x zs c) [
  | inl is ↦ let here : f z ≡ Some y = ap f (sym is) ∙ h in subst (λ o. Contains (cons_option o (filter_map f zs)) y) (sym here) (contains_here y (filter_map f zs))
  | inr there ↦ kept (f z) (filter_map_contains f zs x y there h)
]
  where
    kept : (o : Option Y) → Contains (filter_map f zs) y → Contains (cons_option o (filter_map f zs)) y
    kept None r = r
    kept (Some v) r = contains_there v y (filter_map f zs) r

pub reverse_contains : {X : Type 0} (xs : List X) (x : X) → Contains xs x → Contains (reverse xs) x
reverse_contains [] x c = absurd (contains_none x c)
reverse_contains (y ∷ ys) x c = subst (λ l. Contains l x) (sym (reverse_cons y ys)) (elim (contains_cases y x ys c) [
  | inl is ↦ subst (λ z. Contains (reverse ys ++ y ∷ []) z) (sym is) (contains_seam (reverse ys) y [])
  | inr there ↦ Contains-append_left (reverse ys) (y ∷ []) x (reverse_contains ys x there)
])

pub contains_reverse : {X : Type 0} (xs : List X) (x : X) → Contains (reverse xs) x → Contains xs x
contains_reverse [] x c = c
contains_reverse (y ∷ ys) x c = elim (last_cases (reverse ys) y x (subst (λ l. Contains l x) (reverse_cons y ys) c)) [
  | inl front ↦ contains_there y x ys (contains_reverse ys x front)
  | inr is ↦ subst (λ z. Contains (y ∷ ys) z) (sym is) (contains_here y ys)
]

-- Tests

-- an item that passes
pub any-from_contains : {X : Type 0} (p : X → Bool) (xs : List X) (x : X) → p x ≡ true → Contains xs x → list_any p xs ≡ true
any-from_contains p [] x h c = absurd (contains_none x c)
any-from_contains p (y ∷ ys) x h c = elim (contains_cases y x ys c) [
  | inl is ↦ ap (λ b. b || list_any p ys) (ap p (sym is) ∙ h)
  | inr there ↦ later (p y) (any-from_contains p ys x h there)
]
  where
    later : (b : Bool) → list_any p ys ≡ true → (b || list_any p ys) ≡ true
    later true rest = refl
    later false rest = rest

pub contains-from_any : {X : Type 0} (p : X → Bool) (xs : List X) → list_any p xs ≡ true → (x : X) × Contains xs x × (p x ≡ true)
contains-from_any p [] h = let never : ⊥ = cc in absurd never
contains-from_any {X} p (y ∷ ys) h = by_test (p y) refl (contains-from_any p ys)
  where
    by_test : (b : Bool) → p y ≡ b → (list_any p ys ≡ true → (x : X) × Contains ys x × (p x ≡ true)) → (x : X) × Contains (y ∷ ys) x × (p x ≡ true)
    by_test true e rest = (y, contains_here y ys, e)
    by_test false e rest = let r = rest (sym (false_or (p y) (list_any p ys) e) ∙ h) in (r.0, contains_there y r.0 ys r.1, r.2)

-- where only one item can pass
pub contains-from_any_one : {X : Type 0} (p : X → Bool) (xs : List X) (x : X) → ((y : X) → p y ≡ true → y ≡ x) → list_any p xs ≡ true → Contains xs x
contains-from_any_one p xs x one h = let r = contains-from_any p xs h in subst (λ z. Contains xs z) (one r.0 r.2) r.1

-- The first item that passes

pub find-some : {X : Type 0} (p : X → Bool) (xs : List X) (x : X) → find p xs ≡ Some x → Contains xs x × (p x ≡ true)
find-some p [] x e = let never : ⊥ = cc in absurd never
find-some p (y ∷ ys) x e = by_test (p y) refl (find-some p ys x)
  where
    by_test : (b : Bool) → p y ≡ b → (find p ys ≡ Some x → Contains ys x × (p x ≡ true)) → Contains (y ∷ ys) x × (p x ≡ true)
    by_test true t rest = let is : y ≡ x = chosen_first (p y) y x (find p ys) t e in (subst (λ z. Contains (y ∷ ys) z) is (contains_here y ys), ap p (sym is) ∙ t)
    by_test false t rest = let r = rest (chosen_rest (p y) y (find p ys) (Some x) t e) in (contains_there y x ys r.0, r.1)

pub find-none : {X : Type 0} (p : X → Bool) (xs : List X) (x : X) → find p xs ≡ None → Contains xs x → p x ≡ false
find-none p [] x e c = absurd (contains_none x c)
find-none p (y ∷ ys) x e c = by_test (p y) refl (find-none p ys x)
  where
    by_test : (b : Bool) → p y ≡ b → (find p ys ≡ None → Contains ys x → p x ≡ false) → p x ≡ false
    by_test true t rest = let here : cond (p y) (Some y) (find p ys) ≡ Some y = ap (λ b. cond b (Some y) (find p ys)) t in let never : Some y ≡ None = sym here ∙ e in cc
    by_test false t rest = elim (contains_cases y x ys c) [
      | inl is ↦ ap p is ∙ t
      | inr there ↦ rest (chosen_rest (p y) y (find p ys) None t e) there
    ]

pub find-nowhere : {X : Type 0} (p : X → Bool) (xs : List X) → ((x : X) → Contains xs x → p x ≡ false) → find p xs ≡ None
find-nowhere p [] h = refl
find-nowhere p (y ∷ ys) h = ap (λ b. cond b (Some y) (find p ys)) (h y (contains_here y ys)) ∙ find-nowhere p ys (λ x c. h x (contains_there y x ys c))

-- where one item alone passes, it is found
pub find-one : {X : Type 0} (p : X → Bool) (xs : List X) (x : X) → Contains xs x → p x ≡ true → ((y : X) → Contains xs y → p y ≡ true → y ≡ x) → find p xs ≡ Some x
find-one p [] x c h one = absurd (contains_none x c)
find-one {X} p (y ∷ ys) x c h one = by_test (p y) refl (find-one p ys x)
  where
    by_test : (b : Bool) → p y ≡ b → (Contains ys x → p x ≡ true → ((z : X) → Contains ys z → p z ≡ true → z ≡ x) → find p ys ≡ Some x) → find p (y ∷ ys) ≡ Some x
    by_test true t rest = ap (λ b. cond b (Some y) (find p ys)) t ∙ ap Some (one y (contains_here y ys) t)
    by_test false t rest = ap (λ b. cond b (Some y) (find p ys)) t ∙ elim (contains_cases y x ys c) [
      | inl is ↦ (let never : true ≡ false = sym h ∙ ap p is ∙ t in absurd (cc))
      | inr there ↦ rest there h (λ z d q. one z (contains_there y z ys d) q)
    ]

-- Where a loop over a list stands

-- of the items so far and this one
pub in_next : {X : Type 0} (xs : List X) (i : ℕ) (x y : X) → i < length xs → x ≡ get_or xs i x → Contains (take (i + 1) xs) y → Contains (take i xs) y ⊎ (y ≡ x)
in_next xs i x y lt is c = last_cases (take i xs) x y (subst (λ l. Contains l y) (one_more xs i x lt is) c)

pub in_front : {X : Type 0} (xs : List X) (i : ℕ) (x y : X) → i < length xs → x ≡ get_or xs i x → Contains (take i xs) y → Contains xs y
in_front xs i x y lt is c = subst (λ l. Contains l y) (sym (around xs i x lt is)) (Contains-append_left (take i xs) (x ∷ drop (suc i) xs) y c)

pub in_this : {X : Type 0} (xs : List X) (i : ℕ) (x : X) → i < length xs → x ≡ get_or xs i x → Contains xs x
in_this xs i x lt is = subst (λ l. Contains l x) (sym (around xs i x lt is)) (contains_seam (take i xs) x (drop (suc i) xs))

pub in_all : {X : Type 0} (xs : List X) (i : ℕ) (y : X) → length xs ≤ i → Contains xs y → Contains (take i xs) y
in_all xs i y le c = subst (λ l. Contains l y) (sym (take_all i xs le)) c
