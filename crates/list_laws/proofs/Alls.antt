-- What holds of all items of a list.
use Rattle.std.proofs.Common.{◌≡◌, ℕ, zero, suc, ◌+◌, ◌<◌, Bool, true, false, cond, List, [], ◌∷◌, ◌++◌, map, reverse, filter, length, get_or, slice_get, take, drop, Some, IsPermutation, refl, sym, subst, arith}
use Rattle.std.specs.List.{AllByRecursion, Contains, list_any, list_all}
use Rattle.std.proofs.lemmas.Grind.{reverse_onto}
use Rattle.std.proofs.lemmas.Bool.{or_parts, and_parts, and_from, or_from}
use Rattle.std.proofs.lemmas.List.Elements.{All-from_recursion, All-contains}
use Rattle.std.proofs.lemmas.List.Sorted.{Contains-permutation, IsPermutation-sym}
use Rattle.list_laws.proofs.Containing.{contains_here, contains_there}
use Rattle.list_laws.proofs.Lists.{one_more, get_or-any}

pub all_append : {X : Type 0} (P : X → Type 0) (xs ys : List X) → AllByRecursion P xs → AllByRecursion P ys → AllByRecursion P (xs ++ ys)
all_append P [] ys a b = b
all_append P (x ∷ xs) ys a b = (a.0, all_append P xs ys a.1 b)

pub all_left : {X : Type 0} (P : X → Type 0) (xs ys : List X) → AllByRecursion P (xs ++ ys) → AllByRecursion P xs
all_left P [] ys a = tt
all_left P (x ∷ xs) ys a = (a.0, all_left P xs ys a.1)

pub all_right : {X : Type 0} (P : X → Type 0) (xs ys : List X) → AllByRecursion P (xs ++ ys) → AllByRecursion P ys
all_right P [] ys a = a
all_right P (x ∷ xs) ys a = all_right P xs ys a.1

pub all_middle : {X : Type 0} (P : X → Type 0) (xs : List X) (x : X) (ys : List X) → AllByRecursion P (xs ++ x ∷ ys) → P x
all_middle P xs x ys a = (all_right P xs (x ∷ ys) a).0

pub all_last : {X : Type 0} (P : X → Type 0) (xs : List X) (x : X) → AllByRecursion P (xs ++ x ∷ []) → P x
all_last P xs x a = all_middle P xs x [] a

-- one item more at the end
pub all_more : {X : Type 0} (P : X → Type 0) (xs : List X) (x : X) → AllByRecursion P xs → P x → AllByRecursion P (xs ++ x ∷ [])
all_more P xs x a p = all_append P xs (x ∷ []) a (p, tt)

-- From one claim to another

pub all_both : {X : Type 0} (P Q R : X → Type 0) (xs : List X) → ((x : X) → P x → Q x → R x) → AllByRecursion P xs → AllByRecursion Q xs → AllByRecursion R xs
all_both P Q R [] to a b = tt
all_both P Q R (x ∷ xs) to a b = (to x a.0 b.0, all_both P Q R xs to a.1 b.1)

pub all_weaken : {X : Type 0} (P Q : X → Type 0) (xs : List X) → ((x : X) → P x → Q x) → AllByRecursion P xs → AllByRecursion Q xs
all_weaken P Q xs to a = all_both P P Q xs (λ x p _. to x p) a a

pub all_every : {X : Type 0} (P : X → Type 0) (xs : List X) → ((x : X) → P x) → AllByRecursion P xs
all_every P [] h = tt
all_every P (x ∷ xs) h = (h x, all_every P xs h)

-- Single items

pub all_at : {X : Type 0} (P : X → Type 0) (xs : List X) (i : ℕ) (d : X) → i < length xs → AllByRecursion P xs → P (get_or xs i d)
all_at P [] i d lt a = absurd (omega arith)
all_at P (x ∷ xs) zero d lt a = a.0
all_at P (x ∷ xs) (suc i) d lt a = all_at P xs i d (omega arith) a.1

-- of an item that the list contains
pub all_item : {X : Type 0} (P : X → Type 0) (xs : List X) (x : X) → AllByRecursion P xs → Contains xs x → P x
all_item P xs x a c = All-contains P xs x (All-from_recursion P xs a) c

-- what holds of each item that a list contains holds of all
pub all_from_contains : {X : Type 0} (P : X → Type 0) (xs : List X) → ((x : X) → Contains xs x → P x) → AllByRecursion P xs
all_from_contains P [] h = tt
all_from_contains P (x ∷ xs) h = (h x (contains_here x xs), all_from_contains P xs (λ y c. h y (contains_there x y xs c)))

pub all_from_index : {X : Type 0} (P : X → Type 0) (xs : List X) → ((i : ℕ) (x : X) → slice_get xs i ≡ Some x → P x) → AllByRecursion P xs
all_from_index P [] h = tt
all_from_index P (x ∷ xs) h = (h zero x refl, all_from_index P xs (λ i y at. h (suc i) y at))

-- of some of the items
pub all_among : {X : Type 0} (P : X → Type 0) (xs ys : List X) → ((x : X) → Contains ys x → Contains xs x) → AllByRecursion P xs → AllByRecursion P ys
all_among P xs ys among a = all_from_contains P ys (λ x c. all_item P xs x a (among x c))

pub all_permutation : {X : Type 0} (P : X → Type 0) (xs ys : List X) → IsPermutation xs ys → AllByRecursion P xs → AllByRecursion P ys
all_permutation P xs ys moved a = all_among P xs ys (λ x c. Contains-permutation ys xs x (IsPermutation-sym xs ys moved) c) a

-- Lists made of others

pub all_map : {X Y : Type 0} (P : Y → Type 0) (f : X → Y) (xs : List X) → AllByRecursion (λ x. P (f x)) xs → AllByRecursion P (map f xs)
all_map P f [] a = tt
all_map P f (x ∷ xs) a = (a.0, all_map P f xs a.1)

pub all_unmap : {X Y : Type 0} (P : Y → Type 0) (f : X → Y) (xs : List X) → AllByRecursion P (map f xs) → AllByRecursion (λ x. P (f x)) xs
all_unmap P f [] a = tt
all_unmap P f (x ∷ xs) a = (a.0, all_unmap P f xs a.1)

pub all_reverse : {X : Type 0} (P : X → Type 0) (xs : List X) → AllByRecursion P xs → AllByRecursion P (reverse xs)
all_reverse P [] a = tt
all_reverse P (x ∷ xs) a = subst (AllByRecursion P) (sym (reverse_onto xs x [])) (all_more P (reverse xs) x (all_reverse P xs a.1) a.0)

-- what each item that passes has
pub all_passing : {X : Type 0} (P : X → Type 0) (p : X → Bool) (xs : List X) → ((x : X) → Contains xs x → p x ≡ true → P x) → AllByRecursion P (filter p xs)
all_passing P p [] h = tt
all_passing P p (y ∷ ys) h = here (p y) refl (all_passing P p ys (λ x c e. h x (contains_there y x ys c) e))
  where
    here : (b : Bool) → p y ≡ b → AllByRecursion P (filter p ys) → AllByRecursion P (cond b (y ∷ filter p ys) (filter p ys))
    here true e rest = (h y (contains_here y ys) e, rest)
    here false e rest = rest

pub all_filter : {X : Type 0} (P : X → Type 0) (p : X → Bool) (xs : List X) → AllByRecursion P xs → AllByRecursion P (filter p xs)
all_filter P p xs a = all_passing P p xs (λ x c _. all_item P xs x a c)

-- Tests of all items

pub all-from_none : {X : Type 0} (p : X → Bool) (xs : List X) → list_any p xs ≡ false → AllByRecursion (λ x. p x ≡ false) xs
all-from_none p [] h = tt
all-from_none p (x ∷ xs) h = let parts = or_parts (p x) (list_any p xs) h in (parts.0, all-from_none p xs parts.1)

pub none-from_all : {X : Type 0} (p : X → Bool) (xs : List X) → AllByRecursion (λ x. p x ≡ false) xs → list_any p xs ≡ false
none-from_all p [] a = refl
none-from_all p (x ∷ xs) a = or_from (p x) (list_any p xs) a.0 (none-from_all p xs a.1)

pub all-from_test : {X : Type 0} (p : X → Bool) (xs : List X) → list_all p xs ≡ true → AllByRecursion (λ x. p x ≡ true) xs
all-from_test p [] h = tt
all-from_test p (x ∷ xs) h = let parts = and_parts (p x) (list_all p xs) h in (parts.0, all-from_test p xs parts.1)

pub test-from_all : {X : Type 0} (p : X → Bool) (xs : List X) → AllByRecursion (λ x. p x ≡ true) xs → list_all p xs ≡ true
test-from_all p [] a = refl
test-from_all p (x ∷ xs) a = and_from (p x) (list_all p xs) a.0 (test-from_all p xs a.1)

-- Where a loop over a list stands

-- what holds of the items so far and of this one holds of one more
pub all_one_more : {X : Type 0} (P : X → Type 0) (xs : List X) (i : ℕ) (x : X) → i < length xs → x ≡ get_or xs i x → AllByRecursion P (take i xs) → P x → AllByRecursion P (take (i + 1) xs)
all_one_more P xs i x lt is a p = subst (λ l. AllByRecursion P l) (sym (one_more xs i x lt is)) (all_more P (take i xs) x a p)

pub all_next : {X : Type 0} (P : X → Type 0) (xs : List X) (i : ℕ) (d : X) → i < length xs → AllByRecursion P (take i xs) → P (get_or xs i d) → AllByRecursion P (take (i + 1) xs)
all_next P xs i d lt a p = all_one_more P xs i (get_or xs i d) lt (get_or-any xs i d (get_or xs i d) lt) a p

-- of the loop's item
pub all_this : {X : Type 0} (P : X → Type 0) (xs : List X) (i : ℕ) (x : X) → i < length xs → x ≡ get_or xs i x → AllByRecursion P xs → P x
all_this P xs i x lt is a = subst P (sym is) (all_at P xs i x lt a)

-- of the items so far
pub all_take : {X : Type 0} (P : X → Type 0) (n : ℕ) (xs : List X) → AllByRecursion P xs → AllByRecursion P (take n xs)
all_take P zero xs a = tt
all_take P (suc n) [] a = tt
all_take P (suc n) (x ∷ xs) a = (a.0, all_take P n xs a.1)

pub all_drop : {X : Type 0} (P : X → Type 0) (n : ℕ) (xs : List X) → AllByRecursion P xs → AllByRecursion P (drop n xs)
all_drop P zero xs a = a
all_drop P (suc n) [] a = tt
all_drop P (suc n) (x ∷ xs) a = all_drop P n xs a.1
