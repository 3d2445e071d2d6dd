-- Lists taken apart and put together.
use Rattle.std.proofs.Common.{◌≡◌, ◌≢◌, ◌⊎◌, ℕ, zero, suc, ◌+◌, ◌-◌, ◌<◌, ◌≤◌, ◌==◌, true, List, [], ◌∷◌, ◌++◌, map, reverse, length, get_or, slice_get, take, drop, option_to_list, Option, Some, None, length-append, append_assoc, append-nil, take-suc, take-add, take_all, refl, sym, ap, ◌∙◌, inl, inr, arith}
use Rattle.std.proofs.Math.Seq.{split_at}
use Rattle.std.proofs.lemmas.Grind.{take_at_read}
use Rattle.std.proofs.lemmas.List.{reverse-append, map-append, length-map, length_push, nil_from_length, drop_more, drop_all, get_or_default, drop-drop, take-append-drop, length-drop}
use Rattle.std.proofs.lemmas.Bool.Decides.{nat_tests}

-- Empty or not

pub empty_or_not : {X : Type 0} (xs : List X) → (xs ≡ []) ⊎ (xs ≢ [])
empty_or_not [] = inl refl
empty_or_not (x ∷ xs) = inr (λ e. let same : suc (length xs) ≡ zero = ap length e in let never : ⊥ = omega arith in never)

pub empty-from_test : {X : Type 0} (xs : List X) → (length xs == 0) ≡ true → xs ≡ []
empty-from_test [] e = refl
empty-from_test (x ∷ xs) e = let never : ⊥ = grind (arith, nat_tests) in absurd never

pub not_empty : {X : Type 0} (xs : List X) (x : X) (ys : List X) → xs ++ x ∷ ys ≢ []
not_empty xs x ys e = let size : length (xs ++ x ∷ ys) ≡ zero = ap length e in let sum = length-append xs (x ∷ ys) in let never : ⊥ = omega arith in never

pub drop_some : {X : Type 0} (n : ℕ) (xs : List X) → n < length xs → drop n xs ≢ []
drop_some zero (x ∷ xs) lt e = let never : ⊥ = cc in never
drop_some zero [] lt e = absurd (omega arith)
drop_some (suc n) [] lt e = absurd (omega arith)
drop_some (suc n) (x ∷ xs) lt e = drop_some n xs (omega arith) e

pub longer : {X : Type 0} (xs : List X) (x : X) → xs ++ x ∷ [] ≢ xs
longer xs x e = omega (arith, ap length e, length-append xs (x ∷ []))

-- what a list that isn't empty ends with
pub last_of : {X : Type 0} (xs : List X) → (length xs ≡ 0 → ⊥) → (ys : List X) × (x : X) × (xs ≡ ys ++ x ∷ [])
last_of [] some = absurd (some refl)
last_of (x ∷ []) some = ([], x, refl)
last_of (x ∷ y ∷ xs) some = let rest = last_of (y ∷ xs) (λ e. omega arith) in (x ∷ rest.0, rest.1, ap (λ l. x ∷ l) rest.2)

-- Items by index

-- an item is the same whatever stands for what is no item
pub get_or-any : {X : Type 0} (xs : List X) (i : ℕ) (d e : X) → i < length xs → get_or xs i d ≡ get_or xs i e
get_or-any xs i d e lt = get_or_default xs i d e lt

pub same_item : {X : Type 0} (xs : List X) (i : ℕ) (x d : X) → i < length xs → x ≡ get_or xs i x → x ≡ get_or xs i d
same_item xs i x d lt is = is ∙ get_or-any xs i x d lt

pub get_map : {X Y : Type 0} (f : X → Y) (xs : List X) (i : ℕ) (d : X) → get_or (map f xs) i (f d) ≡ f (get_or xs i d)
get_map f [] i d = refl
get_map f (x ∷ xs) zero d = refl
get_map f (x ∷ xs) (suc i) d = get_map f xs i d

-- what stands behind the items of a list
pub at_seam-item : {X : Type 0} (xs : List X) (x d : X) (ys : List X) → get_or (xs ++ x ∷ ys) (length xs) d ≡ x
at_seam-item [] x d ys = refl
at_seam-item (y ∷ xs) x d ys = at_seam-item xs x d ys

pub take-seam : {X : Type 0} (xs ys : List X) → take (length xs) (xs ++ ys) ≡ xs
take-seam [] ys = refl
take-seam (x ∷ xs) ys = ap (λ l. x ∷ l) (take-seam xs ys)

pub drop-seam : {X : Type 0} (xs ys : List X) → drop (length xs) (xs ++ ys) ≡ ys
drop-seam [] ys = refl
drop-seam (x ∷ xs) ys = drop-seam xs ys

-- Where a loop over a list stands

-- what it has done, its item, and the rest
pub around : {X : Type 0} (xs : List X) (i : ℕ) (x : X) → i < length xs → x ≡ get_or xs i x → xs ≡ take i xs ++ x ∷ drop (suc i) xs
around xs i x lt is = split_at xs i x lt ∙ ap (λ y. take i xs ++ y ∷ drop (suc i) xs) (sym is)

pub one_more : {X : Type 0} (xs : List X) (i : ℕ) (x : X) → i < length xs → x ≡ get_or xs i x → take (i + 1) xs ≡ take i xs ++ x ∷ []
one_more xs i x lt is = (take_at_read xs i x lt).1 ∙ ap (λ y. take i xs ++ y ∷ []) (sym is)

-- its item is the first of the rest
pub rest_from : {X : Type 0} (xs : List X) (i : ℕ) (x : X) → i < length xs → x ≡ get_or xs i x → drop i xs ≡ x ∷ drop (i + 1) xs
rest_from xs i x lt is = drop_more xs i x lt ∙ ap (λ y. y ∷ drop (i + 1) xs) (sym is)

pub map_rest_from : {X Y : Type 0} (f : X → Y) (xs : List X) (i : ℕ) (x : X) → i < length xs → x ≡ get_or xs i x → drop i (map f xs) ≡ f x ∷ drop (i + 1) (map f xs)
map_rest_from f xs i x lt is =
    let size : length (map f xs) ≡ length xs = length-map xs f in
    rest_from (map f xs) i (f x) (omega arith) (ap f is ∙ sym (get_map f xs i x))

pub map_rest_none : {X Y : Type 0} (f : X → Y) (xs : List X) (i : ℕ) → length xs ≤ i → drop i (map f xs) ≡ []
map_rest_none f xs i le = let size : length (map f xs) ≡ length xs = length-map xs f in drop_all i (map f xs) (omega arith)

-- What is done and what is left together are all

pub taken_more : {X : Type 0} (done : List X) (x : X) (rest before all : List X) → before ≡ x ∷ rest → done ++ before ≡ all → (done ++ x ∷ []) ++ rest ≡ all
taken_more done x rest before all step h = append_assoc done (x ∷ []) rest ∙ ap (λ l. done ++ l) (sym step) ∙ h

pub taken_all : {X : Type 0} (done rest all : List X) → rest ≡ [] → done ++ rest ≡ all → done ≡ all
taken_all done rest all none h = sym (append-nil done) ∙ ap (λ l. done ++ l) (sym none) ∙ h

pub taken_all_by_length : {X : Type 0} (done rest all : List X) (n : ℕ) → n ≡ length rest → n ≡ 0 → done ++ rest ≡ all → done ≡ all
taken_all_by_length done rest all n len none h = taken_all done rest all (nil_from_length rest (sym len ∙ none)) h

-- how many are left
pub length_after : {X : Type 0} (rest before : List X) (x : X) (m n : ℕ) → before ≡ x ∷ rest → m + 1 ≡ n → n ≡ length before → m ≡ length rest
length_after rest before x m n step less h = omega (arith, ap length step)

-- items that are mapped as they are taken
pub seen_more : {A X : Type 0} (f : A → X) (done : List A) (x : A) (rest before all : List X) → before ≡ f x ∷ rest → map f done ++ before ≡ all → map f (done ++ x ∷ []) ++ rest ≡ all
seen_more f done x rest before all step h = ap (λ l. l ++ rest) (map-append f done (x ∷ [])) ∙ taken_more (map f done) (f x) rest before all step h

-- the first of what is left goes to the end of what is out
pub one_out : {X : Type 0} (all out new rest left : List X) (x : X) → all ≡ out ++ rest → rest ≡ x ∷ left → new ≡ out ++ x ∷ [] → all ≡ new ++ left
one_out all out new rest left x was step put = was ∙ ap (λ l. out ++ l) step ∙ sym (append_assoc out (x ∷ []) left) ∙ ap (λ l. l ++ left) (sym put)

-- what is pushed and popped again
pub pushed_popped : {X : Type 0} (old pushed popped : List X) (x : X) (n : ℕ) → pushed ≡ old ++ x ∷ [] → n ≡ length pushed → popped ≡ take (n - 1) pushed → popped ≡ old
pushed_popped old pushed popped x n put count cut =
    let size : n - 1 ≡ length old = omega (arith, ap length put, length_push old x) in
    cut ∙ ap (λ l. take (n - 1) l) put ∙ ap (λ k. take k (old ++ x ∷ [])) size ∙ take-seam old (x ∷ [])

last_pushed : {X : Type 0} (xs : List X) (x : X) → slice_get (xs ++ x ∷ []) (length xs) ≡ Some x
last_pushed [] x = refl
last_pushed (y ∷ xs) x = last_pushed xs x

-- what is popped is what stood last
pub popped : {X : Type 0} (old new : List X) (o : Option X) (x : X) → slice_get old (length old - 1) ≡ Some x → old ≡ new ++ option_to_list o → 0 < length old → length new + length (option_to_list o) ≡ length old → 0 < length (option_to_list o) → old ≡ new ++ x ∷ []
popped old new None x h e some count one = absurd (omega arith)
popped old new (Some y) x h e some count one =
    let size : length old - 1 ≡ length new = omega (arith, ap length e, length_push new y) in
    let there : Some y ≡ Some x = sym (last_pushed new y) ∙ ap (λ l. slice_get l (length new)) (sym e) ∙ ap (slice_get old) (sym size) ∙ h in
    let same : y ≡ x = cc in
    e ∙ ap (λ z. new ++ z ∷ []) same

-- Lists backwards

pub reverse_cons : {X : Type 0} (x : X) (xs : List X) → reverse (x ∷ xs) ≡ reverse xs ++ x ∷ []
reverse_cons x xs = reverse-append (x ∷ []) xs

pub reverse_push : {X : Type 0} (xs : List X) (x : X) → reverse (xs ++ x ∷ []) ≡ x ∷ reverse xs
reverse_push xs x = reverse-append xs (x ∷ [])

pub map_reverse : {X Y : Type 0} (f : X → Y) (xs : List X) → map f (reverse xs) ≡ reverse (map f xs)
map_reverse f [] = refl
map_reverse f (x ∷ xs) = ap (map f) (reverse_cons x xs) ∙ map-append f (reverse xs) (x ∷ []) ∙ ap (λ l. l ++ f x ∷ []) (map_reverse f xs) ∙ sym (reverse_cons (f x) (map f xs))

pub cut_last : {X : Type 0} (xs : List X) (n : ℕ) (x : X) → length xs ≡ n + 1 → x ≡ get_or xs n x → xs ≡ take n xs ++ x ∷ []
cut_last xs n x long is =
    let e : length xs ≡ suc n = omega arith in
    let all : take (length xs) xs ≡ xs = take_all (length xs) xs (omega arith) in
    sym all ∙ ap (λ m. take m xs) e ∙ take-suc xs n x (omega arith) ∙ ap (λ y. take n xs ++ y ∷ []) (sym is)

-- the last item is the first backwards
pub reverse_read : {X : Type 0} (xs : List X) (n : ℕ) (x : X) → length xs ≡ n + 1 → x ≡ get_or xs n x → reverse xs ≡ x ∷ reverse (take n xs)
reverse_read xs n x long is = ap reverse (cut_last xs n x long is) ∙ reverse_push (take n xs) x

-- Pieces

pub piece_more : {X : Type 0} (done n : ℕ) (old mid new whole : List X) → mid ≡ old ++ take done whole → new ≡ mid ++ take n (take (length whole - done) (drop done whole)) → new ≡ old ++ take (done + n) whole
piece_more done n old mid new whole so_far step =
    let size : length (drop done whole) ≡ length whole - done = length-drop done whole in
    let all : take (length whole - done) (drop done whole) ≡ drop done whole = take_all (length whole - done) (drop done whole) (omega arith) in
    step ∙ ap (λ l. mid ++ take n l) all ∙ ap (λ l. l ++ take n (drop done whole)) so_far ∙ append_assoc old (take done whole) (take n (drop done whole)) ∙ ap (λ l. old ++ l) (sym (take-add done n whole))

pub piece_and_rest : {X : Type 0} (at n : ℕ) (whole left piece : List X) → drop at whole ≡ left → piece ≡ take n (take (length whole - at) (drop at whole)) → left ≡ piece ++ drop (at + n) whole
piece_and_rest at n whole left piece here is =
    let size : length (drop at whole) ≡ length whole - at = length-drop at whole in
    let all : take (length whole - at) (drop at whole) ≡ drop at whole = take_all (length whole - at) (drop at whole) (omega arith) in
    sym here ∙ sym (take-append-drop n (drop at whole)) ∙ ap (λ l. l ++ drop n (drop at whole)) (sym (is ∙ ap (take n) all)) ∙ ap (λ l. piece ++ l) (drop-drop n at whole)
