-- What a loop has picked, as it is.
use Rattle.std.proofs.Common.{◌≡◌, ℕ, ◌+◌, ◌<◌, ◌≤◌, List, ◌++◌, length, get_or, take, map, filter_map, option_to_list, append_assoc, refl, sym, ap, ◌∙◌}
use Rattle.std.specs.declared.option.Option.{Option}
use Rattle.std.proofs.lemmas.List.{take_all}
use Rattle.plan_lists.proofs.Gathered.{gathered_more, gathered_next, map_itself, option_itself}

pub picked_next : {X Y : Type 0} (f : X → Option Y) (xs : List X) (i : ℕ) (x : X) (old new : List Y) (o : Option Y) → i < length xs → x ≡ get_or xs i x → old ≡ filter_map f (take i xs) → o ≡ f x → new ≡ old ++ option_to_list o → new ≡ filter_map f (take (i + 1) xs)
picked_next f xs i x old new o lt is was told put = sym (map_itself new) ∙ gathered_next f (λ y. y) xs i x old new o lt is (map_itself old ∙ was) (option_itself o ∙ told) put

pub picked_whole : {X Y : Type 0} (f : X → Option Y) (xs : List X) (i : ℕ) (found : List Y) → length xs ≤ i → found ≡ filter_map f (take i xs) → found ≡ filter_map f xs
picked_whole f xs i found le is = is ∙ ap (filter_map f) (take_all i xs le)

pub picked_more : {A X Y : Type 0} (f : X → Option Y) (seen : A → X) (xs : List A) (i : ℕ) (x : A) (old new : List Y) (o : Option Y) → i < length xs → x ≡ get_or xs i x → old ≡ filter_map f (map seen (take i xs)) → o ≡ f (seen x) → new ≡ old ++ option_to_list o
    → new ≡ filter_map f (map seen (take (i + 1) xs))
picked_more f seen xs i x old new o lt is was told put = sym (map_itself new) ∙ gathered_more f seen (λ y. y) xs i x old new o lt is (map_itself old ∙ was) (option_itself o ∙ told) put

pub picked_all : {A X Y : Type 0} (f : X → Option Y) (seen : A → X) (xs : List A) (i : ℕ) (found : List Y) → length xs ≤ i → found ≡ filter_map f (map seen (take i xs)) → found ≡ filter_map f (map seen xs)
picked_all f seen xs i found le is = is ∙ ap (λ l. filter_map f (map seen l)) (take_all i xs le)

pub picked_behind : {X Y : Type 0} (f : X → Option Y) (xs : List X) (i : ℕ) (x : X) (front old new : List Y) (o : Option Y) → i < length xs → x ≡ get_or xs i x → old ≡ front ++ filter_map f (take i xs) → o ≡ f x → new ≡ old ++ option_to_list o
    → new ≡ front ++ filter_map f (take (i + 1) xs)
picked_behind f xs i x front old new o lt is was told put =
    put ∙ ap (λ l. l ++ option_to_list o) was ∙ append_assoc front (filter_map f (take i xs)) (option_to_list o)
    ∙ ap (λ l. front ++ l) (picked_next f xs i x (filter_map f (take i xs)) (filter_map f (take i xs) ++ option_to_list o) o lt is refl told refl)
