-- What a loop over cases has gathered.
use Rattle.std.proofs.Common.{◌≡◌, ℕ, ◌+◌, ◌<◌, ◌≤◌, List, [], ◌∷◌, ◌++◌, length, get_or, take, map, filter_map, option_map, option_to_list, refl, sym, ap, ◌∙◌}
use Rattle.std.specs.List.{cons_option}
use Rattle.std.specs.declared.option.Option.{Option}
use Rattle.std.specs.declared.option.Option.TheVariants.{None, Some}
use Rattle.std.proofs.lemmas.List.{map-append, take_all}
use Rattle.std.proofs.lemmas.List.Elements.{filter_map-append}
use Rattle.list_laws.proofs.Lists.{one_more}

one_option : {Y Z : Type 0} (g : Z → Y) (o : Option Z) → map g (option_to_list o) ≡ cons_option (option_map g o) []
one_option g None = refl
one_option g (Some x) = refl

module _ {A X Y Z : Type 0} (f : X → Option Y) (seen : A → X) (g : Z → Y) (xs : List A) (i : ℕ) where
  pub gathered_more : (x : A) (old new : List Z) (o : Option Z) → i < length xs → x ≡ get_or xs i x → map g old ≡ filter_map f (map seen (take i xs)) → option_map g o ≡ f (seen x) → new ≡ old ++ option_to_list o
      → map g new ≡ filter_map f (map seen (take (i + 1) xs))
  gathered_more x old new o lt is was told put =
      let front = map seen (take i xs) in
      ap (map g) put ∙ map-append g old (option_to_list o) ∙ (λ j. was j ++ one_option g o j) ∙ ap (λ p. filter_map f front ++ cons_option p []) told
      ∙ sym (filter_map-append f front (seen x ∷ []))
      ∙ ap (filter_map f) (sym (map-append seen (take i xs) (x ∷ []))) ∙ ap (λ l. filter_map f (map seen l)) (sym (one_more xs i x lt is))

  pub gathered_all : (found : List Z) → length xs ≤ i → map g found ≡ filter_map f (map seen (take i xs)) → map g found ≡ filter_map f (map seen xs)
  gathered_all found le is = is ∙ ap (λ l. filter_map f (map seen l)) (take_all i xs le)

pub map_itself : {X : Type 0} (xs : List X) → map (λ x. x) xs ≡ xs
map_itself [] = refl
map_itself (x ∷ xs) = ap (λ l. x ∷ l) (map_itself xs)

pub option_itself : {X : Type 0} (o : Option X) → option_map (λ x. x) o ≡ o
option_itself None = refl
option_itself (Some x) = refl

-- the same of items as they are
pub gathered_next : {X Y Z : Type 0} (f : X → Option Y) (g : Z → Y) (xs : List X) (i : ℕ) (x : X) (old new : List Z) (o : Option Z) → i < length xs → x ≡ get_or xs i x → map g old ≡ filter_map f (take i xs) → option_map g o ≡ f x → new ≡ old ++ option_to_list o
    → map g new ≡ filter_map f (take (i + 1) xs)
gathered_next f g xs i x old new o lt is was told put =
    gathered_more f (λ y. y) g xs i x old new o lt is (was ∙ ap (filter_map f) (sym (map_itself (take i xs)))) told put ∙ ap (filter_map f) (map_itself (take (i + 1) xs))

pub gathered_whole : {X Y Z : Type 0} (f : X → Option Y) (g : Z → Y) (xs : List X) (i : ℕ) (found : List Z) → length xs ≤ i → map g found ≡ filter_map f (take i xs) → map g found ≡ filter_map f xs
gathered_whole f g xs i found le is = is ∙ ap (filter_map f) (take_all i xs le)

-- lists from what was made of the items
pub gathered_of : {X Y Z : Type 0} (f : Y → Option Z) (g : X → Y) (h : X → Option Z) → ((x : X) → f (g x) ≡ h x) → (xs : List X) → filter_map f (map g xs) ≡ filter_map h xs
gathered_of f g h same [] = refl
gathered_of f g h same (x ∷ xs) = λ i. cons_option (same x i) (gathered_of f g h same xs i)
