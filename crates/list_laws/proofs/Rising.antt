-- Lists that rise by a relation.
use Rattle.std.proofs.Common.{◌≡◌, List, [], ◌∷◌, ◌++◌, refl, sym, subst, ◌∙◌, inl, inr}
use Rattle.std.specs.List.{AllByRecursion, Contains}
use Rattle.list_laws.proofs.Alls.{all_item, all_more}
use Rattle.list_laws.proofs.Containing.{contains_here, contains_there, contains_cases, contains_none}

-- each item stands in the relation to all behind it
abbrev pub Rising : {A : Type 0} → (A → A → Type 0) → List A → Type 0
Rising lt [] = Unit {0}
Rising lt (x ∷ xs) = AllByRecursion (lt x) xs × Rising lt xs

pub rising_more : {A : Type 0} (lt : A → A → Type 0) (xs : List A) (x : A) → Rising lt xs → AllByRecursion (λ y. lt y x) xs → Rising lt (xs ++ x ∷ [])
rising_more lt [] x r a = (tt, tt)
rising_more lt (y ∷ ys) x r a = (all_more (lt y) ys x r.0 a.0, rising_more lt ys x r.1 a.1)

module _ {A : Type 0} (lt : A → A → Type 0) (never : (x : A) → lt x x → ⊥) (trans : (x y z : A) → lt x y → lt y z → lt x z) where
  head_same : (x y : A) (xs ys : List A) → Rising lt (x ∷ xs) → Rising lt (y ∷ ys) → Contains (y ∷ ys) x → Contains (x ∷ xs) y → x ≡ y
  head_same x y xs ys rx ry c d = elim (contains_cases y x ys c) [
    | inl is ↦ is
    | inr later ↦ elim (contains_cases x y xs d) [
      | inl is ↦ sym is
      | inr too ↦ absurd (never x (trans x y x (all_item (lt x) xs y rx.0 too) (all_item (lt y) ys x ry.0 later)))
    ]
  ]

  in_tail : (x y v : A) (xs ys : List A) → x ≡ y → AllByRecursion (lt x) xs → Contains xs v → Contains (y ∷ ys) v → Contains ys v
  in_tail x y v xs ys e above h c = elim (contains_cases y v ys c) [
    | inl is ↦ absurd (never v (subst (λ z. lt z v) (e ∙ sym is) (all_item (lt x) xs v above h)))
    | inr there ↦ there
  ]

  -- two rising lists with the same items are one
  pub rising_same : (xs ys : List A) → Rising lt xs → Rising lt ys → ((v : A) → Contains xs v → Contains ys v) → ((v : A) → Contains ys v → Contains xs v) → xs ≡ ys
  rising_same [] [] rx ry f g = refl
  rising_same [] (y ∷ ys) rx ry f g = absurd (contains_none y (g y (contains_here y ys)))
  rising_same (x ∷ xs) [] rx ry f g = absurd (contains_none x (f x (contains_here x xs)))
  rising_same (x ∷ xs) (y ∷ ys) rx ry f g =
      let e = head_same x y xs ys rx ry (f x (contains_here x xs)) (g y (contains_here y ys)) in
      let tails = rising_same xs ys rx.1 ry.1
      (λ v h. in_tail x y v xs ys e rx.0 h (f v (contains_there x v xs h)))
      (λ v h. in_tail y x v ys xs (sym e) ry.0 h (g v (contains_there y v ys h))) in
      λ i. e i ∷ tails i
