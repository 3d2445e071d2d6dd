-- One step of the walk as the program takes it.
use Rattle.std.proofs.Common.{◌≡◌, ◌⊎◌, ℕ, ◌+◌, ◌-◌, ◌<◌, ◌≤◌, List, [], ◌∷◌, ◌++◌, map, length, get_or, take, drop, refl, sym, ap, ◌∙◌, inl, inr, append_assoc}
use Rattle.std.specs.Ordering.{nat_cmp}
use Rattle.std.specs.Cmp.Lexicographic.{slice_cmp}
use Rattle.std.specs.declared.cmp.Ordering.TheVariants.{Less, Equal, Greater}
use Rattle.std.proofs.lemmas.List.{drop_more, drop_all, append-nil, take_rest}
use Rattle.manifest_json.specs.declared.manifest.Row.{Row}
use Rattle.desk_model.specs.Deployed.{Win}
use Rattle.deploy_plan.specs.declared.steps.WalkStep.{WalkStep}
use Rattle.deploy_plan.specs.declared.wins.Won.{Won}
use Rattle.deploy_plan.specs.Walk.{Step, row_alone, both, win_alone, by_order, with_row, merged}
use Rattle.deploy_plan.specs.Told.{step_seen, win_seen}

map_snoc : {A B : Type 0} (f : A → B) (xs : List A) (x : A) → map f (xs ++ x ∷ []) ≡ map f xs ++ f x ∷ []
map_snoc f [] x = refl
map_snoc f (y ∷ ys) x = ap (λ l. f y ∷ l) (map_snoc f ys x)

-- one step more, before what is left
pub pushed : (found new : List WalkStep) (s : WalkStep) (left rest whole : List Step) → new ≡ found ++ s ∷ [] → map step_seen found ++ left ≡ whole → left ≡ step_seen s ∷ rest → map step_seen new ++ rest ≡ whole
pushed found new s left rest whole made was is =
    ap (λ l. map step_seen l ++ rest) made
    ∙ ap (λ l. l ++ rest) (map_snoc step_seen found s)
    ∙ append_assoc (map step_seen found) (step_seen s ∷ []) rest
    ∙ ap (λ l. map step_seen found ++ l) (sym is)
    ∙ was

item : {A : Type 0} (xs : List A) (k : ℕ) (x : A) → k < length xs → x ≡ get_or xs k x → drop k xs ≡ x ∷ drop (k + 1) xs
item xs k x lt is = drop_more xs k x lt ∙ ap (λ y. y ∷ drop (k + 1) xs) (sym is)

module _ (rows : List Row) (wins : List Won) (k m : ℕ) (r : Row) (w : Won) (row_is : r ≡ get_or rows k r) (win_is : w ≡ get_or wins m w) (row_in : k < length rows) (win_in : m < length wins) where
  opened : merged (drop k rows) (map win_seen (drop m wins)) ≡ merged (r ∷ drop (k + 1) rows) (win_seen w ∷ map win_seen (drop (m + 1) wins))
  opened = λ i. merged (item rows k r row_in row_is i) (map win_seen (item wins m w win_in win_is i))

  back : win_seen w ∷ map win_seen (drop (m + 1) wins) ≡ map win_seen (drop m wins)
  back = sym (ap (map win_seen) (item wins m w win_in win_is))

  pub row_first : slice_cmp nat_cmp r.path w.path.now ≡ Less → merged (drop k rows) (map win_seen (drop m wins)) ≡ row_alone r ∷ merged (drop (k + 1) rows) (map win_seen (drop m wins))
  unfolding merged
  row_first e =
      opened
      ∙ ap (λ o. by_order o (row_alone r ∷ merged (drop (k + 1) rows) (win_seen w ∷ map win_seen (drop (m + 1) wins))) (both r (win_seen w) ∷ merged (drop (k + 1) rows) (map win_seen (drop (m + 1) wins))) (win_alone (win_seen w) ∷ with_row r (merged (drop (k + 1) rows)) (map win_seen (drop (m + 1) wins)))) e
      ∙ ap (λ l. row_alone r ∷ merged (drop (k + 1) rows) l) back

  pub both_first : slice_cmp nat_cmp r.path w.path.now ≡ Equal → merged (drop k rows) (map win_seen (drop m wins)) ≡ both r (win_seen w) ∷ merged (drop (k + 1) rows) (map win_seen (drop (m + 1) wins))
  unfolding merged
  both_first e =
      opened
      ∙ ap (λ o. by_order o (row_alone r ∷ merged (drop (k + 1) rows) (win_seen w ∷ map win_seen (drop (m + 1) wins))) (both r (win_seen w) ∷ merged (drop (k + 1) rows) (map win_seen (drop (m + 1) wins))) (win_alone (win_seen w) ∷ with_row r (merged (drop (k + 1) rows)) (map win_seen (drop (m + 1) wins)))) e

  pub win_first : slice_cmp nat_cmp r.path w.path.now ≡ Greater → merged (drop k rows) (map win_seen (drop m wins)) ≡ win_alone (win_seen w) ∷ merged (drop k rows) (map win_seen (drop (m + 1) wins))
  unfolding merged
  win_first e =
      opened
      ∙ ap (λ o. by_order o (row_alone r ∷ merged (drop (k + 1) rows) (win_seen w ∷ map win_seen (drop (m + 1) wins))) (both r (win_seen w) ∷ merged (drop (k + 1) rows) (map win_seen (drop (m + 1) wins))) (win_alone (win_seen w) ∷ with_row r (merged (drop (k + 1) rows)) (map win_seen (drop (m + 1) wins)))) e
      ∙ ap (λ l. win_alone (win_seen w) ∷ merged l (map win_seen (drop (m + 1) wins))) (sym (item rows k r row_in row_is))

-- where one of the two lists is at its end
rows_left : (rows : List Row) → merged rows [] ≡ map row_alone rows
unfolding merged
rows_left [] = refl
rows_left (r ∷ rows) = ap (λ l. row_alone r ∷ l) (rows_left rows)

wins_left : (wins : List Win) → merged [] wins ≡ map win_alone wins
unfolding merged
wins_left wins = refl

pub at_end : (rows : List Row) (wins : List Won) (k m : ℕ) (front whole : List Step) → (length rows ≤ k) ⊎ (length wins ≤ m) → front ++ merged (drop k rows) (map win_seen (drop m wins)) ≡ whole
    → front ++ (map row_alone (take (length rows - k) (drop k rows)) ++ map win_alone (map win_seen (drop m wins))) ≡ whole
at_end rows wins k m front whole over was = ap (λ l. front ++ l) (ap (λ l. map row_alone l ++ map win_alone (map win_seen (drop m wins))) (take_rest rows k) ∙ by_end over) ∙ was
  where
    by_end : (length rows ≤ k) ⊎ (length wins ≤ m) → map row_alone (drop k rows) ++ map win_alone (map win_seen (drop m wins)) ≡ merged (drop k rows) (map win_seen (drop m wins))
    by_end (inl le) =
        ap (λ l. map row_alone l ++ map win_alone (map win_seen (drop m wins))) (drop_all k rows le)
        ∙ sym (wins_left (map win_seen (drop m wins))) ∙ sym (ap (λ l. merged l (map win_seen (drop m wins))) (drop_all k rows le))
    by_end (inr le) =
        ap (λ l. map row_alone (drop k rows) ++ map win_alone (map win_seen l)) (drop_all m wins le)
        ∙ append-nil (map row_alone (drop k rows)) ∙ sym (rows_left (drop k rows)) ∙ sym (ap (λ l. merged (drop k rows) (map win_seen l)) (drop_all m wins le))
