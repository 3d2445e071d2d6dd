-- The folders of the saves, of the sets and of the clears, and those to take off, are at most four times the folders concerned.
use Rattle.std.proofs.Common.{◌≡◌, ℕ, ◌+◌, ◌*◌, ◌≤◌, List, [], ◌∷◌, length, map, reverse, refl, ap, ◌∙◌, inl, inr, subst, arith}
use Rattle.std.specs.List.{AllByRecursion, Contains}
use Rattle.std.specs.List.Sorted.{IsStrictlySortedBy}
use Rattle.std.specs.Ordering.{on, nat_cmp}
use Rattle.std.specs.Cmp.Lexicographic.{slice_cmp, nat_list_cmp_total}
use Rattle.std.specs.declared.cmp.Ordering.TheVariants.{Less}
use Rattle.std.specs.declared.option.Option.{Option}
use Rattle.std.specs.declared.option.Option.TheVariants.{None, Some}
use Rattle.std.proofs.lemmas.List.{length-map, length-reverse}
use Rattle.list_laws.proofs.Alls.{all_right, all_map, all_weaken}
use Rattle.list_laws.proofs.Containing.{contains_map, map_contains, contains_reverse}
use Rattle.list_laws.proofs.Sorted.{sorted_reverse}
use Rattle.list_laws.proofs.Sums.{length_within}
use Rattle.tree_fs.specs.declared.place.Place.{Place}
use Rattle.tree_fs.specs.Spot.{Spot, spot_of}
use Rattle.tree_fs.specs.Texts.{place_text}
use Rattle.tree_fs.proofs.Spots.{same_place}
use Rattle.move_plan.specs.declared.plan.Plan.{Plan}
use Rattle.move_plan.specs.Entries.{folder, save, set, clear, off, Listed, listed}
use Rattle.move_plan.specs.Places.{Has}
use Rattle.move_plan.specs.Rules.{in_order, InOrder, PassesRules}
use Rattle.intent_journal.specs.declared.folders.SyncFolders.{SyncFolders}
use Rattle.intent_journal.specs.Ready.{HasFolders}
use Rattle.plan_run.specs.Concerned.{IsConcerned, AreConcerned}

abbrev Rises : List (List ℕ) → Type 0
Rises = IsStrictlySortedBy (slice_cmp nat_cmp)

-- places in order have texts in order
texts_rise : (places : List Place) → IsStrictlySortedBy (on place_text (slice_cmp nat_cmp)) places → Rises (map place_text places)
unfolding IsStrictlySortedBy
texts_rise [] s = tt
texts_rise (p ∷ ps) s = (all_map (λ t. slice_cmp nat_cmp (place_text p) t ≡ Less) place_text ps s.0, texts_rise ps s.1)

-- the texts of the folders to take off fall
abbrev AreInOrder : List Listed → Type 0
AreInOrder = AllByRecursion (λ (x : Listed). InOrder x.entry x.front)

all_below : (i : ℕ) (q : Place) (places : List Place) → AreInOrder (listed off i (Some q) places) → AllByRecursion (λ t. slice_cmp nat_cmp t (place_text q) ≡ Less) (map place_text places)
all_below i q [] h = tt
all_below i q (p ∷ ps) h = (
  h.0,
  all_weaken (λ t. slice_cmp nat_cmp t (place_text p) ≡ Less) (λ t. slice_cmp nat_cmp t (place_text q) ≡ Less) (map place_text ps)
      (λ t less. nat_list_cmp_total.trans t (place_text p) (place_text q) less h.0) (all_below (i + 1) p ps h.1),
)

texts_fall : (i : ℕ) (o : Option Place) (places : List Place) → AreInOrder (listed off i o places) → IsStrictlySortedBy (λ x y. slice_cmp nat_cmp y x) (map place_text places)
unfolding IsStrictlySortedBy
texts_fall i o [] h = tt
texts_fall i o (p ∷ ps) h = (all_below (i + 1) p ps h.1, texts_fall (i + 1) (Some p) ps h.1)

module _ (plan : Plan) (folders : List Place) (are : AreConcerned plan folders) where
  -- the text of a folder that is concerned is among theirs
  among : (places : List Place) → ((x : Spot) → Has places x → IsConcerned plan x) → (t : List ℕ) → Contains (map place_text places) t → Contains (map place_text folders) t
  among places concerned t c =
      let p = contains_map place_text places t c in
      let h = are.all (spot_of p.0) (concerned (spot_of p.0) (record { place = p.0; listed = p.1; here = refl })) in
      subst (Contains (map place_text folders)) (ap place_text (same_place h.place p.0 h.here) ∙ p.2) (map_contains place_text folders h.place h.listed)

  no_more : (texts : List (List ℕ)) → Rises texts → ((t : List ℕ) → Contains texts t → Contains (map place_text folders) t) → length texts ≤ length folders
  no_more texts rise within = subst (λ n. length texts ≤ n) (length-map folders place_text) (length_within nat_list_cmp_total texts (map place_text folders) rise (texts_rise folders are.rise) within)

  rising_within : (places : List Place) → IsStrictlySortedBy (on place_text (slice_cmp nat_cmp)) places → ((x : Spot) → Has places x → IsConcerned plan x) → length places ≤ length folders
  rising_within places rise concerned = subst (λ n. n ≤ length folders) (length-map places place_text) (no_more (map place_text places) (texts_rise places rise) (among places concerned))

  off_order : PassesRules plan → AreInOrder (listed off 0 None plan.folders_off)
  off_order passes =
      let Q = λ (y : Listed). InOrder y.entry y.front in
      let one = all_right Q (listed folder 0 None plan.folders) _ (passes in_order) in
      let two = all_right Q (listed save 0 None plan.saves) _ one in
      let three = all_right Q (listed set 0 None plan.sets) _ two in
      all_right Q (listed clear 0 None plan.clears) _ three

  off_within : PassesRules plan → length plan.folders_off ≤ length folders
  off_within passes =
      let texts = map place_text plan.folders_off in
      let bound = no_more (reverse texts) (sorted_reverse (slice_cmp nat_cmp) texts (texts_fall 0 None plan.folders_off (off_order passes)))
      (λ t c. among plan.folders_off (λ x has. inr (inr (inr has))) t (contains_reverse texts t c)) in
      subst (λ n. n ≤ length folders) (length-reverse texts ∙ length-map plan.folders_off place_text) bound

  pub at_most_four : PassesRules plan → (synced : SyncFolders) → HasFolders plan synced → length synced.saves + length synced.sets + length synced.clears + length plan.folders_off + 5 ≤ 4 * length folders + 5
  at_most_four passes synced has =
      let a = rising_within synced.saves has.saves.rise (λ x h. inl (has.saves.only x h)) in
      let b = rising_within synced.sets has.sets.rise (λ x h. inr (inl (has.sets.only x h))) in
      let c = rising_within synced.clears has.clears.rise (λ x h. inr (inr (inl (has.clears.only x h)))) in
      let d = off_within passes in
      omega (arith, a, b, c, d)
