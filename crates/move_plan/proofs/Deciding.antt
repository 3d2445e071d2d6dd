-- Each test of a rule decides it.
use Rattle.std.proofs.Common.{◌≡◌, ◌≢◌, ◌⊎◌, Bool, true, false, List, [], ◌∷◌, length, refl, sym, ap, subst, inl, inr, arith}
use Rattle.std.specs.Prelude.{not, ◌&&◌, ◌||◌, ◌==◌, IfSome}
use Rattle.std.specs.List.{AllByRecursion, Contains, list_any}
use Rattle.std.specs.Bool.{Decides}
use Rattle.std.specs.Ordering.{nat_cmp, is_lt}
use Rattle.std.specs.Cmp.Lexicographic.{slice_cmp}
use Rattle.std.specs.declared.cmp.Ordering.{Ordering}
use Rattle.std.specs.declared.cmp.Ordering.TheVariants.{Less, Equal, Greater}
use Rattle.std.specs.declared.option.Option.{Option}
use Rattle.std.specs.declared.option.Option.TheVariants.{None, Some}
use Rattle.std.proofs.lemmas.Bool.Decides.{Decides-like, Decides-not, Decides-and, Decides-or, nat_tests}
use Rattle.std.proofs.lemmas.Slice.Eq.{bytes_eq-Decides}
use Rattle.tree_fs.specs.declared.place.Root.TheVariants.{Stage, Game}
use Rattle.tree_fs.specs.declared.place.Place.{Place}
use Rattle.tree_fs.specs.Spot.{Spot, spot_of, IsBelow}
use Rattle.tree_fs.specs.Texts.{place_text}
use Rattle.list_laws.proofs.Alls.{all-from_test, test-from_all}
use Rattle.list_laws.proofs.Containing.{contains_cases, contains_here, contains_there, contains_none}
use Rattle.tree_fs.proofs.Spots.{same_place, root_eq-Decides}
use Rattle.tree_fs.proofs.Texts.{place_text-same}
use Rattle.move_plan.specs.declared.plan.SetRow.{SetRow}
use Rattle.move_plan.specs.declared.plan.Plan.{Plan}
use Rattle.move_plan.specs.Places.{IsAt, IsSetTo, IsSetFrom, IsSaveTo, IsSaved, IsBacked, IsDestination, IsClear}
use Rattle.move_plan.specs.Entries.{Entry, folder, save, set, clear, off, Listed, entries}
use Rattle.move_plan.specs.Rules.{ComesBefore, InOrder, IsFree, AvoidsControls, SourceStays, SaveStays, Keeping, MovesSome, ClearIsUsed, SaveIsBack, BackStays, LiesApart, Apart, Rule, in_order, avoids_controls, source_stays, save_stays, keeping, clear_is_used, save_is_back, back_stays, apart, Keeps, KeepsRule, PassesRules}
use Rattle.move_plan.specs.Tests.{none_or, some_and, has_text, is_before, in_order_test, is_free, avoids_controls_test, has_key, key_passes, is_set_to, is_save_to, is_from, is_source, source_stays_test, save_stays_test, keeping_test, moves_some, clear_is_used_test, is_back_of, save_is_back_test, is_saved, may_stay, back_stays_test, lies_below, below_some, lies_apart, apart_test, test_of, keeps, passes}
use Rattle.move_plan.proofs.Spots.{is_free-Decides, is_keeping-Decides, lies_below-Decides}

always : Decides true (Unit {0})
always = (λ _. tt, λ _. refl)

never : Decides false ⊥
never = (λ e. let wrong : false ≡ true = e in absurd (cc), λ wrong. absurd wrong)

module _ {A : Type 0} (t : A → Bool) (P : A → Type 0) (each : (x : A) → Decides (t x) (P x)) where
  pub none_or-Decides : (o : Option A) → Decides (none_or t o) (IfSome o P)
  none_or-Decides None = always
  none_or-Decides (Some x) = each x

  -- one of the items passes
  pub some_item : (xs : List A) → Decides (list_any t xs) ((x : A) × Contains xs x × P x)
  some_item [] = (λ e. let wrong : false ≡ true = e in absurd (cc), λ h. absurd (contains_none h.0 h.1))
  some_item (x ∷ xs) = Decides-like _ into back (Decides-or (t x) (list_any t xs) (each x) (some_item xs))
    where
      into : P x ⊎ ((y : A) × Contains xs y × P y) → (y : A) × Contains (x ∷ xs) y × P y
      into (inl h) = (x, contains_here x xs, h)
      into (inr h) = (h.0, contains_there x h.0 xs h.1, h.2)

      back : ((y : A) × Contains (x ∷ xs) y × P y) → P x ⊎ ((y : A) × Contains xs y × P y)
      back h = elim (contains_cases x h.0 xs h.1) [ inl same ↦ inl (subst P same h.2) | inr there ↦ inr (h.0, there, h.2) ]

pub has_text-Decides : (p q : Place) → Decides (has_text (place_text p) q) (spot_of q ≡ spot_of p)
has_text-Decides p q =
    Decides-like _ (λ e. ap spot_of (place_text-same q p e)) (λ e. ap place_text (same_place q p e))
    (bytes_eq-Decides (place_text q) (place_text p))

is_lt-Decides : (o : Ordering) → Decides (is_lt o) (o ≡ Less)
is_lt-Decides Less = (λ _. refl, λ _. refl)
is_lt-Decides Equal = (λ e. let wrong : false ≡ true = e in absurd (cc), λ e. cc)
is_lt-Decides Greater = (λ e. let wrong : false ≡ true = e in absurd (cc), λ e. cc)

pub is_before-Decides : (p q : Place) → Decides (is_before p q) (ComesBefore p q)
is_before-Decides p q = is_lt-Decides (slice_cmp nat_cmp (place_text p) (place_text q))

in_order-Decides : (e : Entry) (front : Option Place) → Decides (in_order_test e front) (InOrder e front)
in_order-Decides (folder p) front = none_or-Decides _ _ (λ q. is_before-Decides q p) front
in_order-Decides (save s) front = none_or-Decides _ _ (λ q. is_before-Decides q s.1) front
in_order-Decides (set row) front = none_or-Decides _ _ (λ q. is_before-Decides q row.to) front
in_order-Decides (clear p) front = none_or-Decides _ _ (λ q. is_before-Decides q p) front
in_order-Decides (off p) front = none_or-Decides _ _ (λ q. is_before-Decides p q) front

avoids_controls-Decides : (e : Entry) → Decides (avoids_controls_test e) (AvoidsControls e)
avoids_controls-Decides (folder p) = is_free-Decides p
avoids_controls-Decides (save s) = Decides-and _ _ (is_free-Decides s.0) (is_free-Decides s.1)
avoids_controls-Decides (set row) =
    Decides-like _ (λ h. (h.0, h.1.0, h.1.1)) (λ h. (h.0, (h.1, h.2)))
    (Decides-and _ _ (is_free-Decides row.to) (Decides-and _ _ (none_or-Decides is_free (λ p. IsFree (spot_of p)) is_free-Decides row.from) (none_or-Decides is_free (λ p. IsFree (spot_of p)) is_free-Decides row.back)))
avoids_controls-Decides (clear p) = is_free-Decides p
avoids_controls-Decides (off p) = is_free-Decides p

module _ (plan : Plan) where
  pub is_set_to-Decides : (p : Place) → Decides (is_set_to plan p) (IsSetTo plan (spot_of p))
  is_set_to-Decides p =
      Decides-like _ (λ h. record { row = h.0; listed = h.1; here = h.2 }) (λ (h : IsSetTo plan (spot_of p)). (h.row, h.listed, h.here))
      (some_item (λ (row : SetRow). has_text (place_text p) row.to) (λ (row : SetRow). spot_of row.to ≡ spot_of p) (λ row. has_text-Decides p row.to) plan.sets)

  pub is_save_to-Decides : (p : Place) → Decides (is_save_to plan p) (IsSaveTo plan (spot_of p))
  is_save_to-Decides p =
      Decides-like _ (λ h. record { save = h.0; listed = h.1; here = h.2 }) (λ (h : IsSaveTo plan (spot_of p)). (h.save, h.listed, h.here))
      (some_item (λ (s : Place × Place). has_text (place_text p) s.1) (λ (s : Place × Place). spot_of s.1 ≡ spot_of p) (λ s. has_text-Decides p s.1) plan.saves)

  is_clear-Decides : (p : Place) → Decides (has_key (λ q. q) plan.clears p) (IsClear plan (spot_of p))
  is_clear-Decides p =
      Decides-like _ (λ h. record { place = h.0; listed = h.1; here = h.2 }) (λ (h : IsClear plan (spot_of p)). (h.place, h.listed, h.here))
      (some_item (λ q. has_text (place_text p) q) (λ q. spot_of q ≡ spot_of p) (λ q. has_text-Decides p q) plan.clears)

  at-Decides : (p : Place) (o : Option Place) → Decides (some_and (λ from. has_text (place_text from) p) o) (IsAt o (spot_of p))
  at-Decides p None = never
  at-Decides p (Some from) = Decides-like _ (λ e. sym e) (λ e. sym e) (has_text-Decides from p)

  pub is_source-Decides : (p : Place) → Decides (is_source plan.sets p) (IsSetFrom plan (spot_of p))
  is_source-Decides p =
      Decides-like _ (λ h. record { row = h.0; listed = h.1; here = h.2 }) (λ (h : IsSetFrom plan (spot_of p)). (h.row, h.listed, h.here))
      (some_item (is_from p) (λ (row : SetRow). IsAt row.from (spot_of p)) (λ row. at-Decides p row.from) plan.sets)

  source_stays-Decides : (e : Entry) → Decides (source_stays_test plan e) (SourceStays plan e)
  source_stays-Decides (folder p) = always
  source_stays-Decides (save s) = always
  source_stays-Decides (set row) = none_or-Decides _ _ (λ p. Decides-not _ (is_set_to-Decides p)) row.from
  source_stays-Decides (clear p) = always
  source_stays-Decides (off p) = always

  save_stays-Decides : (e : Entry) → Decides (save_stays_test plan e) (SaveStays plan e)
  save_stays-Decides (folder p) = always
  save_stays-Decides (save s) =
      Decides-like _ (λ h. (λ a. h (inl a), λ b. h (inr b))) (λ h x. elim x [ inl a ↦ h.0 a | inr b ↦ h.1 b ])
      (Decides-not _ (Decides-or _ _ (is_set_to-Decides s.1) (is_source-Decides s.1)))
  save_stays-Decides (set row) = always
  save_stays-Decides (clear p) = always
  save_stays-Decides (off p) = always

  keeping-Decides : (e : Entry) → Decides (keeping_test plan e) (Keeping plan e)
  keeping-Decides (folder p) = always
  keeping-Decides (save s) = is_keeping-Decides s.1
  keeping-Decides (set row) = always
  keeping-Decides (clear p) = Decides-and _ _ (Decides-not _ (is_set_to-Decides p)) (is_keeping-Decides p)
  keeping-Decides (off p) = always

  some-Decides : {A : Type 0} (xs : List A) → Decides (not (length xs == 0)) (xs ≢ [])
  some-Decides [] = (λ e. let wrong : false ≡ true = e in absurd (cc), λ h. absurd (h refl))
  some-Decides (x ∷ xs) = (λ _ e. let wrong : x ∷ xs ≡ [] = e in cc, λ _. grind (arith, nat_tests))

  moves_some-Decides : Decides (moves_some plan) (MovesSome plan)
  moves_some-Decides = Decides-or _ _ (some-Decides plan.saves) (some-Decides plan.sets)

  implies : (b c : Bool) {P Q : Type 0} → Decides b P → Decides c Q → Decides (not b || c) (P → Q)
  implies true true p q = (λ _ _. q.0 refl, λ _. refl)
  implies true false p q = (λ e. let wrong : false ≡ true = e in absurd (cc), λ f. q.1 (f (p.0 refl)))
  implies false c p q = (λ _ h. let wrong : false ≡ true = p.1 h in absurd (cc), λ _. refl)

  clear_is_used-Decides : (e : Entry) → Decides (clear_is_used_test plan e) (ClearIsUsed plan e)
  clear_is_used-Decides (folder p) = always
  clear_is_used-Decides (save s) = always
  clear_is_used-Decides (set row) = always
  clear_is_used-Decides (clear p) =
      implies _ _ moves_some-Decides (Decides-or _ _ (is_source-Decides p) (is_save_to-Decides p))
  clear_is_used-Decides (off p) = always

  back-Decides : (p : Place) (o : Option Place) → Decides (some_and (has_text (place_text p)) o) ((place : Place) × (o ≡ Some place) × (spot_of place ≡ spot_of p))
  back-Decides p None = (λ e. let wrong : false ≡ true = e in absurd (cc), λ h. let wrong : None ≡ Some h.0 = h.1 in absurd (cc))
  back-Decides p (Some q) =
      Decides-like _ (λ e. (q, refl, e)) (λ h. let same : q ≡ h.0 = cc in subst (λ r. spot_of r ≡ spot_of p) (sym same) h.2) (has_text-Decides p q)

  is_backed-Decides : (to back : Place) → Decides (key_passes (λ (row : SetRow). row.to) (is_back_of back) plan.sets to) (IsBacked plan (spot_of to) (spot_of back))
  is_backed-Decides to back =
      Decides-like _
      (λ h. record { row = h.0; listed = h.1; here = h.2.0; place = h.2.1.0; is_back = h.2.1.1; there = h.2.1.2 })
      (λ (h : IsBacked plan (spot_of to) (spot_of back)). (h.row, h.listed, (h.here, (h.place, h.is_back, h.there))))
      (some_item (λ (row : SetRow). has_text (place_text to) row.to && is_back_of back row) (λ (row : SetRow). (spot_of row.to ≡ spot_of to) × ((place : Place) × (row.back ≡ Some place) × (spot_of place ≡ spot_of back))) (λ row. Decides-and _ _ (has_text-Decides to row.to) (back-Decides back row.back)) plan.sets)

  save_is_back-Decides : (e : Entry) → Decides (save_is_back_test plan e) (SaveIsBack plan e)
  save_is_back-Decides (folder p) = always
  save_is_back-Decides (save s) = is_backed-Decides s.0 s.1
  save_is_back-Decides (set row) = always
  save_is_back-Decides (clear p) = always
  save_is_back-Decides (off p) = always

  is_saved-Decides : (from to : Place) → Decides (is_saved plan from to) (IsSaved plan (spot_of from) (spot_of to))
  is_saved-Decides from to =
      Decides-like _
      (λ h. record { save = h.0; listed = h.1; source = h.2.1; here = h.2.0 })
      (λ (h : IsSaved plan (spot_of from) (spot_of to)). (h.save, h.listed, (h.here, h.source)))
      (some_item (λ (s : Place × Place). has_text (place_text to) s.1 && has_text (place_text from) s.0) (λ (s : Place × Place). (spot_of s.1 ≡ spot_of to) × (spot_of s.0 ≡ spot_of from)) (λ s. Decides-and _ _ (has_text-Decides to s.1) (has_text-Decides from s.0)) plan.saves)

  may_stay-Decides : (to back : Place) → Decides (may_stay plan to back) (IsSaved plan (spot_of to) (spot_of back) ⊎ (back.root ≡ Stage) × (¬ IsSetTo plan (spot_of back)))
  may_stay-Decides to back =
      Decides-or _ _ (is_saved-Decides to back) (Decides-and _ _ (root_eq-Decides back.root Stage) (Decides-not _ (is_set_to-Decides back)))

  back_stays-Decides : (e : Entry) → Decides (back_stays_test plan e) (BackStays plan e)
  back_stays-Decides (folder p) = always
  back_stays-Decides (save s) = always
  back_stays-Decides (set row) = none_or-Decides _ _ (λ p. may_stay-Decides row.to p) row.back
  back_stays-Decides (clear p) = always
  back_stays-Decides (off p) = always

  below_set-Decides : (p : Place) → Decides (below_some (λ (row : SetRow). row.to) plan.sets p) ((row : SetRow) × Contains plan.sets row × IsBelow (spot_of row.to) (spot_of p))
  below_set-Decides p = some_item (λ (row : SetRow). lies_below p row.to) (λ (row : SetRow). IsBelow (spot_of row.to) (spot_of p)) (λ row. lies_below-Decides p row.to) plan.sets

  below_save-Decides : (p : Place) → Decides (below_some (λ (s : Place × Place). s.1) plan.saves p) ((s : Place × Place) × Contains plan.saves s × IsBelow (spot_of s.1) (spot_of p))
  below_save-Decides p = some_item (λ (s : Place × Place). lies_below p s.1) (λ (s : Place × Place). IsBelow (spot_of s.1) (spot_of p)) (λ s. lies_below-Decides p s.1) plan.saves

  -- a destination that the place lies below
  from_destination : (p : Place) → ¬ ((row : SetRow) × Contains plan.sets row × IsBelow (spot_of row.to) (spot_of p)) → ¬ ((s : Place × Place) × Contains plan.saves s × IsBelow (spot_of s.1) (spot_of p)) → (y : Spot) → IsDestination plan y → ¬ IsBelow y (spot_of p)
  from_destination p not_set not_saved y (inl to) below = not_set (to.row, to.listed, subst (λ z. IsBelow z (spot_of p)) (sym to.here) below)
  from_destination p not_set not_saved y (inr to) below = not_saved (to.save, to.listed, subst (λ z. IsBelow z (spot_of p)) (sym to.here) below)

  lies_apart-Decides : (p : Place) → Decides (lies_apart plan p) (LiesApart plan (spot_of p))
  lies_apart-Decides p =
      Decides-like _
      (λ h. from_destination p h.0 h.1)
      (λ (h : LiesApart plan (spot_of p)). (
        λ x. h (spot_of (x.0).to) (inl (record { row = x.0; listed = x.1; here = refl })) x.2,
        λ x. h (spot_of (x.0).1) (inr (record { save = x.0; listed = x.1; here = refl })) x.2,
      ))
      (Decides-and _ _ (Decides-not _ (below_set-Decides p)) (Decides-not _ (below_save-Decides p)))

  apart-Decides : (e : Entry) → Decides (apart_test plan e) (Apart plan e)
  apart-Decides (folder p) =
      Decides-like _
      (λ h. (λ to. elim to [ inl a ↦ h.0 a | inr b ↦ h.1.0 b ], h.1.1))
      (λ h. (λ a. h.0 (inl a), (λ b. h.0 (inr b), h.1)))
      (Decides-and _ _ (Decides-not _ (is_set_to-Decides p)) (Decides-and _ _ (Decides-not _ (is_save_to-Decides p)) (Decides-not _ (is_clear-Decides p))))
  apart-Decides (save s) = lies_apart-Decides s.1
  apart-Decides (set row) = lies_apart-Decides row.to
  apart-Decides (clear p) = always
  apart-Decides (off p) = root_eq-Decides p.root Game

  -- each test decides its rule
  pub test-Decides : (rule : Rule) (l : Listed) → Decides (test_of rule plan l) (Keeps rule plan l)
  test-Decides in_order l = in_order-Decides l.entry l.front
  test-Decides avoids_controls l = avoids_controls-Decides l.entry
  test-Decides source_stays l = source_stays-Decides l.entry
  test-Decides save_stays l = save_stays-Decides l.entry
  test-Decides keeping l = keeping-Decides l.entry
  test-Decides clear_is_used l = clear_is_used-Decides l.entry
  test-Decides save_is_back l = save_is_back-Decides l.entry
  test-Decides back_stays l = back_stays-Decides l.entry
  test-Decides apart l = apart-Decides l.entry

  pub all_kept : (rule : Rule) (ls : List Listed) → AllByRecursion (λ (l : Listed). test_of rule plan l ≡ true) ls → AllByRecursion (Keeps rule plan) ls
  all_kept rule [] h = tt
  all_kept rule (l ∷ ls) h = ((test-Decides rule l).0 h.0, all_kept rule ls h.1)

  pub all_passed : (rule : Rule) (ls : List Listed) → AllByRecursion (Keeps rule plan) ls → AllByRecursion (λ (l : Listed). test_of rule plan l ≡ true) ls
  all_passed rule [] h = tt
  all_passed rule (l ∷ ls) h = ((test-Decides rule l).1 h.0, all_passed rule ls h.1)

  pub keeps-Decides : (rule : Rule) → Decides (keeps rule plan) (KeepsRule rule plan)
  keeps-Decides rule =
      (λ e. all_kept rule (entries plan) (all-from_test (test_of rule plan) (entries plan) e), λ h. test-from_all (test_of rule plan) (entries plan) (all_passed rule (entries plan) h))

-- the test of a plan decides whether it passes the rules
pub passes-Decides : (plan : Plan) → Decides (passes plan) (PassesRules plan)
unfolding passes
passes-Decides plan =
    let d = keeps-Decides plan in
    Decides-like _ into back
    (Decides-and _ _ (d in_order) (Decides-and _ _ (d avoids_controls) (Decides-and _ _ (d source_stays) (Decides-and _ _ (d save_stays)
    (Decides-and _ _ (d keeping) (Decides-and _ _ (d clear_is_used) (Decides-and _ _ (d save_is_back) (Decides-and _ _ (d back_stays) (d apart)))))))))
  where
    K : Rule → Type 0
    K rule = KeepsRule rule plan

    into : K in_order × (K avoids_controls × (K source_stays × (K save_stays × (K keeping × (K clear_is_used × (K save_is_back × (K back_stays × K apart))))))) → PassesRules plan
    into h in_order = h.0
    into h avoids_controls = h.1.0
    into h source_stays = h.1.1.0
    into h save_stays = h.1.1.1.0
    into h keeping = h.1.1.1.1.0
    into h clear_is_used = h.1.1.1.1.1.0
    into h save_is_back = h.1.1.1.1.1.1.0
    into h back_stays = h.1.1.1.1.1.1.1.0
    into h apart = h.1.1.1.1.1.1.1.1

    back : PassesRules plan → K in_order × (K avoids_controls × (K source_stays × (K save_stays × (K keeping × (K clear_is_used × (K save_is_back × (K back_stays × K apart)))))))
    back h = (h in_order, (h avoids_controls, (h source_stays, (h save_stays, (h keeping, (h clear_is_used, (h save_is_back, (h back_stays, h apart))))))))
