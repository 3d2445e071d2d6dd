-- Where nothing refuses the plan, no reason is the first, and otherwise one at most.
use Rattle.std.proofs.Common.{◌≡◌, ◌≢◌, ◌⊎◌, ℕ, List, ◌∷◌, refl, sym, ap, ◌∙◌, inl, inr, subst}
use Rattle.std.specs.List.{Contains}
use Rattle.std.specs.Ordering.{nat_cmp}
use Rattle.std.specs.Cmp.Lexicographic.{slice_cmp}
use Rattle.std.specs.declared.cmp.Ordering.{Ordering}
use Rattle.std.specs.declared.cmp.Ordering.TheVariants.{Less, Equal, Greater}
use Rattle.std.specs.declared.option.Option.TheVariants.{Some}
use Rattle.list_laws.proofs.Orders.{text_tied, text_turned}
use Rattle.rel_paths.specs.Names.{names_of}
use Rattle.tree_fs.specs.declared.name.Kind.TheVariants.{File, Other}
use Rattle.tree_fs.specs.Spot.{Spot, spot_of}
use Rattle.tree_fs.specs.Disk.{Disk, kind_of}
use Rattle.tree_fs.proofs.Spots.{same_place}
use Rattle.backup_keep.specs.Places.{aside_folder}
use Rattle.backup_keep.specs.Asides.{IsAsideOpen}
use Rattle.manifest_json.specs.declared.manifest.Row.{Row}
use Rattle.manifest_json.specs.Sound.{AreRows}
use Rattle.desk_model.specs.Records.{row_at}
use Rattle.desk_model.specs.Settled.{Choice, Deed, left_whole, put_aside, imported, reverted, accepted, linked_again, staged_again, let_go, dropped, deed_of}
use Rattle.plan_model.proofs.Firsts.{row-here}
use Rattle.deploy_plan.specs.Refusals.{IsOutermost}
use Rattle.deploy_plan.proofs.OneFirst.{open_not_blocking, open_not_taken, equal, shorter, longer, fronts}
use Rattle.change_settle.specs.declared.error.SettleError.{SettleError}
use Rattle.change_settle.specs.declared.error.SettleError.TheVariants.{Blocked, AsideFull, Failed, Memory}
use Rattle.change_settle.specs.Refusals.{restored_spot, NeedsBackup, IsInTheWay, IsFirstInTheWay, WalkPasses, NoRefusal, IsRefusal, IsSettleRefusal}

module _ (choice : Choice) (a : Disk) (rows : List Row) where
  none_in_the_way : (r : Row) (x : Spot) → WalkPasses choice a rows → Contains rows r → IsInTheWay choice a r x → ⊥
  none_in_the_way r x walk c (inl h) = open_not_taken a x (walk.parents r h.place c h.restored x h.outermost.above) h.outermost.taken
  none_in_the_way r x walk c (inr h) = open_not_blocking a _ (walk.behind r c h.needed) h.blocking

  none_first : (x : Spot) → WalkPasses choice a rows → IsFirstInTheWay choice a rows x → ⊥
  none_first x walk h = none_in_the_way h.row x walk h.listed h.there

  aside_open : IsAsideOpen a → (kind_of a aside_folder ≡ File) ⊎ (kind_of a aside_folder ≡ Other) → ⊥
  aside_open o t = open_not_taken a aside_folder o t

  pub none_is_first : (error : SettleError) → NoRefusal choice a rows → IsRefusal error → ¬ IsSettleRefusal choice a rows error
  none_is_first (Blocked place) none is (inl h) = none_first (spot_of place) none.walk h
  none_is_first (Blocked place) none is (inr h) = aside_open (none.aside h.1).may_be_made h.2.taken
  none_is_first AsideFull none is h = (none.aside h.1).room h.3
  none_is_first Failed none is h = is
  none_is_first Memory none is h = is

  -- Only one reason is the first

  -- of two texts of which neither is below the other
  same_least : (p q : List ℕ) → slice_cmp nat_cmp p q ≢ Less → slice_cmp nat_cmp q p ≢ Less → p ≡ q
  same_least p q f g = by (slice_cmp nat_cmp p q) refl
    where
      by : (o : Ordering) → slice_cmp nat_cmp p q ≡ o → p ≡ q
      by Less e = absurd (f e)
      by Equal e = text_tied p q e
      by Greater e = absurd (g (text_turned p q e))

  -- a place has one outermost parent in the way
  outermost_one : (x s t : Spot) → IsOutermost a x s → IsOutermost a x t → s ≡ t
  outermost_one x s t f g =
      let root : s.root ≡ t.root = sym f.above.root ∙ g.above.root in
      elim (fronts s.names t.names (f.above.name ∷ f.above.rest) (g.above.name ∷ g.above.rest) (sym f.above.names ∙ g.above.names)) [
        | equal h ↦ λ i. record { root = root i; names = h i }
        | shorter n more h ↦ absurd (open_not_taken a s (g.outermost s (record { root = sym root; name = n; rest = more; names = h })) f.taken)
        | longer n more h ↦ absurd (open_not_taken a t (f.outermost t (record { root = root; name = n; rest = more; names = h })) g.taken)
      ]

  -- nothing is put back where a row goes
  not_both : (r : Row) (d : Deed) (x : Spot) → restored_spot r d ≡ Some x → NeedsBackup r d → ⊥
  not_both r let_go x e needs = cc
  not_both r dropped x e needs = cc
  not_both r left_whole x e needs = needs
  not_both r put_aside x e needs = needs
  not_both r imported x e needs = needs
  not_both r reverted x e needs = needs
  not_both r accepted x e needs = needs
  not_both r linked_again x e needs = needs
  not_both r staged_again x e needs = needs

  one_in_the_way : (r : Row) (x y : Spot) → IsInTheWay choice a r x → IsInTheWay choice a r y → x ≡ y
  one_in_the_way r x y (inl h) (inl k) =
      let t : Some h.place ≡ Some k.place = sym h.restored ∙ k.restored in
      let same : h.place ≡ k.place = cc in
      outermost_one k.place x y (subst (λ z. IsOutermost a z x) same h.outermost) k.outermost
  one_in_the_way r x y (inl h) (inr k) = absurd (not_both r (deed_of choice a r) h.place h.restored k.needed)
  one_in_the_way r x y (inr h) (inl k) = absurd (not_both r (deed_of choice a r) k.place k.restored h.needed)
  one_in_the_way r x y (inr h) (inr k) = h.here ∙ sym k.here

  first_one : AreRows rows → (x y : Spot) → IsFirstInTheWay choice a rows x → IsFirstInTheWay choice a rows y → x ≡ y
  first_one kept x y h k =
      let path = same_least h.row.path k.row.path (k.least h.row x h.listed h.there) (h.least k.row y k.listed k.there) in
      let t : Some h.row ≡ Some k.row = sym (row-here rows h.row kept.rise h.listed) ∙ ap (λ p. row_at rows (names_of p)) path ∙ row-here rows k.row kept.rise k.listed in
      let row : h.row ≡ k.row = cc in
      one_in_the_way k.row x y (subst (λ r. IsInTheWay choice a r x) row h.there) k.there

  pub first_is_one : (e f : SettleError) → AreRows rows → IsRefusal e → IsRefusal f → IsSettleRefusal choice a rows e → IsSettleRefusal choice a rows f → e ≡ f
  first_is_one (Blocked x) (Blocked y) kept i j (inl h) (inl k) = ap Blocked (same_place x y (first_one kept (spot_of x) (spot_of y) h k))
  first_is_one (Blocked x) (Blocked y) kept i j (inl h) (inr k) = absurd (none_first (spot_of x) k.0 h)
  first_is_one (Blocked x) (Blocked y) kept i j (inr h) (inl k) = absurd (none_first (spot_of y) h.0 k)
  first_is_one (Blocked x) (Blocked y) kept i j (inr h) (inr k) = ap Blocked (same_place x y (h.2.here ∙ sym k.2.here))
  first_is_one (Blocked x) AsideFull kept i j (inl h) k = absurd (none_first (spot_of x) k.0 h)
  first_is_one (Blocked x) AsideFull kept i j (inr h) k = absurd (aside_open k.2 h.2.taken)
  first_is_one AsideFull (Blocked y) kept i j h (inl k) = absurd (none_first (spot_of y) h.0 k)
  first_is_one AsideFull (Blocked y) kept i j h (inr k) = absurd (aside_open h.2 k.2.taken)
  first_is_one AsideFull AsideFull kept i j h k = refl
  first_is_one Failed f kept i j h k = absurd i
  first_is_one Memory f kept i j h k = absurd i
  first_is_one (Blocked x) Failed kept i j h k = absurd j
  first_is_one (Blocked x) Memory kept i j h k = absurd j
  first_is_one AsideFull Failed kept i j h k = absurd j
  first_is_one AsideFull Memory kept i j h k = absurd j
