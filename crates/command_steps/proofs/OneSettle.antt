-- A settlement has one plan.
use Rattle.std.proofs.Common.{◌≡◌, ℕ, refl, sym, ap, ◌∙◌}
use Rattle.std.specs.List.{Contains}
use Rattle.std.specs.declared.option.Option.{Option}
use Rattle.std.specs.declared.option.Option.TheVariants.{None, Some}
use Rattle.tree_fs.specs.declared.place.Root.{Root}
use Rattle.tree_fs.specs.declared.place.Root.TheVariants.{Stage, Game, Keep}
use Rattle.tree_fs.specs.Spot.{Spot}
use Rattle.tree_fs.specs.Places.{game_spot}
use Rattle.tree_fs.specs.Disk.{Disk}
use Rattle.backup_keep.specs.Places.{aside_spot}
use Rattle.manifest_json.specs.declared.manifest.Row.{Row}
use Rattle.manifest_json.specs.declared.manifest.Manifest.{Manifest}
use Rattle.change_detect.specs.Classes.{staged_of}
use Rattle.move_plan.specs.declared.plan.Plan.{Plan}
use Rattle.desk_model.specs.Places.{Names}
use Rattle.desk_model.specs.Records.{row_at, row_staged}
use Rattle.desk_model.specs.Settled.{Choice, Deed, left_whole, put_aside, imported, reverted, accepted, linked_again, staged_again, let_go, dropped, deed_of}
use Rattle.desk_model.proofs.Sourced.{row_staged-some}
use Rattle.plan_model.specs.Moves.{LaidOut}
use Rattle.plan_model.proofs.Firsts.{row-some}
use Rattle.purge_run.proofs.Held.{next_once}
use Rattle.change_settle.specs.Deeds.{game_move, stage_move, saved_spot, cleared_spot, at_row, set_of, Saves, Clears, settle_moves}
use Rattle.change_settle.specs.Plans.{CanSettle, IsSettlePlan}
use Rattle.change_settle.specs.Refusals.{SetsSomeAside}
use Rattle.change_settle.proofs.OnePlan.{settle_once}

-- two numbers move a row alike where they are one if its file is set aside
module _ (a : Disk) (m n : ℕ) (r : Row) where
  game_alike : (d : Deed) → ((y : Spot) → saved_spot r d ≡ Some y → m ≡ n) → game_move a m r d ≡ game_move a n r d
  game_alike put_aside h = ap (λ k. game_move a k r put_aside) (h (game_spot r.path) refl)
  game_alike reverted h = ap (λ k. game_move a k r reverted) (h (game_spot r.path) refl)
  game_alike let_go h = ap (λ k. game_move a k r let_go) (h (game_spot r.path) refl)
  game_alike left_whole h = refl
  game_alike imported h = refl
  game_alike accepted h = refl
  game_alike linked_again h = refl
  game_alike staged_again h = refl
  game_alike dropped h = refl

  stage_alike : (d : Deed) → ((y : Spot) → saved_spot r d ≡ Some y → m ≡ n) → stage_move m r d ≡ stage_move n r d
  stage_alike imported h = ap (λ k. stage_move k r imported) (h (staged_of r) refl)
  stage_alike put_aside h = refl
  stage_alike reverted h = refl
  stage_alike let_go h = refl
  stage_alike left_whole h = refl
  stage_alike accepted h = refl
  stage_alike linked_again h = refl
  stage_alike staged_again h = refl
  stage_alike dropped h = refl

  clear_alike : (d : Deed) → ((y : Spot) → saved_spot r d ≡ Some y → m ≡ n) → cleared_spot a m r d ≡ cleared_spot a n r d
  clear_alike reverted h = ap (λ k. cleared_spot a k r reverted) (h (game_spot r.path) refl)
  clear_alike put_aside h = refl
  clear_alike imported h = refl
  clear_alike let_go h = refl
  clear_alike left_whole h = refl
  clear_alike accepted h = refl
  clear_alike linked_again h = refl
  clear_alike staged_again h = refl
  clear_alike dropped h = refl

module _ (choice : Choice) (a : Disk) (old : Manifest) (m n : ℕ) (can : CanSettle choice a old m) (also : CanSettle choice a old n) where
  same_number : (r : Row) → Contains old.rows r → (y : Spot) → saved_spot r (deed_of choice a r) ≡ Some y → m ≡ n
  same_number r c y is =
      let some : SetsSomeAside choice a old.rows = record { row = r; listed = c; origin = y; saved = is } in
      next_once a m n (can.next some) (also.next some)

  game_set : (p : Names) (o : Option Row) → row_at old.rows p ≡ o → at_row choice a (game_move a m) o ≡ at_row choice a (game_move a n) o
  game_set p None e = refl
  game_set p (Some r) e = game_alike a m n r (deed_of choice a r) (same_number r (row-some old.rows p r e).0)

  stage_set : (p : Names) (o : Option Row) → row_staged old.rows p ≡ o → at_row choice a (stage_move m) o ≡ at_row choice a (stage_move n) o
  stage_set p None e = refl
  stage_set p (Some r) e = stage_alike a m n r (deed_of choice a r) (same_number r (row_staged-some old.rows p r e).0)

  same_sets : (r : Root) (p : Names) → set_of choice a old.rows m r p ≡ set_of choice a old.rows n r p
  same_sets Game p = game_set p (row_at old.rows p) refl
  same_sets Stage p = stage_set p (row_staged old.rows p) refl
  same_sets Keep p = refl

  same_save : (from to : Spot) → Saves choice a old.rows m from to → Saves choice a old.rows n from to
  same_save from to h = record {
    row = h.row;
    listed = h.listed;
    saved = h.saved;
    here = ap (λ k. aside_spot k from) (sym (same_number h.row h.listed from h.saved)) ∙ h.here;
  }

  same_clear : (x : Spot) → Clears choice a old.rows m x → Clears choice a old.rows n x
  same_clear x h = record {
    row = h.row;
    listed = h.listed;
    cleared = sym (clear_alike a m n h.row (deed_of choice a h.row) (same_number h.row h.listed)) ∙ h.cleared;
  }

same_moves : (choice : Choice) (a : Disk) (old : Manifest) (m n : ℕ) → CanSettle choice a old m → CanSettle choice a old n → (plan : Plan) → LaidOut (settle_moves choice a old.rows m) plan → LaidOut (settle_moves choice a old.rows n) plan
same_moves choice a old m n can also plan laid = record {
  sets = λ x v. (
    λ h. sym (same_sets choice a old m n can also x.root x.names) ∙ (laid.sets x v).0 h,
    λ e. (laid.sets x v).1 (same_sets choice a old m n can also x.root x.names ∙ e),
  );
  saves = λ from to. (
    λ h. same_save choice a old m n can also from to ((laid.saves from to).0 h),
    λ h. (laid.saves from to).1 (same_save choice a old n m also can from to h),
  );
  clears = λ x. (
    λ h. same_clear choice a old m n can also x ((laid.clears x).0 h),
    λ h. (laid.clears x).1 (same_clear choice a old n m also can x h),
  );
  order = laid.order;
}

pub settle_is_one : (choice : Choice) (a : Disk) (old : Manifest) (p q : Plan) → IsSettlePlan choice a old p → IsSettlePlan choice a old q → p ≡ q
settle_is_one choice a old p q h k =
    let moves = same_moves choice a old h.number k.number h.can k.can p h.is.moves in
    settle_once choice a old k.number p q (record { moves = moves; folders = h.is.folders; manifest = h.is.manifest; is_manifest = h.is.is_manifest; rows = h.is.rows; own = h.is.own }) k.is
