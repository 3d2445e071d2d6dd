-- A purge has one plan.
use Rattle.std.proofs.Common.{◌≡◌, ℕ, true, refl, sym, ap, ◌∙◌}
use Rattle.std.specs.List.{Contains}
use Rattle.rel_paths.specs.Names.{names_of}
use Rattle.tree_fs.specs.declared.place.Root.{Root}
use Rattle.tree_fs.specs.declared.place.Root.TheVariants.{Stage, Game, Keep}
use Rattle.tree_fs.specs.Spot.{Spot}
use Rattle.tree_fs.specs.Disk.{Disk}
use Rattle.manifest_json.specs.declared.manifest.Row.{Row}
use Rattle.manifest_json.specs.declared.manifest.Manifest.{Manifest}
use Rattle.move_plan.specs.declared.plan.Plan.{Plan}
use Rattle.desk_model.specs.Places.{Names}
use Rattle.desk_model.specs.Purged.{stands_over}
use Rattle.plan_model.specs.Moves.{LaidOut, at_game}
use Rattle.plan_model.proofs.Firsts.{row-some}
use Rattle.plan_model.proofs.OnePlan.{same_plan}
use Rattle.purge_run.specs.Holds.{aside_at, Hold, unheld, linked, over, bare, hold_of, purge_set, SetsAside, purge_moves}
use Rattle.purge_run.specs.Plans.{CanPurge, PurgePlan, IsPurgePlan}
use Rattle.purge_run.specs.Refusals.{SetsSomeAside}
use Rattle.purge_run.proofs.Held.{Found, told_at, next_once}

pub purge_once : (a : Disk) (old : Manifest) (n : ℕ) (p q : Plan) → PurgePlan a old n p → PurgePlan a old n q → p ≡ q
purge_once a old n p q dp dq = same_plan a old.folders (purge_moves a old.rows n) p q dp.moves dq.moves dp.folders dq.folders (dp.manifest ∙ sym dq.manifest)

-- two numbers move alike, since they are one where a file is set aside
module _ (a : Disk) (old : Manifest) (m n : ℕ) (can : CanPurge a old m) (also : CanPurge a old n) where
  same_number : (r : Row) → Contains old.rows r → stands_over a r ≡ true → m ≡ n
  same_number r c s =
      let some : SetsSomeAside a old.rows = record { row = r; listed = c; over = s } in
      next_once a m n (can.next some) (also.next some)

  same_set : (p : Names) → purge_set a m (hold_of a old.rows p) ≡ purge_set a n (hold_of a old.rows p)
  same_set p = by_hold (hold_of a old.rows p) (told_at a old m can p (hold_of a old.rows p) refl)
    where
      by_hold : (h : Hold) → Found a old.rows p h → purge_set a m h ≡ purge_set a n h
      by_hold unheld f = refl
      by_hold (linked r) f = refl
      by_hold (over r) f = ap (λ k. purge_set a k (over r)) (same_number r (row-some old.rows p r f.0).0 f.2)
      by_hold (bare r) f = refl

  same_sets : (r : Root) (p : Names) → at_game (λ q. purge_set a m (hold_of a old.rows q)) r p ≡ at_game (λ q. purge_set a n (hold_of a old.rows q)) r p
  same_sets Stage p = refl
  same_sets Game p = same_set p
  same_sets Keep p = refl

  same_save : (from to : Spot) → SetsAside a old.rows m from to → SetsAside a old.rows n from to
  same_save from to h =
      let f = told_at a old m can (names_of h.row.path) (over h.row) h.case in
      record {
        row = h.row;
        case = h.case;
        source = h.source;
        here = ap (λ k. aside_at k h.row.path) (sym (same_number h.row (row-some old.rows (names_of h.row.path) h.row f.0).0 f.2)) ∙ h.here;
      }

same_moves : (a : Disk) (old : Manifest) (m n : ℕ) → CanPurge a old m → CanPurge a old n → (plan : Plan) → LaidOut (purge_moves a old.rows m) plan → LaidOut (purge_moves a old.rows n) plan
same_moves a old m n can also plan laid = record {
  sets = λ x v. (
    λ h. sym (same_sets a old m n can also x.root x.names) ∙ (laid.sets x v).0 h,
    λ e. (laid.sets x v).1 (same_sets a old m n can also x.root x.names ∙ e),
  );
  saves = λ from to. (
    λ h. same_save a old m n can also from to ((laid.saves from to).0 h),
    λ h. (laid.saves from to).1 (same_save a old n m also can from to h),
  );
  clears = laid.clears;
  order = laid.order;
}

pub purge_is_one : (a : Disk) (old : Manifest) (p q : Plan) → IsPurgePlan a old p → IsPurgePlan a old q → p ≡ q
purge_is_one a old p q h k =
    purge_once a old k.number p q (record { moves = same_moves a old h.number k.number h.can k.can p h.is.moves; folders = h.is.folders; manifest = h.is.manifest }) k.is
