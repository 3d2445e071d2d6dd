-- A plan of a purge makes the folders that are missing above what is set aside.
use Rattle.std.proofs.Common.{◌≡◌, ℕ, true, false, refl, sym, ap, ◌∙◌, inl, inr, subst, Bool}
use Rattle.std.specs.declared.option.Option.TheVariants.{Some}
use Rattle.rel_paths.specs.Names.{names_of}
use Rattle.rel_paths.proofs.Truths.{both}
use Rattle.tree_fs.specs.Spot.{Spot, IsBelow}
use Rattle.tree_fs.specs.Places.{game_spot}
use Rattle.tree_fs.specs.Disk.{Disk}
use Rattle.tree_fs.proofs.Below.{above_value}
use Rattle.backup_keep.specs.Places.{backup_spot}
use Rattle.manifest_json.specs.declared.manifest.Row.{Row}
use Rattle.manifest_json.specs.declared.manifest.Manifest.{Manifest}
use Rattle.move_plan.specs.declared.plan.Plan.{Plan}
use Rattle.move_plan.specs.Places.{IsDestination}
use Rattle.desk_model.specs.Places.{in_game}
use Rattle.desk_model.specs.Records.{row_at}
use Rattle.desk_model.specs.Desk.{is_file}
use Rattle.plan_model.specs.Rows.{has_original}
use Rattle.plan_model.specs.Moves.{Move, LaidOut}
use Rattle.plan_model.specs.Folders.{IsMade}
use Rattle.plan_model.proofs.Values.{HasFile, file_some, file_true}
use Rattle.plan_model.proofs.Moved.{set-moved, save-moved, moved-is_save}
use Rattle.plan_model.proofs.Firsts.{row-some, row-here}
use Rattle.plan_model.proofs.Paths.{above_path}
use Rattle.purge_run.specs.Holds.{Hold, unheld, linked, over, bare, bare_set, purge_set, SetsAside, purge_moves, aside_at}
use Rattle.purge_run.specs.Folders.{IsMissingAside}
use Rattle.purge_run.specs.Plans.{CanPurge}
use Rattle.purge_run.proofs.Held.{Found, told_at, row_good, hold_over}
use Rattle.purge_run.proofs.Sets.{HoldCase, hold_case, set_tells}

module _ (a : Disk) (old : Manifest) (n : ℕ) (can : CanPurge a old n) (plan : Plan) (laid : LaidOut (purge_moves a old.rows n) plan) where
  -- above a file every folder is there
  not_over : (s x : Spot) → HasFile (a.now x) → IsBelow s x → a.folders s ≡ false → ⊥
  not_over s x f b missing = let t : true ≡ false = sym (above_value a can.valid s x b (file_some (a.now x) f)) ∙ missing in cc

  no_set : (s x : Spot) (v : Move) → a.folders s ≡ false → IsBelow s x → HoldCase a old.rows n x v → ⊥
  no_set s x v missing b (hold_case h at here e) = by_hold h (told_at a old n can x.names h at) e
    where
      its_place : (r : Row) → row_at old.rows x.names ≡ Some r → game_spot r.path ≡ x
      its_place r is = ap in_game (row_good a old n can x.names r is).1 ∙ here

      filed : (r : Row) → row_at old.rows x.names ≡ Some r → HasFile (a.now (game_spot r.path)) → ⊥
      filed r is f = not_over s (game_spot r.path) f (subst (IsBelow s) (sym (its_place r is)) b) missing

      by_test : (r : Row) (t : Bool) → row_at old.rows x.names ≡ Some r → has_original a r ≡ t → bare_set a r t ≡ Some v → ⊥
      by_test r true is o e =
          let f = file_true (a.now (backup_spot r.path)) (both r.shadowed (is_file (a.now (backup_spot r.path))) o).1 in
          not_over s (backup_spot r.path) f (above_path s r.path (subst (IsBelow s) (sym (its_place r is)) b)) missing
      by_test r false is o e = cc

      by_hold : (h : Hold) → Found a old.rows x.names h → purge_set a n h ≡ Some v → ⊥
      by_hold unheld f e = cc
      by_hold (linked r) f e = filed r f.0 f.1
      by_hold (over r) f e = filed r f.0 f.1
      by_hold (bare r) f e = by_test r (has_original a r) f.0 refl e

  above_save : (s x y : Spot) → a.folders s ≡ false → IsBelow s x → SetsAside a old.rows n y x → IsMissingAside a old.rows n s
  above_save s x y missing b h =
      let f = told_at a old n can (names_of h.row.path) (over h.row) h.case in
      record { missing = missing; row = h.row; listed = (row-some old.rows (names_of h.row.path) h.row f.0).0; over = f.2; below = subst (IsBelow s) (sym h.here) b }

  pub made-missing : (s : Spot) → IsMade a plan s → IsMissingAside a old.rows n s
  made-missing s h = by_to h.to
    where
      by_to : IsDestination plan h.place → IsMissingAside a old.rows n s
      by_to (inl set) = let m = set-moved (purge_moves a old.rows n) plan laid a.now h.place set in absurd (no_set s h.place m.0 h.missing h.below (set_tells a old.rows n h.place m.0 m.1))
      by_to (inr save) = let m = save-moved (purge_moves a old.rows n) plan laid a.now h.place save in above_save s h.place m.0 h.missing h.below m.1

  pub missing-made : (s : Spot) → IsMissingAside a old.rows n s → IsMade a plan s
  missing-made s h = record {
    missing = h.missing;
    place = aside_at n h.row.path;
    to = inr (moved-is_save (purge_moves a old.rows n) plan laid a.now (aside_at n h.row.path) (game_spot h.row.path) (record {
      row = h.row;
      case = hold_over a old n can h.row (row-here old.rows h.row can.rows.rise h.listed) h.over;
      source = refl;
      here = refl;
    }));
    below = h.below;
  }
