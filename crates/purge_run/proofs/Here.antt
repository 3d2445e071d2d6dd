-- What a purge leaves at the path of a row: its original, or nothing.
use Rattle.std.proofs.Common.{◌≡◌, ℕ, Bool, true, false, cond, if◌then◌else◌, List, refl, sym, ap, ◌∙◌, subst}
use Rattle.std.specs.List.{Contains}
use Rattle.std.specs.declared.option.Option.{Option}
use Rattle.std.specs.declared.option.Option.TheVariants.{None, Some}
use Rattle.std.proofs.lemmas.Bool.{and_parts}
use Rattle.rel_paths.specs.Names.{names_of, IsFreePath}
use Rattle.tree_fs.specs.Spot.{Spot}
use Rattle.tree_fs.specs.Places.{game_spot}
use Rattle.tree_fs.specs.Disk.{Disk, Value, none}
use Rattle.backup_keep.specs.Places.{backup_spot}
use Rattle.manifest_json.specs.declared.manifest.Row.{Row}
use Rattle.manifest_json.specs.declared.manifest.Manifest.{Manifest}
use Rattle.move_plan.specs.declared.plan.Plan.{Plan}
use Rattle.desk_model.specs.Places.{in_game}
use Rattle.desk_model.specs.Records.{row_at}
use Rattle.desk_model.specs.Desk.{is_file}
use Rattle.desk_model.specs.Outcome.{updated}
use Rattle.plan_model.specs.Rows.{has_original, from_backup}
use Rattle.plan_model.specs.Moves.{Move, LaidOut}
use Rattle.plan_model.proofs.Firsts.{row-here}
use Rattle.plan_model.proofs.Moved.{value_at, moved-set, moved-else}
use Rattle.plan_model.proofs.Rows.{row_free}
use Rattle.plan_model.proofs.Values.{HasFile, file_true, its_file}
use Rattle.purge_run.specs.Holds.{bare_set, Hold, unheld, linked, over, bare, hold_of, purge_set, purge_moves}
use Rattle.purge_run.specs.Plans.{CanPurge}
use Rattle.purge_run.proofs.Held.{Found, told_at, row_good, path_kept, game_unsaved}

module _ (a : Disk) (old : Manifest) (n : ℕ) (can : CanPurge a old n) (plan : Plan) (laid : LaidOut (purge_moves a old.rows n) plan) where
  abbrev now : Spot → Value
  now = updated plan a.now

  -- the place of a path
  abbrev here_by : Option Move → Value → Value
  here_by None here = here
  here_by (Some v) here = value_at a.now v.from

  here_value : (t : List ℕ) → IsFreePath t → now (game_spot t) ≡ here_by (purge_set a n (hold_of a old.rows (names_of t))) (a.now (game_spot t))
  here_value t good = by_set (purge_set a n (hold_of a old.rows (names_of t))) refl
    where
      by_set : (o : Option Move) → (purge_moves a old.rows n).sets (game_spot t) ≡ o → now (game_spot t) ≡ here_by o (a.now (game_spot t))
      by_set None e = moved-else (purge_moves a old.rows n) plan laid a.now (game_spot t) e (path_kept a old n can t good) (λ y. game_unsaved a old n can (names_of t) y)
      by_set (Some v) e = moved-set (purge_moves a old.rows n) plan laid a.now (game_spot t) v e (path_kept a old n can t good)

  here_case : (t : List ℕ) (h : Hold) (r : Row) → Found a old.rows (names_of t) h → row_at old.rows (names_of t) ≡ Some r → here_by (purge_set a n h) (a.now (game_spot t)) ≡ value_at a.now (from_backup a r)
  here_case t unheld r f e = let u : None ≡ Some r = sym f ∙ e in absurd (cc)
  here_case t (linked s) r f e = let u : Some s ≡ Some r = sym f.0 ∙ e in ap (λ q. value_at a.now (from_backup a q)) (let i : s ≡ r = cc in i)
  here_case t (over s) r f e = let u : Some s ≡ Some r = sym f.0 ∙ e in ap (λ q. value_at a.now (from_backup a q)) (let i : s ≡ r = cc in i)
  here_case t (bare s) r f e =
      let u : Some s ≡ Some r = sym f.0 ∙ e in
      by_test (has_original a s) refl ∙ ap (λ q. value_at a.now (from_backup a q)) (let i : s ≡ r = cc in i)
    where
      empty : a.now (game_spot t) ≡ none
      empty = ap (λ q. a.now (in_game q)) (sym (row_good a old n can (names_of t) s f.0).1) ∙ f.1

      by_test : (b : Bool) → has_original a s ≡ b → here_by (bare_set a s b) (a.now (game_spot t)) ≡ value_at a.now (if b then Some (backup_spot s.path) else None)
      by_test true e = refl
      by_test false e = empty

  pub here_at : (t : List ℕ) (r : Row) → IsFreePath t → row_at old.rows (names_of t) ≡ Some r → now (game_spot t) ≡ value_at a.now (from_backup a r)
  here_at t r good e = here_value t good ∙ here_case t (hold_of a old.rows (names_of t)) r (told_at a old n can (names_of t) _ refl) e

  here_now : (r : Row) → Contains old.rows r → now (game_spot r.path) ≡ value_at a.now (from_backup a r)
  here_now r c = here_at r.path r (row_free old.rows can.rows r c) (row-here old.rows r can.rows.rise c)

  -- its original
  pub restored_now : (r : Row) → Contains old.rows r → has_original a r ≡ true → HasFile (now (game_spot r.path))
  restored_now r c o =
      let f = file_true (a.now (backup_spot r.path)) (and_parts r.shadowed (is_file (a.now (backup_spot r.path))) o).1 in
      subst HasFile (sym (here_now r c ∙ ap (λ b. value_at a.now (cond b (Some (backup_spot r.path)) None)) o ∙ its_file (a.now (backup_spot r.path)) f)) f

  -- nothing
  pub emptied_now : (r : Row) → Contains old.rows r → has_original a r ≡ false → now (game_spot r.path) ≡ none
  emptied_now r c o = here_now r c ∙ ap (λ b. value_at a.now (cond b (Some (backup_spot r.path)) None)) o
