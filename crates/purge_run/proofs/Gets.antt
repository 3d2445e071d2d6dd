-- A destination of a purge where nothing stood gets a file, so no made folder goes.
use Rattle.purge_run.proofs.Sets.{set_tells, HoldCase, hold_case}
use Rattle.plan_model.specs.Rows.{has_original}
use Rattle.manifest_json.specs.declared.manifest.Manifest.{Manifest}
use Rattle.purge_run.specs.Holds.{bare_set, Hold, unheld, linked, over, bare, purge_set, FreesOriginal, purge_moves}
use Rattle.std.proofs.Common.{◌≡◌, ℕ, Bool, true, false, refl, sym, ap, ◌∙◌, inl, inr, subst}
use Rattle.std.specs.declared.option.Option.TheVariants.{None, Some}
use Rattle.rel_paths.specs.Names.{names_of, IsFreePath}
use Rattle.rel_paths.proofs.Truths.{both}
use Rattle.tree_fs.specs.Spot.{Spot}
use Rattle.tree_fs.specs.Places.{game_spot}
use Rattle.tree_fs.specs.Disk.{Disk, Value, none}
use Rattle.manifest_json.specs.declared.manifest.Row.{Row}
use Rattle.move_plan.specs.declared.plan.Plan.{Plan}
use Rattle.move_plan.specs.Places.{IsDestination}
use Rattle.backup_keep.specs.Places.{backup_spot}
use Rattle.desk_model.specs.Places.{in_game, IsUsers}
use Rattle.desk_model.specs.Desk.{is_file}
use Rattle.desk_model.specs.Outcome.{updated}
use Rattle.plan_model.specs.Moves.{Move, LaidOut}
use Rattle.purge_run.specs.Plans.{CanPurge}
use Rattle.plan_model.proofs.Values.{HasFile, its_file, file_some, file_true}
use Rattle.plan_model.proofs.Moved.{value_at, moved-set, set-moved, save-moved}
use Rattle.purge_run.proofs.Held.{Found, told_at, row_good, path_kept}
use Rattle.plan_model.specs.Folders.{IsOwnFolder, GoesOff}
use Rattle.plan_model.proofs.GoesBy.{only_own}

module _ (a : Disk) (old : Manifest) (n : ℕ) (can : CanPurge a old n) (plan : Plan) (laid : LaidOut (purge_moves a old.rows n) plan) where
  abbrev now : Spot → Value
  now = updated plan a.now

  -- a destination where nothing stood gets a file
  pub gets_file : (y : Spot) → IsUsers y.root → IsDestination plan y → a.now y ≡ none → HasFile (now y)
  gets_file y users (inl set) free =
      let m = set-moved (purge_moves a old.rows n) plan laid a.now y set in by_set m.0 m.1 (set_tells a old.rows n y m.0 m.1)
    where
      stood : (r : Row) → in_game y.names ≡ y → names_of r.path ≡ y.names → HasFile (a.now (game_spot r.path)) → HasFile (now y)
      stood r here named f = absurd (file_some (a.now (game_spot r.path)) f (ap (λ q. a.now (in_game q)) named ∙ ap a.now here ∙ free))

      from_its : (v : Move) (r : Row) (b : Bool) → (purge_moves a old.rows n).sets y ≡ Some v → in_game y.names ≡ y → IsFreePath r.path × (names_of r.path ≡ y.names) → has_original a r ≡ b → bare_set a r b ≡ Some v → HasFile (now y)
      from_its v r false e here g o s = absurd (cc)
      from_its v r true e here g o s =
          let f = file_true (a.now (backup_spot r.path)) (both r.shadowed (is_file (a.now (backup_spot r.path))) o).1 in
          let same : record { from = Some (backup_spot r.path); back = None } ≡ v = cc in
          subst HasFile (sym (moved-set (purge_moves a old.rows n) plan laid a.now y v e (λ h. path_kept a old n can r.path g.0 (subst (FreesOriginal a old.rows) (sym (ap in_game g.1 ∙ here)) h))
          ∙ ap (λ (u : Move). value_at a.now u.from) (sym same) ∙ its_file (a.now (backup_spot r.path)) f)) f

      by_hold : (v : Move) (h : Hold) → (purge_moves a old.rows n).sets y ≡ Some v → in_game y.names ≡ y → Found a old.rows y.names h → purge_set a n h ≡ Some v → HasFile (now y)
      by_hold v unheld e here f s = absurd (cc)
      by_hold v (linked r) e here f s = stood r here (row_good a old n can y.names r f.0).1 f.1
      by_hold v (over r) e here f s = stood r here (row_good a old n can y.names r f.0).1 f.1
      by_hold v (bare r) e here f s = from_its v r (has_original a r) e here (row_good a old n can y.names r f.0) refl s

      by_set : (v : Move) → (purge_moves a old.rows n).sets y ≡ Some v → HoldCase a old.rows n y v → HasFile (now y)
      by_set v e (hold_case h at here s) = by_hold v h e here (told_at a old n can y.names h at) s
  gets_file y users (inr save) free = let m = save-moved (purge_moves a old.rows n) plan laid a.now y save in absurd (subst IsUsers (sym (ap (λ (s : Spot). s.root) m.1.here)) users)

  pub only_own_goes : (s : Spot) → GoesOff a old.folders plan s → IsOwnFolder a old.folders s
  only_own_goes s g = only_own a old.folders can.valid plan gets_file s g
