-- What the plan of a deployment does at a place.
use Rattle.std.proofs.Common.{◌≡◌, Bool, true, false, cond, List, refl, sym, ap, ◌∙◌, subst, inl, inr}
use Rattle.std.specs.List.{Contains}
use Rattle.std.specs.declared.option.Option.{Option}
use Rattle.std.specs.declared.option.Option.TheVariants.{None, Some}
use Rattle.std.proofs.lemmas.Bool.{and_parts}
use Rattle.rel_paths.specs.Names.{names_of}
use Rattle.tree_fs.specs.declared.place.Place.{Place}
use Rattle.tree_fs.specs.Spot.{Spot, spot_of}
use Rattle.tree_fs.specs.Places.{game_spot}
use Rattle.tree_fs.specs.Disk.{Disk, Value, none}
use Rattle.backup_keep.specs.Places.{backup_spot}
use Rattle.manifest_json.specs.declared.manifest.Row.{Row}
use Rattle.manifest_json.specs.declared.manifest.Manifest.{Manifest}
use Rattle.change_detect.specs.Classes.{staged_of}
use Rattle.move_plan.specs.declared.plan.Plan.{Plan}
use Rattle.move_plan.specs.Places.{IsDestination}
use Rattle.desk_model.specs.Places.{in_game}
use Rattle.desk_model.specs.Desk.{is_file, file_or_none}
use Rattle.desk_model.specs.Deployed.{Win, won_spot}
use Rattle.desk_model.specs.Outcome.{save_to, is_one_of, updated, own_or}
use Rattle.desk_model.proofs.Lookups.{save_to-some, save_to-none, one_of-false, one_of-true}
use Rattle.plan_model.specs.Rows.{has_original, from_backup}
use Rattle.plan_model.specs.Moves.{Move, Moves, LaidOut}
use Rattle.plan_model.proofs.Values.{HasFile, file_true, its_file}
use Rattle.plan_model.proofs.Moved.{value_at, moved-clear, moved-set, moved-else, set-moved}
use Rattle.deploy_plan.specs.Cases.{Case, untouched, leaves, stays, turns, comes, covers, case_of, set_by, Covers, Frees, deploy_moves}
use Rattle.deploy_plan.specs.Plans.{CanDeploy}
use Rattle.deploy_plan.proofs.Told.{Told, told_at, row_facts, win_facts}
use Rattle.deploy_plan.proofs.Kept.{behind_value}
use Rattle.deploy_plan.proofs.Sets.{SetCase, set_case, set_tells}

module _ (a : Disk) (old : Manifest) (wins : List Win) (can : CanDeploy a old wins) (plan : Plan) (laid : LaidOut (deploy_moves a old.rows wins) plan) where
  abbrev m : Moves
  m = deploy_moves a old.rows wins

  abbrev now : Spot → Value
  now = updated plan a.now

  pub data Acts (x : Spot) : Type 0 where
    clears : Frees a old.rows wins x → now x ≡ none → Acts x
    -- a row's file goes, and no original comes
    empties : (r : Row) → case_of a old.rows wins (names_of r.path) ≡ leaves r → has_original a r ≡ false → game_spot r.path ≡ x → now x ≡ none → Acts x
    -- its original comes
    restores : HasFile (a.now x) → HasFile (now x) → Acts x
    places : (w : Win) → Contains wins w → game_spot w.path ≡ x → HasFile (now x) → Acts x
    keeps : (w : Win) → case_of a old.rows wins (names_of w.path) ≡ covers w → backup_spot w.path ≡ x → (a.now x ≡ none → HasFile (now x)) → Acts x
    nothing : now x ≡ a.now x → ¬ IsDestination plan x → Acts x

  pub acts : (x : Spot) → Acts x
  acts x = by_clear (is_one_of plan.clears x) refl
    where
      by_original : (r : Row) (v : Move) (b : Bool) → has_original a r ≡ b → case_of a old.rows wins (names_of r.path) ≡ leaves r → game_spot r.path ≡ x → HasFile (a.now x) → from_backup a r ≡ v.from → now x ≡ value_at a.now v.from → Acts x
      by_original r v true e case here deployed from is =
          let kept : HasFile (a.now (backup_spot r.path)) = file_true (a.now (backup_spot r.path)) (and_parts r.shadowed (is_file (a.now (backup_spot r.path))) e).1 in
          let source : v.from ≡ Some (backup_spot r.path) = sym from ∙ ap (λ b. cond b (Some (backup_spot r.path)) None) e in
          restores deployed (subst HasFile (sym (is ∙ ap (value_at a.now) source ∙ its_file (a.now (backup_spot r.path)) kept)) kept)
      by_original r v false e case here deployed from is =
          let source : v.from ≡ None = sym from ∙ ap (λ b. cond b (Some (backup_spot r.path)) None) e in
          empties r case e here (is ∙ ap (value_at a.now) source)

      by_win : (w : Win) (v : Move) → Contains wins w → game_spot w.path ≡ x → HasFile (a.now (won_spot w)) → v.from ≡ Some (won_spot w) → now x ≡ value_at a.now v.from → Acts x
      by_win w v c here staged from is = places w c here (subst HasFile (sym (is ∙ ap (value_at a.now) from ∙ its_file (a.now (won_spot w)) staged)) staged)

      by_case : (v : Move) (c : Case) → case_of a old.rows wins x.names ≡ c → Told a old.rows wins x.names c → in_game x.names ≡ x → set_by a c ≡ Some v → now x ≡ value_at a.now v.from → Acts x
      by_case v untouched at h here s is = absurd (cc)
      by_case v (leaves r) at h here s is =
          let f = row_facts a old wins can x.names r h.0 in
          let move : record { from = from_backup a r; back = Some (staged_of r) } ≡ v = cc in
          by_original r v (has_original a r) refl (ap (case_of a old.rows wins) f.here ∙ at) (ap in_game f.here ∙ here) (subst HasFile (ap a.now here) f.deployed) (ap (λ (u : Move). u.from) move) is
      by_case v (stays r) at h here s is = absurd (cc)
      by_case v (turns r w) at h here s is =
          let f = win_facts a old wins can x.names w h.1 in
          let move : record { from = Some (won_spot w); back = Some (staged_of r) } ≡ v = cc in
          by_win w v f.listed (ap in_game f.here ∙ here) f.staged (ap (λ (u : Move). u.from) (sym move)) is
      by_case v (comes w) at h here s is =
          let f = win_facts a old wins can x.names w h.1 in
          let move : record { from = Some (won_spot w); back = None } ≡ v = cc in
          by_win w v f.listed (ap in_game f.here ∙ here) f.staged (ap (λ (u : Move). u.from) (sym move)) is
      by_case v (covers w) at h here s is =
          let f = win_facts a old wins can x.names w h.1 in
          let move : record { from = Some (won_spot w); back = Some (backup_spot w.path) } ≡ v = cc in
          by_win w v f.listed (ap in_game f.here ∙ here) f.staged (ap (λ (u : Move). u.from) (sym move)) is

      by_set_case : (v : Move) → SetCase a old.rows wins x v → now x ≡ value_at a.now v.from → Acts x
      by_set_case v (set_case c at here s) is = by_case v c at (told_at a old.rows wins x.names c at) here s is

      by_cover : (s : Place × Place) → Covers a old.rows wins (spot_of s.0) x → Acts x
      by_cover s h =
          let t = told_at a old.rows wins (names_of h.win.path) (covers h.win) h.case in
          let here = file_true (a.now (game_spot h.win.path)) t.2 in
          keeps h.win h.case h.here
          (λ free. subst HasFile (sym (ap now (sym h.here) ∙ behind_value a old wins can plan laid h.win.path (covers h.win) h.case ∙ ap (λ v. own_or v (file_or_none (a.now (game_spot h.win.path)))) (ap a.now h.here ∙ free) ∙ its_file (a.now (game_spot h.win.path)) here)) here)

      by_save : (o : Option (Place × Place)) → save_to plan.saves x ≡ o → m.sets x ≡ None → ¬ Frees a old.rows wins x → Acts x
      by_save None e unset kept = nothing (moved-else m plan laid a.now x unset kept (λ y c. let h = (laid.saves y x).1 c in save_to-none plan.saves x h.save e h.listed h.here))
          (λ to. elim to [
            | inl set ↦ (let s = set-moved m plan laid a.now x set in let no : None ≡ Some s.0 = sym unset ∙ s.1 in absurd (cc))
            | inr saved ↦ save_to-none plan.saves x saved.save e saved.listed saved.here
          ])
      by_save (Some s) e unset kept =
          let f = save_to-some plan.saves x s e in
          by_cover s ((laid.saves (spot_of s.0) x).0 (record { save = s; listed = f.0; source = refl; here = f.1 }))

      by_set : (o : Option Move) → m.sets x ≡ o → ¬ Frees a old.rows wins x → Acts x
      by_set None e kept = by_save (save_to plan.saves x) refl e kept
      by_set (Some v) e kept = by_set_case v (set_tells a old.rows wins x v e) (moved-set m plan laid a.now x v e kept)

      by_clear : (b : Bool) → is_one_of plan.clears x ≡ b → Acts x
      by_clear true e = let f = (laid.clears x).0 (one_of-true plan.clears x e) in clears f (moved-clear m plan laid a.now x f)
      by_clear false e = by_set (m.sets x) refl (λ f. one_of-false plan.clears x e ((laid.clears x).1 f))
