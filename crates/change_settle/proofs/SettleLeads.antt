-- The plan of a settlement leads to its desk.
use Rattle.std.proofs.Common.{◌≡◌, ℕ, if◌then◌else◌, map, refl, sym, ap, ◌∙◌, subst}
use Rattle.std.specs.List.{Contains}
use Rattle.std.specs.declared.option.Option.{Option}
use Rattle.std.specs.declared.option.Option.TheVariants.{None, Some}
use Rattle.tree_fs.specs.declared.place.Root.TheVariants.{Stage, Keep}
use Rattle.tree_fs.specs.Spot.{Spot, spot_eq}
use Rattle.tree_fs.specs.Places.{game_spot}
use Rattle.tree_fs.specs.Disk.{Disk, Value}
use Rattle.manifest_json.specs.declared.manifest.Row.{Row}
use Rattle.manifest_json.specs.declared.manifest.Manifest.{Manifest}
use Rattle.move_plan.specs.declared.plan.Plan.{Plan}
use Rattle.desk_model.specs.Places.{Names, in_game, in_stage}
use Rattle.desk_model.specs.Desk.{without_manifest, plain, found, found_by, file_or_none, desk_of}
use Rattle.desk_model.specs.Records.{rows_of, own_of, row_at, row_staged}
use Rattle.desk_model.specs.Outcome.{updated, recorded_or_none, planned}
use Rattle.desk_model.specs.Settled.{Choice, deed_of, restages, settled_found, settled_staged, Settled}
use Rattle.desk_model.proofs.Sourced.{row_staged-some}
use Rattle.plan_model.specs.Rows.{old_of}
use Rattle.plan_model.specs.Moves.{Moves}
use Rattle.plan_model.specs.Folders.{OwnLaidOut}
use Rattle.plan_model.proofs.Values.{HasFile, its_file}
use Rattle.plan_model.proofs.Moved.{moved-else}
use Rattle.plan_model.proofs.Firsts.{Rises, row-some}
use Rattle.plan_model.proofs.FolderRules.{folder_rule, own_rule}
use Rattle.change_settle.specs.Deeds.{at_row, stage_move, settle_moves, next_row, next_rows}
use Rattle.change_settle.specs.Plans.{CanSettle, SettlePlan}
use Rattle.change_settle.proofs.Premises.{free_path}
use Rattle.change_settle.proofs.NextRows.{next_at, next_from, next_renews, next_kept}
use Rattle.change_settle.proofs.Kept.{users_unsaved, stage_uncleared, stays, leaves, leaving_value, staged_value}
use Rattle.change_settle.proofs.Plain.{plain_same, seen_here}
use Rattle.change_settle.proofs.AsideSeen.{aside_seen}
use Rattle.change_settle.proofs.Gets.{gets_file}

module _ (choice : Choice) (a : Disk) (n : ℕ) (can : CanSettle choice a (old_of a) n) (plan : Plan) (is : SettlePlan choice a (old_of a) n plan) where
  abbrev old : Manifest
  old = old_of a

  abbrev m : Moves
  m = settle_moves choice a old.rows n

  abbrev now : Spot → Value
  now = updated plan a.now

  rows_are : rows_of (recorded_or_none plan.manifest) ≡ next_rows choice a old.rows
  rows_are = ap (λ m. rows_of (recorded_or_none m)) is.is_manifest ∙ is.rows

  own_are : own_of (recorded_or_none plan.manifest) ≡ is.manifest.folders
  own_are = ap (λ m. own_of (recorded_or_none m)) is.is_manifest

  rise : Rises (map (λ (r : Row). r.path) (rows_of (recorded_or_none plan.manifest)))
  rise = subst (λ rows. Rises (map (λ (r : Row). r.path) rows)) (sym rows_are) (next_kept choice a old.rows can.rows).rise

  its_place : (r : Row) → Contains old.rows r → without_manifest now (game_spot r.path) ≡ now (game_spot r.path)
  its_place r c = seen_here r.path now (free_path choice a old n can r c)

  files : (r : Row) → Contains (rows_of (recorded_or_none plan.manifest)) r → HasFile (without_manifest now (game_spot r.path))
  files made c =
      let f = next_from choice a old.rows made (subst (λ rows. Contains rows made) rows_are c) in
      subst (λ q. HasFile (without_manifest now (game_spot q))) (sym (next_renews choice a f.0 made f.2).path)
      (subst HasFile (sym (its_place f.0 f.1)) (stays choice a old n can plan is.moves f.0 made f.1 f.2).file)

  -- the files that are found
  found_seen : (p : Names) → found (next_rows choice a old.rows) (without_manifest now) p ≡ settled_found choice a (row_at old.rows p)
  unfolding found
  found_seen p = by_row (row_at old.rows p) refl
    where
      of_row : (r : Row) → Contains old.rows r → (o : Option Row) → next_row choice a r ≡ o → found_by o (without_manifest now (game_spot r.path)) ≡ settled_found choice a (Some r)
      of_row r c None e = sym (leaving_value choice a old n can plan is.moves r (leaves choice a old n can plan is.moves r e))
      of_row r c (Some made) e =
          let s = stays choice a old n can plan is.moves r made c e in
          ap file_or_none (its_place r c) ∙ its_file (now (game_spot r.path)) s.file ∙ s.value

      by_row : (o : Option Row) → row_at old.rows p ≡ o → found_by (row_at (next_rows choice a old.rows) p) (without_manifest now (in_game p)) ≡ settled_found choice a o
      by_row None e = ap (λ o. found_by o (without_manifest now (in_game p))) (next_at choice a old.rows can.rows p None e)
      by_row (Some r) e =
          let f = row-some old.rows p r e in
          ap (λ o. found_by o (without_manifest now (in_game p))) (next_at choice a old.rows can.rows p (Some r) e)
          ∙ ap (λ q. found_by (next_row choice a r) (without_manifest now (in_game q))) (sym f.1)
          ∙ of_row r f.0 (next_row choice a r) refl

  -- the staged files
  stage_same : (p : Names) → now (in_stage p) ≡ settled_staged choice a (a.now (in_stage p)) (row_staged old.rows p)
  stage_same p = by_row (row_staged old.rows p) refl
    where
      not_keep : Stage ≡ Keep → ⊥
      not_keep e = cc

      by_row : (o : Option Row) → row_staged old.rows p ≡ o → now (in_stage p) ≡ settled_staged choice a (a.now (in_stage p)) o
      by_row None e = moved-else m plan is.moves a.now (in_stage p) (ap (at_row choice a (stage_move n)) e) (stage_uncleared choice a old n can plan is.moves (in_stage p) refl) (λ y. users_unsaved choice a old n can plan is.moves (in_stage p) y not_keep)
      by_row (Some r) e =
          let f = row_staged-some old.rows p r e in
          subst (λ q. now (in_stage q) ≡ (if restages (deed_of choice a r) then a.now (game_spot r.path) else a.now (in_stage q))) f.1 (staged_value choice a old n can plan is.moves r f.0)

  staged_seen : (p : Names) → without_manifest now (in_stage p) ≡ settled_staged choice a (without_manifest a.now (in_stage p)) (row_staged old.rows p)
  unfolding without_manifest spot_eq
  staged_seen p = stage_same p

  -- the outcome of the plan is the settlement
  pub settle_leads : Settled a choice (desk_of (planned a plan))
  settle_leads = record {
    plain = ap (λ rows. plain rows (without_manifest now)) rows_are ∙ (λ i p. plain_same choice a old n can plan is.moves p i);
    manifest = is.manifest;
    is_manifest = ap recorded_or_none is.is_manifest;
    rows = is.rows;
    found = λ p. ap (λ rows. found rows (without_manifest now) p) rows_are ∙ found_seen p;
    staged = staged_seen;
    aside = aside_seen choice a n can plan is.moves;
    profile = refl;
    folders = folder_rule a can.valid plan rise files (gets_file choice a old n can plan is.moves) is.folders;
    own = own_rule a can.valid plan rise files (gets_file choice a old n can plan is.moves) is.folders (subst (OwnLaidOut a old.folders plan) (sym own_are) is.own);
    bytes = λ k named. refl;
  }
