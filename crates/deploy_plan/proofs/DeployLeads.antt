-- The plan of a deployment leads to its desk.
use Rattle.deploy_plan.proofs.NextRows.{next_paths}
use Rattle.deploy_plan.proofs.Gets.{gets}
use Rattle.manifest_json.specs.declared.manifest.Manifest.{Manifest}
use Rattle.std.proofs.Common.{◌≡◌, List, map, refl, sym, ap, ◌∙◌, subst}
use Rattle.std.specs.List.{Contains}
use Rattle.rel_paths.specs.Names.{names_of}
use Rattle.tree_fs.specs.Spot.{Spot}
use Rattle.tree_fs.specs.Places.{game_spot}
use Rattle.tree_fs.specs.Disk.{Disk, Value}
use Rattle.list_laws.proofs.Containing.{contains_map}
use Rattle.manifest_json.specs.declared.manifest.Row.{Row}
use Rattle.move_plan.specs.declared.plan.Plan.{Plan}
use Rattle.desk_model.specs.Desk.{without_manifest, plain, found, desk_of}
use Rattle.desk_model.specs.Records.{rows_of, own_of}
use Rattle.desk_model.specs.Deployed.{Win, Deployed}
use Rattle.deploy_plan.specs.Cases.{next_row}
use Rattle.desk_model.specs.Outcome.{updated, recorded_or_none, planned}
use Rattle.plan_model.specs.Rows.{old_of}
use Rattle.plan_model.specs.Folders.{OwnLaidOut}
use Rattle.deploy_plan.specs.Plans.{CanDeploy, DeployPlan}
use Rattle.plan_model.proofs.Values.{HasFile}
use Rattle.plan_model.proofs.Firsts.{Rises, win-here}
use Rattle.deploy_plan.proofs.Told.{won_path, new_rows, win_facts}
use Rattle.deploy_plan.proofs.Kept.{seen_here}
use Rattle.deploy_plan.proofs.Plain.{plain_same}
use Rattle.deploy_plan.proofs.Found.{won_value, found_same, staged_seen, aside_seen}
use Rattle.plan_model.proofs.FolderRules.{folder_rule, own_rule}

module _ (a : Disk) (wins : List Win) (can : CanDeploy a (old_of a) wins) (plan : Plan) (is : DeployPlan a (old_of a) wins plan) where
  abbrev old : Manifest
  old = old_of a

  abbrev now : Spot → Value
  now = updated plan a.now

  rows_are : rows_of (recorded_or_none plan.manifest) ≡ new_rows a old.rows wins
  rows_are = ap (λ m. rows_of (recorded_or_none m)) is.is_manifest ∙ is.rows

  own_are : own_of (recorded_or_none plan.manifest) ≡ is.manifest.folders
  own_are = ap (λ m. own_of (recorded_or_none m)) is.is_manifest

  rise : Rises (map (λ (r : Row). r.path) (rows_of (recorded_or_none plan.manifest)))
  rise = subst (λ rows. Rises (map (λ (r : Row). r.path) rows)) (sym rows_are) (subst Rises (sym (next_paths a old.rows wins wins)) can.won.rise)

  files : (r : Row) → Contains (rows_of (recorded_or_none plan.manifest)) r → HasFile (without_manifest now (game_spot r.path))
  files r c =
      let m = contains_map (next_row a old.rows) wins r (subst (λ rows. Contains rows r) rows_are c) in
      let won = win-here wins m.0 can.won.rise m.1 in
      let f = win_facts a old wins can (names_of m.0.path) m.0 won in
      let path : m.0.path ≡ r.path = sym (won_path a old.rows wins m.0) ∙ ap (λ (x : Row). x.path) m.2 in
      subst (λ q. HasFile (without_manifest now (game_spot q))) path
      (subst HasFile (sym (seen_here a old wins can plan is.moves m.0.path f.good now ∙ won_value a old wins can plan is.moves m.0 won)) f.staged)

  -- the outcome of the plan is the deployment
  pub deploy_leads : Deployed a wins (desk_of (planned a plan))
  deploy_leads = record {
    plain = ap (λ rows. plain rows (without_manifest now)) rows_are ∙ (λ i p. plain_same a old wins can plan is.moves p i);
    manifest = is.manifest;
    is_manifest = ap recorded_or_none is.is_manifest;
    rows = is.rows;
    found = λ p. ap (λ rows. found rows (without_manifest now) p) rows_are ∙ found_same a old wins can plan is.moves p;
    staged = λ i p. staged_seen a old wins can plan is.moves p i;
    aside = λ i p. aside_seen a old wins can plan is.moves p i;
    profile = refl;
    folders = folder_rule a can.valid plan rise files (gets a old wins can plan is.moves) is.folders;
    own = own_rule a can.valid plan rise files (gets a old wins can plan is.moves) is.folders (subst (OwnLaidOut a old.folders plan) (sym own_are) is.own);
    bytes = λ n named. refl;
  }
