-- When a deployment has its plan.
use Rattle.std.proofs.Common.{◌≡◌, List, [], ◌∷◌, map, IfOk, OnOk, refl, subst}
use Rattle.std.specs.List.{AllByRecursion}
use Rattle.std.specs.Ordering.{nat_cmp}
use Rattle.std.specs.Cmp.Lexicographic.{slice_cmp}
use Rattle.std.specs.declared.cmp.Ordering.{Ordering}
use Rattle.std.specs.declared.cmp.Ordering.TheVariants.{Less, Equal, Greater}
use Rattle.std.specs.declared.option.Option.TheVariants.{Some}
use Rattle.std.specs.declared.result.Result.{Result}
use Rattle.std.specs.declared.result.Result.TheVariants.{Ok, Err}
use Rattle.list_laws.proofs.Alls.{all_map, all_weaken}
use Rattle.rel_paths.specs.Names.{IsFreePath}
use Rattle.list_laws.proofs.Orders.{text_tied}
use Rattle.tree_fs.specs.Disk.{Disk, IsValid, IsFile}
use Rattle.tree_fs.specs.declared.tree.TreeError.{TreeError}
use Rattle.tree_fs.specs.declared.tree.TreeError.TheVariants as tree
use Rattle.manifest_json.specs.declared.manifest.Row.{Row}
use Rattle.manifest_json.specs.declared.manifest.Manifest.{Manifest}
use Rattle.manifest_json.specs.Sound.{IsRow, AreRows, AreFolders}
use Rattle.move_plan.specs.declared.plan.Plan.{Plan}
use Rattle.move_plan.specs.Sound.{SoundPlan}
use Rattle.intent_json.specs.declared.intent.Phase.TheVariants as phase
use Rattle.desk_model.specs.Deployed.{Win, Deployed, won_spot}
use Rattle.desk_model.specs.Outcome.{outcome_by}
use Rattle.plan_model.specs.Rows.{old_of}
use Rattle.deploy_plan.specs.Errors.{of_tree}
use Rattle.deploy_plan.specs.Walk.{Step, row_alone, both, win_alone, by_order, with_row, merged}
use Rattle.deploy_plan.specs.Refusals.{HasNoChanges, NoRefusal, IsPlanRefusal}
use Rattle.deploy_plan.specs.Steps.{IsFreeStep, IsNotTurned}
use Rattle.deploy_plan.specs.Plans.{CanDeploy, DeployPlan}
use Rattle.deploy_plan.specs.Told.{IsWin, AreGoodWins, IsGoodStep}
use Rattle.deploy_plan.proofs.DeployLeads.{deploy_leads}
use Rattle.deploy_plan.proofs.DeploySound.{deploy_sound}
use Rattle.deploy_plan.proofs.Reasons.{walk_passes, none_turned}

-- The steps of good rows and good winners are good

steps_alone : (ws : List Win) → AllByRecursion IsWin ws → AllByRecursion IsGoodStep (map win_alone ws)
steps_alone [] h = tt
steps_alone (w ∷ ws) h = (h.0, steps_alone ws h.1)

module _ (r : Row) (good : IsRow r) (more : List Win → List Step) (rest : (ws : List Win) → AllByRecursion IsWin ws → AllByRecursion IsGoodStep (more ws)) where
  steps_with : (ws : List Win) → AllByRecursion IsWin ws → AllByRecursion IsGoodStep (with_row r more ws)
  steps_with [] h = (good, rest [] tt)
  steps_with (w ∷ ws) h = by_cmp (slice_cmp nat_cmp r.path w.path) refl (steps_with ws h.1)
    where
      by_cmp : (o : Ordering) → slice_cmp nat_cmp r.path w.path ≡ o → AllByRecursion IsGoodStep (with_row r more ws)
          → AllByRecursion IsGoodStep (by_order o (row_alone r ∷ more (w ∷ ws)) (both r w ∷ more ws) (win_alone w ∷ with_row r more ws))
      by_cmp Less e later = (good, rest (w ∷ ws) h)
      by_cmp Equal e later = ((good, h.0, text_tied r.path w.path e), rest ws h.1)
      by_cmp Greater e later = (h.0, later)

pub good_steps : (rows : List Row) (ws : List Win) → AllByRecursion IsRow rows → AllByRecursion IsWin ws → AllByRecursion IsGoodStep (merged rows ws)
unfolding merged
good_steps [] ws old h = steps_alone ws h
good_steps (r ∷ rows) ws old h = steps_with r old.0 (merged rows) (λ vs k. good_steps rows vs old.1 k) ws h

module _ (a : Disk) (old : Manifest) (wins : List Win) where
  pub can_deploy : IsValid a → AreRows old.rows → AreFolders old.folders → AreGoodWins wins → AllByRecursion (λ w. IsFile a (won_spot w)) wins → HasNoChanges a old.rows
      → AllByRecursion (IsNotTurned old.rows) (merged old.rows wins) → AllByRecursion (IsFreeStep a) (merged old.rows wins) → CanDeploy a old wins
  can_deploy valid rows own good staged clean turned free = record {
    valid = valid;
    rows = rows;
    own = own;
    won = record { good = all_map IsFreePath (λ (w : Win). w.path) wins (all_weaken IsWin (λ w. IsFreePath w.path) wins (λ w h. h.path) good.each); rise = good.rise; apart = good.apart; staged = staged };
    passes = record { changes = clean; turned = none_turned a old.rows wins rows good.rise turned; walk = walk_passes a old.rows wins rows good.rise free };
  }

  pub plan_passes : {E : Type 0} (r : Result Plan E) → OnOk r (CanDeploy a old wins) → OnOk r (NoRefusal a old.rows wins)
  plan_passes (Ok plan) can = can.passes
  plan_passes (Err e) can = tt

  pub plan_sound : {E : Type 0} (r : Result Plan E) → OnOk r (CanDeploy a old wins) → IfOk r (DeployPlan a old wins) → IfOk r (SoundPlan a)
  plan_sound (Ok plan) can is = deploy_sound a old wins can plan is
  plan_sound (Err e) can is = tt

  pub plan_leads : {E : Type 0} (r : Result Plan E) → OnOk r (CanDeploy a old wins) → IfOk r (DeployPlan a old wins) → old ≡ old_of a
      → IfOk r (λ plan. Deployed a wins (outcome_by a (Some (record { phase = phase.Set; plan = plan }))))
  plan_leads (Ok plan) can is own = deploy_leads a wins (subst (λ m. CanDeploy a m wins) own can) plan (subst (λ m. DeployPlan a m wins plan) own is)
  plan_leads (Err e) can is own = tt

  pub by_tree : (rows : List Row) (e : TreeError) → IsPlanRefusal a rows wins (of_tree e)
  by_tree rows tree.Failed = tt
  by_tree rows tree.Memory = tt
