-- A settlement, as a step.
use Rattle.std.proofs.Common.{◌≡◌, ◌⊎◌, [], ◌∷◌, refl, ap, inl, inr, subst}
use Rattle.std.specs.declared.result.Result.TheVariants.{Ok}
use Rattle.tree_fs.specs.Story.{Story, disk_of}
use Rattle.change_choices.specs.declared.choices.Choices.{Choices}
use Rattle.change_choices.specs.Choice.{choice}
use Rattle.manifest_json.specs.declared.manifest.Manifest.{Manifest}
use Rattle.move_plan.specs.declared.plan.Plan.{Plan}
use Rattle.desk_model.specs.Records.{rows_on}
use Rattle.plan_model.specs.Rows.{old_of}
use Rattle.change_settle.specs.declared.error.SettleError.{SettleError}
use Rattle.change_settle.specs.declared.error.SettleError.TheVariants.{Blocked, AsideFull, Failed, Memory}
use Rattle.change_settle.specs.Plans.{IsSettlePlan}
use Rattle.change_settle.specs.Refusals.{NoRefusal, IsRefusal, IsSettleRefusal}
use Rattle.command_steps.specs.declared.limits.Limits.{Limits}
use Rattle.command_steps.specs.Stops.{IsFault, settle_stop}
use Rattle.command_steps.specs.Plans.{HasSettlePlan}
use Rattle.command_steps.specs.Steps.{settled}
use Rattle.command_steps.specs.Orders.{IsWhy, Takes}

settle_told : (e : SettleError) → IsRefusal e ⊎ IsFault (settle_stop e)
settle_told (Blocked place) = inl tt
settle_told AsideFull = inl tt
settle_told Failed = inr tt
settle_told Memory = inr tt

module _ (choices : Choices) (limits : Limits) (s t : Story) (old : Manifest) (stays : t ≡ s) (is_old : old ≡ old_of (disk_of s)) where
  settle_rows : old.rows ≡ rows_on (disk_of s)
  settle_rows = ap (λ (m : Manifest). m.rows) is_old

  pub settle_why : (e : SettleError) → IsSettleRefusal (choice choices) (disk_of s) old.rows e → IsWhy (settled choices ∷ []) limits s (settle_stop e) t
  settle_why e refused = elim (settle_told e) [
    | inl told ↦ record { why = inr (inl ((e, told, subst (λ r. IsSettleRefusal (choice choices) (disk_of s) r e) settle_rows refused, refl), stays)) }
    | inr fault ↦ record { why = inl fault }
  ]

  pub settle_passes : (plan : Plan) → IsSettlePlan (choice choices) (disk_of s) old plan → NoRefusal (choice choices) (disk_of s) old.rows → Takes (settled choices ∷ []) limits s t (HasSettlePlan choices (disk_of s)) (Ok plan)
  settle_passes plan is open_way = record {
    passed = record {
      all = (subst (NoRefusal (choice choices) (disk_of s)) settle_rows open_way, tt);
      story = stays;
      gives = subst (λ m. IsSettlePlan (choice choices) (disk_of s) m plan) is_old is;
    };
    stopped = tt;
  }
