-- Plans that move nothing.
use Rattle.std.specs.Prelude.{◌≡◌, []}
use Rattle.std.specs.declared.option.Option.{Option}
use Rattle.manifest_json.specs.declared.manifest.Manifest.{Manifest}
use Rattle.move_plan.specs.declared.plan.Plan.{Plan}

-- the plan moves nothing, and its manifest is this one
pub record IsIdle (plan : Plan) (there : Option Manifest) : Type 0 where
  pub no_saves : plan.saves ≡ []
  pub no_sets : plan.sets ≡ []
  pub no_clears : plan.clears ≡ []
  pub none_off : plan.folders_off ≡ []
  pub manifest : plan.manifest ≡ there
