-- What a deployment did, with what it saved and without.
use Rattle.std.proofs.Common.{◌≡◌, ℕ, false, sym, subst}
use Rattle.std.specs.Result.{IsErr, IsErrAnd}
use Rattle.std.specs.declared.result.Result.{Result}
use Rattle.std.specs.declared.result.Result.TheVariants.{Ok, Err}
use Rattle.tree_fs.specs.Story.{Story}
use Rattle.command_steps.specs.declared.limits.Limits.{Limits}
use Rattle.command_steps.specs.declared.stop.Stop.{Stop}
use Rattle.command_steps.specs.Orders.{after_steps}
use Rattle.command_steps.proofs.Orders.{handed_on}
use Rattle.deploy_engine.specs.declared.commands.deploy.Deployment.{Deployment}
use Rattle.deploy_engine.specs.Works.{course}
use Rattle.deploy_engine.specs.Carried.{Carried}
use Rattle.deploy_engine.specs.DeployWork.{deploy_work}
use Rattle.deploy_engine.specs.Tours.{HasSaves, Deploys}

-- it stopped, and a `?` hands that on
pub not_deployed : {limits : Limits} {old new : Story} {r : Result Deployment Stop} {e : Stop} → IsErr r × IsErrAnd r (λ x. x ≡ e) → Carried deploy_work limits old new (Err e) → Deploys limits old new r
not_deployed {limits = limits} {old = old} {new = new} {r = r} {e = e} is carried = subst (Deploys limits old new) (sym (handed_on r e is)) (record { did = tt; saves = tt; stopped = carried.stopped; moves = carried.moves })

-- what was saved, told of the story behind the steps
pub saves_behind : {old base new : Story} {n : ℕ} → base ≡ after_steps deploy_work.steps old → HasSaves (record { start = old; base = base; end = new }) n → HasSaves (course deploy_work old new) n
saves_behind {old = old} {new = new} {n = n} behind saves = subst (λ s. HasSaves (record { start = old; base = s; end = new }) n) behind saves

-- it did its work
pub is_deployed : {limits : Limits} {old new : Story} (d : Deployment) → Carried deploy_work limits old new (Ok (record { lines = d.lines; changes = false })) → HasSaves (course deploy_work old new) d.saves → Deploys limits old new (Ok d)
is_deployed d carried saves = record { did = carried.did; saves = saves; stopped = tt; moves = carried.moves }

-- and without what it saved
pub carried_err : {limits : Limits} {old new : Story} {e : Stop} → Deploys limits old new (Err e) → Carried deploy_work limits old new (Err e)
carried_err is = record { did = tt; stopped = is.stopped; moves = is.moves; quiet = λ looks. absurd looks }

pub carried_ok : {limits : Limits} {old new : Story} (d : Deployment) → Deploys limits old new (Ok d) → Carried deploy_work limits old new (Ok (record { lines = d.lines; changes = false }))
carried_ok d is = record { did = is.did; stopped = tt; moves = is.moves; quiet = λ looks. absurd looks }
