use Rattle.std.proofs.Common.{refl, true≢false, sym, ◌∙◌}
use Rattle.deploy_plan.proofs.Turning.{turned_above, turned_by_folder}
use Rattle.deploy_plan.proofs.turned.is_turned.Goals as goal

pub returns-then-lies_below : goal.returns-then-lies_below
returns-then-lies_below c = (λ t. turned_above c.args.rows.now c.args.path.now (c.lies_below.ensures.0 c.if-lies_below.true), λ is. refl)

pub returns : goal.returns
returns c = turned_by_folder c.args.rows.now c.args.path.now c.has_below.result (λ h. true≢false (sym (c.lies_below.ensures.1 h) ∙ c.if-lies_below.false)) c.has_below.ensures
