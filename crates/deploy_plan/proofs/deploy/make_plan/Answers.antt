use Rattle.std.proofs.Common.{IfOk, OnOk, Some, map, sym, ap, ◌∙◌, subst}
use Rattle.tree_fs.specs.Story.{disk_of}
use Rattle.intent_json.specs.declared.intent.Phase.TheVariants as phase
use Rattle.desk_model.specs.Deployed.{Deployed}
use Rattle.desk_model.specs.Outcome.{outcome_by}
use Rattle.deploy_plan.specs.Refusals.{NoRefusal}
use Rattle.deploy_plan.specs.Told.{AreGoodWins, win_seen}
use Rattle.deploy_plan.proofs.Deploys.{plan_passes, plan_sound, plan_leads}
use Rattle.deploy_plan.proofs.GoodWins.{good_wins}
use Rattle.deploy_plan.proofs.deploy.make_plan.Goals as goal

pub plan_for-requires-clause-wins : goal.plan_for-requires-clause-wins
plan_for-requires-clause-wins g c =
    subst AreGoodWins (sym (ap (map win_seen) c.deref.ensures.value ∙ c.in_ok-won.ensures.wins))
    (good_wins c.args.scans.now c.args.sources.now c.args.wins.now c.requires.order c.requires.free c.requires.apart c.requires.belong c.requires.from c.in_ok-won.ensures.ids)

pub returns-clause-passes : goal.returns-clause-passes
returns-clause-passes g c tells =
    let a = disk_of (g.T.Tree.story c.args.tree.now) in
    subst (λ ws. OnOk c.plan_for.result (NoRefusal a c.args.old.now.rows ws)) (ap (map win_seen) c.deref.ensures.value ∙ c.in_ok-won.ensures.wins)
    (plan_passes a c.args.old.now (map win_seen c.deref.result.now) c.plan_for.result (c.plan_for.ensures.can tells))

pub returns-clause-sound : goal.returns-clause-sound
returns-clause-sound g c tells =
    plan_sound (disk_of (g.T.Tree.story c.args.tree.now)) c.args.old.now (map win_seen c.deref.result.now) c.plan_for.result (c.plan_for.ensures.can tells) (c.plan_for.ensures.planned tells)

pub returns-clause-leads : goal.returns-clause-leads
returns-clause-leads g c tells own =
    let a = disk_of (g.T.Tree.story c.args.tree.now) in
    subst (λ ws. IfOk c.plan_for.result (λ plan. Deployed a ws (outcome_by a (Some (record { phase = phase.Set; plan = plan }))))) (ap (map win_seen) c.deref.ensures.value ∙ c.in_ok-won.ensures.wins)
    (plan_leads a c.args.old.now (map win_seen c.deref.result.now) c.plan_for.result (c.plan_for.ensures.can tells) (c.plan_for.ensures.planned tells) own)
