use Rattle.std.proofs.Common.{sym, ap, subst, ◌∙◌}
use Rattle.tree_fs.specs.Story.{disk_of}
use Rattle.answer_lines.specs.Told.{total_lines}
use Rattle.desk_model.specs.Places.{intent_spot}
use Rattle.intent_journal.specs.Found.{IsFound}
use Rattle.intent_journal.specs.Temps.{IsFileOrAbsent}
use Rattle.command_steps.specs.Manifests.{HasManifest}
use Rattle.command_steps.proofs.Orders.{and_then, stops_at, stops_later}
use Rattle.deploy_engine.specs.StatusWork.{PrintsStatus}
use Rattle.deploy_engine.proofs.Carrying.{hand_on, looked, looked_in_vain, none_found}
use Rattle.deploy_engine.proofs.commands.status.tell_status.Goals as goal

pub returns-in_err-check_controls-clause-carried : goal.returns-in_err-check_controls-clause-carried
returns-in_err-check_controls-clause-carried g c = λ told.
    let why = c.in_err-check_controls.ensures.takes told c.args.limits.now in
    hand_on c.from_residual.ensures (looked_in_vain (c.check_controls.ensures.same told) (stops_at _ why.stopped))

pub returns-in_err-there-clause-carried : goal.returns-in_err-there-clause-carried
returns-in_err-there-clause-carried g c = λ told.
    let start = (c.in_ok-check_controls.ensures.takes told c.args.limits.now).passed in
    let why = c.in_err-there.ensures.takes told in
    hand_on c.from_residual-in_err-there.ensures (looked_in_vain (c.manifest_of.ensures.same told ∙ start.story) (stops_later start (stops_at _ why.stopped)))

pub intent_of-requires : goal.intent_of-requires
intent_of-requires g c = λ told.
    let start = (c.in_ok-check_controls.ensures.takes told c.args.limits.now).passed in
    subst (λ s. IsFileOrAbsent (disk_of s) intent_spot) (sym (c.manifest_of.ensures.same told ∙ start.story)) start.all.0

pub returns-in_err-found-clause-carried : goal.returns-in_err-found-clause-carried
returns-in_err-found-clause-carried g c = λ told.
    let start = (c.in_ok-check_controls.ensures.takes told c.args.limits.now).passed in
    let there = (c.in_ok-there.ensures.takes told).passed in
    let why = c.in_err-found.ensures.takes told c.args.limits.now in
    hand_on c.from_residual-in_err-found.ensures (looked_in_vain (c.intent_of.ensures.same told ∙ c.manifest_of.ensures.same told ∙ start.story) (stops_later start (stops_later there why.stopped)))

pub returns-clause-carried : goal.returns-clause-carried
returns-clause-carried g c = λ told.
    let start = (c.in_ok-check_controls.ensures.takes told c.args.limits.now).passed in
    let there = (c.in_ok-there.ensures.takes told).passed in
    let last = (c.in_ok-found.ensures.takes told c.args.limits.now).passed in
    let all = and_then start (and_then there last) in
    let printed : PrintsStatus (disk_of (g.T.Tree.story c.args.tree.now)) c.in_ok-lines.lines.items = record {
      there = c.in_ok-there.there;
      has = subst (λ s. HasManifest (disk_of s) c.in_ok-there.there) start.story there.gives;
      found = c.in_ok-found.found;
      is_found = subst (λ s. IsFound (disk_of s) c.in_ok-found.found) (c.manifest_of.ensures.same told ∙ start.story) last.gives;
      lines = c.in_ok-lines.ensures ∙ ap total_lines c.totals_of.ensures;
    } in
    looked all.story all all.story printed none_found
