use Rattle.std.proofs.Common.{sym, ap, subst, ◌∙◌}
use Rattle.tree_fs.specs.Story.{disk_of}
use Rattle.command_steps.specs.Manifests.{HasManifest}
use Rattle.command_steps.proofs.Orders.{and_then, stops_at, stops_later, takes_err}
use Rattle.command_steps.specs.Inputs.{changes_on}
use Rattle.deploy_engine.proofs.commands.check.find_changes.Goals as goal

pub returns-in_err-check_start-clause-takes : goal.returns-in_err-check_start-clause-takes
returns-in_err-check_start-clause-takes g c = λ told.
    let why = c.in_err-check_start.ensures.takes told c.args.limits.now in
    takes_err _ _ c.from_residual.ensures (stops_at _ why.stopped)

pub returns-in_err-there-clause-takes : goal.returns-in_err-there-clause-takes
returns-in_err-there-clause-takes g c = λ told.
    let start = (c.in_ok-check_start.ensures.takes told c.args.limits.now).passed in
    let why = c.in_err-there.ensures.takes told in
    takes_err _ _ c.from_residual-in_err-there.ensures (stops_later start (stops_at _ why.stopped))

pub returns-in_err-changes-clause-takes : goal.returns-in_err-changes-clause-takes
returns-in_err-changes-clause-takes g c = λ told.
    let start = (c.in_ok-check_start.ensures.takes told c.args.limits.now).passed in
    let there = (c.in_ok-there.ensures.takes told).passed in
    let has = subst (λ s. HasManifest (disk_of s) c.in_ok-there.there) (sym (c.manifest_of.ensures.same told)) there.gives in
    let why = c.in_err-changes.ensures.takes told has c.args.limits.now in
    takes_err _ _ c.from_residual-in_err-changes.ensures (stops_later start (stops_later there why.stopped))

pub returns-clause-takes : goal.returns-clause-takes
returns-clause-takes g c = λ told.
    let start = (c.in_ok-check_start.ensures.takes told c.args.limits.now).passed in
    let there = (c.in_ok-there.ensures.takes told).passed in
    let has = subst (λ s. HasManifest (disk_of s) c.in_ok-there.there) (sym (c.manifest_of.ensures.same told)) there.gives in
    let last = (c.in_ok-changes.ensures.takes told has c.args.limits.now).passed in
    let all = and_then start (and_then there last) in
    let on_disk = subst (λ s. HasManifest (disk_of s) c.in_ok-there.there) start.story there.gives in
    let found = last.gives ∙ ap (λ s. changes_on (disk_of s)) (c.manifest_of.ensures.same told ∙ start.story) in
    record {
      passed = record { all = all.all; story = all.story; gives = record { there = on_disk; changes = found } };
      stopped = tt;
    }
