use Rattle.std.proofs.Common.{◌≡◌, sym, ap, subst, ◌∙◌}
use Rattle.std.specs.declared.option.Option.TheVariants.{None}
use Rattle.tree_fs.specs.declared.place.Root.TheVariants.{Keep}
use Rattle.tree_fs.specs.Spot.{root_spot}
use Rattle.tree_fs.specs.Frames.{EntriesSettled}
use Rattle.tree_fs.specs.Story.{disk_of}
use Rattle.tree_fs.proofs.Moments.{along_same}
use Rattle.change_detect.specs.Refusals.{first_blocked}
use Rattle.desk_model.specs.Records.{rows_on}
use Rattle.plan_exec.specs.Ending.{NoTemps}
use Rattle.command_steps.specs.Inputs.{changes_on}
use Rattle.command_steps.specs.Manifests.{HasManifest}
use Rattle.command_steps.proofs.Orders.{and_then, stops_at, stops_later, takes_err}
use Rattle.deploy_engine.proofs.Beginning.{begun_open, begun_quiet}
use Rattle.deploy_engine.proofs.commands.settle.find_changes.Goals as goal

pub returns-in_err-start_change-clause-takes : goal.returns-in_err-start_change-clause-takes
returns-in_err-start_change-clause-takes g c = λ told.
    let why = c.in_err-start_change.ensures.takes told c.args.limits.now in
    takes_err _ _ c.from_residual.ensures (stops_at _ why.stopped)

pub returns-in_err-there-clause-takes : goal.returns-in_err-there-clause-takes
returns-in_err-there-clause-takes g c = λ told.
    let start = (c.in_ok-start_change.ensures.takes told c.args.limits.now).passed in
    let why = c.in_err-there.ensures.takes told in
    takes_err _ _ c.from_residual-in_err-there.ensures (stops_later start (stops_at _ why.stopped))

pub returns-in_err-there-clause-stops : goal.returns-in_err-there-clause-stops
returns-in_err-there-clause-stops g c = λ told. along_same _ _ _ _ (c.start_change.ensures.stops told) (c.manifest_of.ensures.same told)

pub returns-in_err-changes-clause-takes : goal.returns-in_err-changes-clause-takes
returns-in_err-changes-clause-takes g c = λ told.
    let start = (c.in_ok-start_change.ensures.takes told c.args.limits.now).passed in
    let there = (c.in_ok-there.ensures.takes told).passed in
    let has = subst (λ s. HasManifest (disk_of s) c.in_ok-there.there) (sym (c.manifest_of.ensures.same told)) there.gives in
    let why = c.in_err-changes.ensures.takes told has c.args.limits.now in
    takes_err _ _ c.from_residual-in_err-changes.ensures (stops_later start (stops_later there why.stopped))

pub returns-in_err-changes-clause-stops : goal.returns-in_err-changes-clause-stops
returns-in_err-changes-clause-stops g c = λ told. along_same _ _ _ _ (c.start_change.ensures.stops told) (c.changes_of.ensures.same told ∙ c.manifest_of.ensures.same told)

pub returns-clause-takes : goal.returns-clause-takes
returns-clause-takes g c = λ told.
    let limits = c.args.limits.now in
    let start = (c.in_ok-start_change.ensures.takes told limits).passed in
    let there = (c.in_ok-there.ensures.takes told).passed in
    let has = subst (λ s. HasManifest (disk_of s) c.in_ok-there.there) (sym (c.manifest_of.ensures.same told)) there.gives in
    let found = (c.in_ok-changes.ensures.takes told has limits).passed in
    let all = and_then start (and_then there found) in
    let same = c.changes_of.ensures.same told in
    record {
      passed = record {
        all = all.all;
        story = all.story;
        gives = record {
          there = subst (λ s. HasManifest (disk_of s) c.in_ok-there.there) (sym same) has;
          changes = found.gives ∙ ap (λ s. changes_on (disk_of s)) (sym same);
          told = subst (λ s. first_blocked (disk_of s) (rows_on (disk_of s)) ≡ None) (sym same) found.all.0;
        };
      };
      stopped = tt;
    }

pub returns-clause-stops : goal.returns-clause-stops
returns-clause-stops g c = λ told. along_same _ _ _ _ (c.start_change.ensures.stops told) (c.changes_of.ensures.same told ∙ c.manifest_of.ensures.same told)

pub returns-clause-open : goal.returns-clause-open
returns-clause-open g c = λ told.
    let start = (c.in_ok-start_change.ensures.takes told c.args.limits.now).passed in
    let same = c.changes_of.ensures.same told ∙ c.manifest_of.ensures.same told in
    begun_open c.args.limits.now _ _ start.all (along_same _ _ _ _ (c.start_change.ensures.stops told) same) (subst (λ s. NoTemps (disk_of s)) (sym same) (c.in_ok-start_change.ensures.gone told))

pub returns-clause-quiet : goal.returns-clause-quiet
returns-clause-quiet g c = λ told.
    let start = (c.in_ok-start_change.ensures.takes told c.args.limits.now).passed in
    let same = c.changes_of.ensures.same told ∙ c.manifest_of.ensures.same told in
    let swept = along_same _ _ _ _ (c.start_change.ensures.stops told) same in
    let gone = subst (λ s. NoTemps (disk_of s)) (sym same) (c.in_ok-start_change.ensures.gone told) in
    let settled = subst (λ s. EntriesSettled (disk_of s) (root_spot Keep)) (sym same) (c.in_ok-start_change.ensures.settled told) in
    begun_quiet c.args.limits.now _ _ start.all swept gone settled
