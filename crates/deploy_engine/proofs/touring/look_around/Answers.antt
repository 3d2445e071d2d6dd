use Rattle.std.proofs.Common.{subst}
use Rattle.tree_fs.specs.Story.{disk_of}
use Rattle.command_steps.specs.Found.{IsLooked}
use Rattle.command_steps.specs.declared.stop.Stop.TheVariants.{Memory}
use Rattle.command_steps.proofs.Orders.{and_then, stops_at, stops_later, takes_err, faults}
use Rattle.deploy_engine.proofs.touring.look_around.Goals as goal

pub returns-in_err-check_start-clause-takes : goal.returns-in_err-check_start-clause-takes
returns-in_err-check_start-clause-takes g c = λ told.
    let why = c.in_err-check_start.ensures.takes told c.args.limits.now in
    takes_err _ _ c.from_residual.ensures (stops_at _ why.stopped)

pub returns-in_err-look-clause-takes : goal.returns-in_err-look-clause-takes
returns-in_err-look-clause-takes g c = λ told.
    let start = (c.in_ok-check_start.ensures.takes told c.args.limits.now).passed in
    let why = c.in_err-look.ensures.takes told in
    takes_err _ _ c.from_residual-in_err-look.ensures (stops_later start why.stopped)

pub returns-in_err-report-clause-takes : goal.returns-in_err-report-clause-takes
returns-in_err-report-clause-takes g c = λ told. takes_err _ _ c.from_residual-in_err-report.ensures (faults _ _ _ Memory _ tt)

pub returns-in_err-seen-clause-takes : goal.returns-in_err-seen-clause-takes
returns-in_err-seen-clause-takes g c = λ told. takes_err _ _ c.from_residual-in_err-seen.ensures (faults _ _ _ Memory _ tt)

pub returns-clause-takes : goal.returns-clause-takes
returns-clause-takes g c = λ told.
    let start = (c.in_ok-check_start.ensures.takes told c.args.limits.now).passed in
    let last = (c.in_ok-look.ensures.takes told).passed in
    let all = and_then start last in
    let look = c.in_ok-look.look in
    record {
      passed = record {
        all = all.all;
        story = all.story;
        gives = record {
          found = look;
          is_looked = subst (λ s. IsLooked (disk_of s) look) start.story last.gives;
          whole = c.in_ok-look.ensures.whole;
          report = c.in_ok-report.report;
          are_conflicts = c.in_ok-report.ensures;
          counts = c.in_ok-seen.ensures;
        };
      };
      stopped = tt;
    }
