use Rattle.std.proofs.Common.{◌≡◌, ℕ, Vec, Global, refl, ap, ◌∙◌}
use Rattle.list_laws.proofs.Truths.{if_ok_both}
use Rattle.answer_lines.specs.Lists.{conflict_lines}
use Rattle.deploy_engine.specs.ConflictsWork.{HasConflictLines}
use Rattle.deploy_engine.proofs.Conflicting.{found_ids}
use Rattle.deploy_engine.proofs.commands.conflicts.lines_of.Goals as goal

pub conflict_lines-requires : goal.conflict_lines-requires
conflict_lines-requires c = found_ids c.args.look.now c.requires _ _ _ refl refl refl _ c.in_ok-report.report c.as_slice.ensures.value c.in_ok-report.ensures

pub returns : goal.returns
returns c =
    let look = c.args.look.now in
    let report = c.in_ok-report.report in
    if_ok_both
    (λ (lines : Vec ℕ Global). lines.items ≡ conflict_lines c.as_slice.result.now report)
    (λ (lines : Vec ℕ Global). lines.items ≡ conflict_lines c.as_slice.result.now report)
    (λ (lines : Vec ℕ Global). HasConflictLines look lines.items)
    c.conflict_lines.result c.conflict_lines.ensures c.conflict_lines.ensures
    (λ lines same also. record { report = report; are_conflicts = c.in_ok-report.ensures; lines = same ∙ ap (λ ids. conflict_lines ids report) c.as_slice.ensures.value })
