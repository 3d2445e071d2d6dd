use Rattle.std.proofs.Common.{refl}
use Rattle.answer_lines.specs.declared.fixed.FixedLine.TheVariants as fixed
use Rattle.answer_lines.specs.Told.{fixed_line}
use Rattle.deploy_engine.specs.declared.answer.Answer.TheVariants.{Usage}
use Rattle.std.specs.declared.option.Option.TheVariants.{None}
use Rattle.deploy_engine.specs.Answers.{IsSaid, IsThis, Says, SaysOf}
use Rattle.deploy_engine.specs.Table.{work_of}
use Rattle.deploy_engine.proofs.Telling.{ends_weaken, says_of}
use Rattle.deploy_engine.proofs.engine.run_one.Goals as goal

pub returns-in-Some-clause-ends : goal.returns-in-Some-clause-ends
returns-in-Some-clause-ends g c = λ input.
    let tree = g.T.Tree in
    let came = c.carry_out-came in
    let work = work_of input c.in-Some.command in
    let limits = c.args.limits.now in
    let old = tree.story c.args.tree.now in
    let new = tree.story came.new.tree in
    rw c.in-Some.is (ends_weaken (IsSaid came.result) (Says tree.tells work limits old new) _ _ _ (says_of tree.tells work limits old new came.result (λ told. came.ensures.carried told input)) _ c.tell.ensures.ends)

pub returns-in-None-clause-ends : goal.returns-in-None-clause-ends
returns-in-None-clause-ends g c = λ input.
    let tree = g.T.Tree in
    let limits = c.args.limits.now in
    let old = tree.story c.args.tree.now in
    rw c.in-None.is (ends_weaken (IsThis Usage (fixed_line fixed.Usage)) (SaysOf tree.tells input None limits old old) _ _ _ (λ answer text this. (this.0, (λ told. refl), this.1)) _ c.write_fixed.ensures.ends)
