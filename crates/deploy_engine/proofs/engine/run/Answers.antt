use Rattle.std.proofs.Common.{◌≡◌, true, refl, ap, sym, subst, ◌∙◌}
use Rattle.command_words.specs.declared.command.Command.TheVariants.{Batch, Settle}
use Rattle.std.specs.declared.option.Option.TheVariants.{Some}
use Rattle.deploy_engine.specs.Answers.{IsAlong, OnlyLooks, AreTold}
use Rattle.fault_count.specs.Rose.{Rose}
use Rattle.command_words.specs.Words.{texts}
use Rattle.deploy_engine.specs.Words.{command_said, TakesInput}
use Rattle.deploy_engine.specs.Table.{work_of}
use Rattle.deploy_engine.proofs.Telling.{completes, turns_away, ends_since_told, reads_since, reads_none}
use Rattle.deploy_engine.proofs.Batching.{batched_since, by_memory, going_start, said_or, caused_more}
use Rattle.deploy_engine.proofs.engine.run.Goals as goal

pub returns-in_default-clause-batch : goal.returns-in_default-clause-batch
returns-in_default-clause-batch g c = λ is. batched_since _ _ _ _ _ _ _ _ _ _ _ _ c.forget.ensures.same (by_memory _ _ _ _ _ _ _ _ _ _ _ _ (going_start _ _ _ _ _ _ _ 0 refl))

pub returns-then-is_batch-clause-batch : goal.returns-then-is_batch-clause-batch
returns-then-is_batch-clause-batch g c = λ is. batched_since _ _ _ _ _ _ _ _ _ _ _ _ c.forget.ensures.same c.run_batch.ensures.batched

pub returns-clause-ends : goal.returns-clause-ends
returns-clause-ends g c = λ other. ends_since_told g.T.Tree.tells g.S.Source.tells c.args.limits.now _ _ _ c.forget.ensures.same (g.S.Source.left c.args.source.now) _ _ _ _ _ _ c.in-Ok.ensures.said c.run_alone.ensures.ends

pub returns-clause-stops : goal.returns-clause-stops
returns-clause-stops g c = λ told other.
    let input = g.S.Source.left c.args.source.now in
    let before : AreTold g.T.Tree.tells g.S.Source.tells c.in-Ok.command = subst (AreTold g.T.Tree.tells g.S.Source.tells) (sym c.in-Ok.ensures.said) told in
    subst (λ o. IsAlong input o (g.T.Tree.story c.args.tree.now) (g.T.Tree.story c.run_alone.new.tree)) c.in-Ok.ensures.said
    (subst (λ s. IsAlong input c.in-Ok.command s (g.T.Tree.story c.run_alone.new.tree)) (c.forget.ensures.same told.0) (c.run_alone.ensures.stops before))

pub returns-clause-looks : goal.returns-clause-looks
returns-clause-looks g c = λ told looks. c.run_alone.ensures.looks told (subst OnlyLooks (sym c.in-Ok.ensures.said) looks) ∙ c.forget.ensures.same told

pub returns-then-is_batch-clause-causes : goal.returns-then-is_batch-clause-causes
returns-then-is_batch-clause-causes g c =
    let takes = subst TakesInput (sym (c.is_batch.ensures.0 c.if-is_batch.true) ∙ c.in-Ok.ensures.said) tt in
    let tree = Rose (g.T.Tree.faults c.args.tree.now) (g.T.Tree.faults c.run_batch.new.tree) in
    let source = Rose (g.S.Source.faults c.args.source.now) (g.S.Source.faults c.run_batch.new.source) in
    let sink = Rose (g.K.Sink.faults c.args.sink.now) (g.K.Sink.faults c.run_batch.new.sink) in
    caused_more tree source sink tree (TakesInput (command_said (texts c.args.words.now)) × source) sink c.run_batch.result (λ t. t) (λ s. (takes, s)) (λ k. k) (rw c.forget.ensures.count at c.run_batch.ensures.causes)

pub returns-clause-causes : goal.returns-clause-causes
returns-clause-causes g c = rw c.in-Ok.ensures.said at (rw c.forget.ensures.count at c.run_alone.ensures.causes)

pub returns-clause-complete : goal.returns-clause-complete
returns-clause-complete g c = λ command is other told steady all no_tree no_source no_sink.
    let tree = g.T.Tree in
    let ends = returns-clause-ends g c (λ batch. other (ap (said_or Batch) (sym is ∙ batch))) in
    let causes = returns-clause-causes g c in
    completes (AreTold tree.tells g.S.Source.tells (Some command)) (work_of (g.S.Source.left c.args.source.now) command) c.args.limits.now (tree.story c.args.tree.now) (tree.story c.run_alone.new.tree) _ _ _ _ _ _ told no_tree (λ blamed. no_source blamed.0 blamed.1) no_sink _ (rw is at ends) (rw is at causes) steady all

pub returns-clause-turned_away : goal.returns-clause-turned_away
returns-clause-turned_away g c = λ command is other told stop left first no_tree no_source no_sink.
    let tree = g.T.Tree in
    let ends = returns-clause-ends g c (λ batch. other (ap (said_or Batch) (sym is ∙ batch))) in
    let causes = returns-clause-causes g c in
    turns_away (AreTold tree.tells g.S.Source.tells (Some command)) (work_of (g.S.Source.left c.args.source.now) command) c.args.limits.now (tree.story c.args.tree.now) (tree.story c.run_alone.new.tree) _ _ _ _ _ _ told no_tree (λ blamed. no_source blamed.0 blamed.1) no_sink _ (rw is at ends) (rw is at causes) stop left first

pub returns-clause-input : goal.returns-clause-input
returns-clause-input g c = λ choices is.
    reads_since _ _ _ _ _ _ _ c.forget.ensures.same (c.run_alone.ensures.input choices (c.in-Ok.ensures.said ∙ is))

pub returns-clause-alone : goal.returns-clause-alone
returns-clause-alone g c = λ takes_none. c.run_alone.ensures.alone (λ takes. takes_none (subst TakesInput c.in-Ok.ensures.said takes))

pub returns-then-is_batch-clause-alone : goal.returns-then-is_batch-clause-alone
returns-then-is_batch-clause-alone g c = λ takes_none.
    absurd (takes_none (subst TakesInput (sym (c.is_batch.ensures.0 c.if-is_batch.true) ∙ c.in-Ok.ensures.said) tt))

pub returns-in_default-clause-input : goal.returns-in_default-clause-input
returns-in_default-clause-input g c = λ choices is. reads_none _ _ _ _ _ (λ t. c.forget.ensures.same t)

pub returns-then-is_batch-clause-input : goal.returns-then-is_batch-clause-input
returns-then-is_batch-clause-input g c = λ choices is.
    let both : Some Batch ≡ Some (Settle choices true) = sym (c.is_batch.ensures.0 c.if-is_batch.true) ∙ c.in-Ok.ensures.said ∙ is in cc
