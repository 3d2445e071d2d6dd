use Rattle.std.proofs.Common.{true, sym, subst, ◌∙◌}
use Rattle.std.specs.Prelude.{IfSome}
use Rattle.std.specs.declared.option.Option.{Option}
use Rattle.std.specs.declared.option.Option.TheVariants.{Some}
use Rattle.fault_count.specs.Rose.{Rose}
use Rattle.command_words.specs.declared.command.Command.{Command}
use Rattle.command_words.specs.declared.command.Command.TheVariants.{Settle}
use Rattle.command_words.specs.Paths.{SetsUserPath}
use Rattle.deploy_engine.specs.Words.{TakesInput}
use Rattle.deploy_engine.specs.Answers.{SaysOf, Ends, AreTold, IsAlong, OnlyLooks}
use Rattle.deploy_engine.proofs.Batching.{caused_more}
use Rattle.deploy_engine.proofs.Telling.{ends_weaken, said_less}
use Rattle.deploy_engine.proofs.engine.run_alone.Goals as goal

-- a settlement by input

pub returns-in-Ok-clause-ends : goal.returns-in-Ok-clause-ends
returns-in-Ok-clause-ends g c =
    let tells = g.T.Tree.tells in
    let reads = g.S.Source.tells in
    let input = g.S.Source.left c.args.source.now in
    let limits = c.args.limits.now in
    let old = g.T.Tree.story c.args.tree.now in
    let new = g.T.Tree.story c.settle_by_input.new.tree in
    let said : Option Command = Some (Settle c.in-Ok.choices true) in
    subst (λ o. Ends (SaysOf (AreTold tells reads o) input o limits old new) g.K.Sink.tells (g.K.Sink.written c.args.sink.now) (g.K.Sink.written c.settle_by_input.new.sink) c.settle_by_input.result) (sym c.in-Ok.ensures.settles)
    (ends_weaken (SaysOf (tells × reads) input said limits old new) (SaysOf (AreTold tells reads said) input said limits old new) _ _ _ (said_less (AreTold tells reads said) (tells × reads) (λ t. (t.0, t.1 tt)) limits old new input said) _ c.settle_by_input.ensures.ends)

pub returns-in-Ok-clause-stops : goal.returns-in-Ok-clause-stops
returns-in-Ok-clause-stops g c = λ told.
    let input = g.S.Source.left c.args.source.now in
    let old = g.T.Tree.story c.args.tree.now in
    let new = g.T.Tree.story c.settle_by_input.new.tree in
    subst (λ o. IsAlong input o old new) (sym c.in-Ok.ensures.settles)
    (c.settle_by_input.ensures.stops told.0 (told.1 (subst TakesInput (sym c.in-Ok.ensures.settles) tt)))

pub returns-in-Ok-clause-looks : goal.returns-in-Ok-clause-looks
returns-in-Ok-clause-looks g c = λ told looks. absurd (subst OnlyLooks c.in-Ok.ensures.settles looks)

pub returns-in-Ok-clause-causes : goal.returns-in-Ok-clause-causes
returns-in-Ok-clause-causes g c =
    let tree = Rose (g.T.Tree.faults c.args.tree.now) (g.T.Tree.faults c.settle_by_input.new.tree) in
    let source = Rose (g.S.Source.faults c.args.source.now) (g.S.Source.faults c.settle_by_input.new.source) in
    let sink = Rose (g.K.Sink.faults c.args.sink.now) (g.K.Sink.faults c.settle_by_input.new.sink) in
    caused_more tree source sink tree (TakesInput c.args.command × source) sink c.settle_by_input.result (λ t. t) (λ s. (subst TakesInput (sym c.in-Ok.ensures.settles) tt, s)) (λ k. k) c.settle_by_input.ensures.causes

pub returns-in-Ok-clause-alone : goal.returns-in-Ok-clause-alone
returns-in-Ok-clause-alone g c = λ takes_none. absurd (takes_none (subst TakesInput (sym c.in-Ok.ensures.settles) tt))

-- any other command

pub run_one-requires-clause-no_input : goal.run_one-requires-clause-no_input
run_one-requires-clause-no_input g c = c.in-Err.ensures.no_input (λ is. c.requires.no_batch (sym c.in-Err.ensures.other ∙ is))

pub run_one-requires-clause-user_path : goal.run_one-requires-clause-user_path
run_one-requires-clause-user_path g c = subst (λ o. IfSome o SetsUserPath) (sym c.in-Err.ensures.other) c.requires.user_path

pub returns-in-Err-clause-ends : goal.returns-in-Err-clause-ends
returns-in-Err-clause-ends g c =
    let tells = g.T.Tree.tells in
    let reads = g.S.Source.tells in
    let input = g.S.Source.left c.args.source.now in
    let limits = c.args.limits.now in
    let old = g.T.Tree.story c.args.tree.now in
    let new = g.T.Tree.story c.run_one.new.tree in
    let command = c.in-Err.command in
    subst (λ o. Ends (SaysOf (AreTold tells reads o) input o limits old new) g.K.Sink.tells (g.K.Sink.written c.args.sink.now) (g.K.Sink.written c.run_one.new.sink) c.run_one.result) c.in-Err.ensures.other
    (ends_weaken (SaysOf tells input command limits old new) (SaysOf (AreTold tells reads command) input command limits old new) _ _ _ (said_less (AreTold tells reads command) tells (λ t. t.0) limits old new input command) _ (c.run_one.ensures.ends input))

pub returns-in-Err-clause-stops : goal.returns-in-Err-clause-stops
returns-in-Err-clause-stops g c = λ told.
    let input = g.S.Source.left c.args.source.now in
    let old = g.T.Tree.story c.args.tree.now in
    let new = g.T.Tree.story c.run_one.new.tree in
    subst (λ o. IsAlong input o old new) c.in-Err.ensures.other (c.run_one.ensures.stops told.0 input)

pub returns-in-Err-clause-looks : goal.returns-in-Err-clause-looks
returns-in-Err-clause-looks g c = λ told looks. c.run_one.ensures.looks told (subst OnlyLooks (sym c.in-Err.ensures.other) looks)

pub returns-in-Err-clause-causes : goal.returns-in-Err-clause-causes
returns-in-Err-clause-causes g c =
    let tree = Rose (g.T.Tree.faults c.args.tree.now) (g.T.Tree.faults c.run_one.new.tree) in
    let source = Rose (g.S.Source.faults c.args.source.now) (g.S.Source.faults c.args.source.now) in
    let sink = Rose (g.K.Sink.faults c.args.sink.now) (g.K.Sink.faults c.run_one.new.sink) in
    caused_more tree ⊥ sink tree (TakesInput c.args.command × source) sink c.run_one.result (λ t. t) (λ no. absurd no) (λ k. k) c.run_one.ensures.causes

pub returns-in-Err-clause-input : goal.returns-in-Err-clause-input
returns-in-Err-clause-input g c = λ choices is.
    absurd (c.in-Err.ensures.no_input (λ batch. c.requires.no_batch (sym c.in-Err.ensures.other ∙ batch)) (subst TakesInput (sym (c.in-Err.ensures.other ∙ is)) tt))
