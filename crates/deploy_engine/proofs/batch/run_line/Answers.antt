use Rattle.std.proofs.Common.{[], sym, ◌∙◌, subst}
use Rattle.deploy_engine.specs.Answers.{SaysOf, IsAlong, OnlyLooks}
use Rattle.deploy_engine.specs.Batches.{SaysLine}
use Rattle.deploy_engine.specs.Words.{line_said}
use Rattle.deploy_engine.proofs.Telling.{ends_weaken, ends_since}
use Rattle.deploy_engine.proofs.Batching.{says_line}
use Rattle.deploy_engine.proofs.batch.run_line.Goals as goal

pub returns-in-Ok-clause-ends : goal.returns-in-Ok-clause-ends
returns-in-Ok-clause-ends g c =
    let told = g.T.Tree.tells in
    let line = c.args.line.now in
    let limits = c.args.limits.now in
    let old = g.T.Tree.story c.args.tree.now in
    let new = g.T.Tree.story c.run_one.new.tree in
    ends_weaken (SaysOf told [] (line_said line) limits old new) (SaysLine told line limits old new) _ _ _
    (says_line told line limits old new (sym c.is_empty.ensures ∙ c.if-is_empty.false)) _
    (ends_since _ _ _ _ _ c.forget.ensures.same [] _ _ _ _ _ _ c.in-Ok.ensures.said (c.run_one.ensures.ends []))

pub returns-in-Ok-clause-stops : goal.returns-in-Ok-clause-stops
returns-in-Ok-clause-stops g c = λ told.
    subst (λ o. IsAlong [] o (g.T.Tree.story c.args.tree.now) (g.T.Tree.story c.run_one.new.tree)) c.in-Ok.ensures.said
    (subst (λ s. IsAlong [] c.in-Ok.command s (g.T.Tree.story c.run_one.new.tree)) (c.forget.ensures.same told) (c.run_one.ensures.stops told []))

pub returns-in-Ok-clause-looks : goal.returns-in-Ok-clause-looks
returns-in-Ok-clause-looks g c = λ told looks. c.run_one.ensures.looks told (subst OnlyLooks (sym c.in-Ok.ensures.said) looks) ∙ c.forget.ensures.same told
