use Rattle.std.proofs.Common.{cond, ◌∙◌}
use Rattle.std.specs.HashMap.{get_by_text}
use Rattle.std.specs.Option.{option_or}
use Rattle.std.specs.Str.{bytes_eq}
use Rattle.choice_lines.proofs.Tabled.{texts_more, texts_all}
use Rattle.choice_lines.proofs.texts.actions_by_text.Goals as goal

pub loop-change-preserved : goal.loop-change-preserved
loop-change-preserved c text =
    let path = c.change-item.result.path in
    let old = get_by_text c.loop-change.texts text in
    let new = get_by_text c.put_text.new.texts text in
    texts_more text c.args.actions.now c.args.changes.now c.loop-change.change-index c.change-item.result old new c.loop-change-test.true c.change-item.is (c.loop-change.invariant text)
    (c.in_ok-put_text.ensures text ∙ (λ i. cond (bytes_eq path text) (option_or (c.get.ensures i) old) old))

pub returns : goal.returns
returns c text = texts_all c.args.changes.now c.loop-change.change-index text c.args.actions.now (get_by_text c.loop-change.texts text) c.loop-change-test.false c.requires (c.loop-change.invariant text)
