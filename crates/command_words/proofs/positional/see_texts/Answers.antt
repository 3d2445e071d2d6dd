use Rattle.std.proofs.Common.{◌∙◌, IsUtf8, subst, ap}
use Rattle.std.proofs.lemmas.List.{get_or_default}
use Rattle.std.proofs.lemmas.List.Elements.{AllWithin-more}
use Rattle.command_words.proofs.positional.see_texts.Goals as goal

pub loop-word-preserved : goal.loop-word-preserved
loop-word-preserved c = AllWithin-more (λ w. IsUtf8 w.now) c.args.words.now 0 c.loop-word.word-index c.loop-word.invariant
    (λ d. subst IsUtf8 (c.as_str-text.ensures ∙ ap (λ w. w.now) (get_or_default c.args.words.now c.loop-word.word-index _ d c.loop-word-test.true)) c.as_str-text.utf8)
