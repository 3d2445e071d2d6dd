use Rattle.std.proofs.Common.{IsUtf8}
use Rattle.std.specs.List.{AllWithin}
use Rattle.command_words.proofs.positional.see_texts.Given as goal

abbrev pub invariant-loop-word : goal.invariant-loop-word
invariant-loop-word l = AllWithin (λ w. IsUtf8 w.now) l.words 0 l.word-index
