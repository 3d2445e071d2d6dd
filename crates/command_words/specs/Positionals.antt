-- The words after a first word that takes no options.
use Rattle.std.specs.Prelude.{List, [], ◌∷◌, Option, Some, None, option_map, if◌then◌else◌}
use Rattle.command_words.specs.Words.{Text, is_end, is_dashed}

-- the positional words, where there are no others: the first `--` stands for nothing itself, no
-- word before it is dashed, and every word after it is positional
abbrev pub positionals : List Text → Option (List Text)
positionals [] = Some []
positionals (word ∷ rest) =
    if is_end word then Some rest
    else (if is_dashed word then None else option_map (λ ps. word ∷ ps) (positionals rest))
