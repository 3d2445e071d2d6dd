-- The words of a command line.
use Rattle.std.specs.Prelude.{ℕ, List, [], ◌∷◌, map, Bool, false, ◌==◌}
use Rattle.std.specs.Str.{bytes_eq}
use denote.Ref.{Bor}

-- the bytes of a word
abbrev pub Text : Type 0
Text = List ℕ

-- the texts of borrowed words
abbrev pub texts : List (Bor Text) → List Text
texts words = map (λ word. word.now) words

-- the word `--`
abbrev pub is_end : Text → Bool
is_end word = bytes_eq word (45 ∷ 45 ∷ [])

-- the word begins with `-` and has more bytes
abbrev pub is_dashed : Text → Bool
is_dashed [] = false
is_dashed (b ∷ []) = false
is_dashed (b ∷ c ∷ bs) = b == 45
