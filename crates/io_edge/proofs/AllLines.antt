use Rattle.std.proofs.Common.{◌≡◌, ◌≢◌, ℕ, ◌+◌, ◌==◌, nat_lt, nat_le, Bool, true, false, cond, List, [], ◌∷◌, ◌++◌, length, refl, sym, ap, ◌∙◌, arith, Option, None, Some, Ok, Err}
use Rattle.std.specs.List.{slice_split}
use Rattle.std.specs.Str.{is_utf8}
use Rattle.std.specs.Str.Lines.{strip_carriage_return, lines, lines_of_parts}
use Rattle.std.proofs.lemmas.Bool.Decides.{nat_tests}
use Rattle.std.proofs.lemmas.List.{take_all}
use Rattle.std.proofs.lemmas.List.Splits.{slice_split_first, slice_split_none, length-slice_split}
use Rattle.std.proofs.lemmas.List.Sums.{fails_before_first}
use Rattle.io_edge.specs.declared.lines.LineError.{LineError}
use Rattle.io_edge.specs.declared.lines.LineError.TheVariants.{TooLong, TooMany, NotText}
use Rattle.io_edge.specs.Lines.{is_lf, has_lf, line_bytes, after_line, line_text}
use Rattle.io_edge.specs.Reader.{LineText, next_of, texts_of}
use Rattle.io_edge.proofs.FirstLine.{end_of, end-lt, end-whole, after-none}

-- a part that is followed by others is a line, and so are those in the others
line_and_more : (part : List ℕ) (parts : List (List ℕ)) → parts ≢ [] → lines_of_parts (part ∷ parts) ≡ strip_carriage_return part ∷ lines_of_parts parts
line_and_more part [] some = absurd (some refl)
line_and_more part (next ∷ more) some = refl

split_some : (bytes : List ℕ) → slice_split is_lf bytes ≢ []
split_some bytes none = let parts = length-slice_split is_lf bytes in omega (arith, ap length none)

last_line : (part : List ℕ) → part ≢ [] → lines_of_parts (part ∷ []) ≡ part ∷ []
last_line [] some = absurd (some refl)
last_line (b ∷ bs) some =
    let test : (length (b ∷ bs) == 0) ≡ false = grind (arith, nat_tests) in
    ap (λ t. cond t [] ((b ∷ bs) ∷ [])) test

lines-first_by : (bytes : List ℕ) (some : Bool) → has_lf bytes ≡ some → bytes ≢ [] → lines bytes ≡ line_text bytes ∷ lines (after_line bytes)
lines-first_by bytes true is some =
    let text : line_text bytes ≡ strip_carriage_return (line_bytes bytes) = ap (λ b. cond b (strip_carriage_return (line_bytes bytes)) (line_bytes bytes)) is in
    ap lines_of_parts (slice_split_first is_lf bytes 0 (end-lt bytes is)) ∙ line_and_more (line_bytes bytes) (slice_split is_lf (after_line bytes)) (split_some (after_line bytes)) ∙ ap (λ x. x ∷ lines (after_line bytes)) (sym text)
lines-first_by bytes false is some =
    let whole : line_bytes bytes ≡ bytes = take_all (end_of bytes) bytes (omega (arith, end-whole bytes is)) in
    let text : line_text bytes ≡ bytes = ap (λ b. cond b (strip_carriage_return (line_bytes bytes)) (line_bytes bytes)) is ∙ whole in
    let one : slice_split is_lf bytes ≡ bytes ∷ [] = slice_split_none is_lf bytes (λ k d below. fails_before_first is_lf bytes k d (omega (arith, end-whole bytes is))) in
    ap lines_of_parts one ∙ last_line bytes some ∙ ap (λ x. x ∷ []) (sym text) ∙ ap (λ x. line_text bytes ∷ lines x) (sym (after-none bytes is))

-- the lines of a text are its first line and those of what stands after it
pub lines-first : (bytes : List ℕ) → bytes ≢ [] → lines bytes ≡ line_text bytes ∷ lines (after_line bytes)
lines-first bytes some = lines-first_by bytes (has_lf bytes) refl some

given_line : (many long good : Bool) (l : LineText) (e1 e2 e3 : LineError) (line : Option LineText) → Ok line ≡ cond many (Err e1) (cond long (Err e2) (cond good (Ok (Some l)) (Err e3))) → line ≡ Some l
given_line true long good l e1 e2 e3 line is = cc
given_line false true good l e1 e2 e3 line is = cc
given_line false false true l e1 e2 e3 line is = cc
given_line false false false l e1 e2 e3 line is = cc

-- with each answer the reader gives the lines that no longer are ahead
pub lines-of_answer : (given : ℕ) (ahead ahead' : List ℕ) (line : Option LineText) → Ok line ≡ next_of given ahead → ahead' ≡ after_line ahead → lines ahead ≡ texts_of line ++ lines ahead'
lines-of_answer given [] ahead' line is rest = let none : line ≡ None = cc in sym (ap (λ x. texts_of x ++ lines ahead') none ∙ ap lines rest)
lines-of_answer given (b ∷ bs) ahead' line is rest =
    let got : line ≡ Some (record { number = given + 1; text = line_text (b ∷ bs) }) = given_line (nat_le 10000 given) (nat_lt 4096 (length (line_bytes (b ∷ bs)))) (is_utf8 (line_text (b ∷ bs))) (record { number = given + 1; text = line_text (b ∷ bs) }) TooMany (TooLong (given + 1)) (NotText (given + 1)) line is in
    lines-first (b ∷ bs) (λ e. cc) ∙ ap (λ x. texts_of x ++ lines (after_line (b ∷ bs))) (sym got) ∙ ap (λ x. texts_of line ++ lines x) (sym rest)
