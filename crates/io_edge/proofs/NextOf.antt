use Rattle.std.proofs.Common.{◌≡◌, ◌≢◌, ℕ, ◌+◌, ◌-◌, ◌≤◌, ◌<◌, ◌==◌, nat_lt, nat_le, Bool, true, false, cond, List, [], ◌∷◌, ◌++◌, length, take, get_or, refl, sym, ap, ◌∙◌, arith, length-take-le, get_or-take, take-take, Option, Some, Result, Ok, Err}
use Rattle.std.proofs.lemmas.Bool.Decides.{nat_tests}
use Rattle.std.proofs.lemmas.List.Sums.{passes_at_first, fails_before_first}
use Rattle.std.proofs.lemmas.List.{take_all}
use Rattle.std.specs.Str.{is_utf8}
use Rattle.std.specs.Str.Lines.{strip_carriage_return}
use Rattle.io_edge.specs.declared.lines.LineError.{LineError}
use Rattle.io_edge.specs.declared.lines.LineError.TheVariants.{TooLong, TooMany, NotText, Failed, Memory}
use Rattle.io_edge.specs.Lines.{is_lf, has_lf, line_bytes, through_line, line_text, without_end}
use Rattle.io_edge.specs.Reader.{LineText, next_of, IsUnlessBroken}
use Rattle.io_edge.proofs.FirstLine.{end_of, end-lt, end-whole, end-goes_on, through-whole, through-goes_on, length-line_bytes}

pub next_of-too_many : (given : ℕ) (ahead : List ℕ) → ahead ≢ [] → 10000 ≤ given → next_of given ahead ≡ Err TooMany
next_of-too_many given [] some most = absurd (some refl)
next_of-too_many given (b ∷ bs) some most = let test : nat_le 10000 given ≡ true = grind (arith, nat_tests) in rw test refl

pub next_of-too_long : (given : ℕ) (ahead : List ℕ) → ahead ≢ [] → given < 10000 → 4096 < length (line_bytes ahead) → next_of given ahead ≡ Err (TooLong (given + 1))
next_of-too_long given [] some most long = absurd (some refl)
next_of-too_long given (b ∷ bs) some most long =
    let test : nat_le 10000 given ≡ false = grind (arith, nat_tests) in
    let test' : nat_lt 4096 (length (line_bytes (b ∷ bs))) ≡ true = grind (arith, nat_tests) in
    rw (test, test') refl

pub next_of-not_text : (given : ℕ) (ahead : List ℕ) → ahead ≢ [] → given < 10000 → length (line_bytes ahead) ≤ 4096 → is_utf8 (line_text ahead) ≡ false → next_of given ahead ≡ Err (NotText (given + 1))
next_of-not_text given [] some most short bad = absurd (some refl)
next_of-not_text given (b ∷ bs) some most short bad =
    let test : nat_le 10000 given ≡ false = grind (arith, nat_tests) in
    let test' : nat_lt 4096 (length (line_bytes (b ∷ bs))) ≡ false = grind (arith, nat_tests) in
    rw (test, test', bad) refl

pub next_of-line : (given : ℕ) (ahead : List ℕ) → ahead ≢ [] → given < 10000 → length (line_bytes ahead) ≤ 4096 → is_utf8 (line_text ahead) ≡ true → next_of given ahead ≡ Ok (Some (record { number = given + 1; text = line_text ahead }))
next_of-line given [] some most short good = absurd (some refl)
next_of-line given (b ∷ bs) some most short good =
    let test : nat_le 10000 given ≡ false = grind (arith, nat_tests) in
    let test' : nat_lt 4096 (length (line_bytes (b ∷ bs))) ≡ false = grind (arith, nat_tests) in
    rw (test, test', good) refl

-- the text of a first line that was taken whole

without_end-lf : (line : List ℕ) → get_or line (length line - 1) 0 ≡ 10 → without_end line ≡ strip_carriage_return (take (length line - 1) line)
without_end-lf line last = ap (λ b. cond (b == 10) (strip_carriage_return (take (length line - 1) line)) line) last

without_end-other : (line : List ℕ) → get_or line (length line - 1) 0 ≢ 10 → without_end line ≡ line
without_end-other line last =
    let test : (get_or line (length line - 1) 0 == 10) ≡ false = grind (arith, nat_tests) in
    ap (λ b. cond b (strip_carriage_return (take (length line - 1) line)) line) test

length_of_through : (bytes : List ℕ) → has_lf bytes ≡ true → length (through_line bytes) - 1 ≡ end_of bytes
length_of_through bytes some =
    omega (arith, length-take-le (end_of bytes + 1) bytes (omega (arith, end-lt bytes some)))

last_of_through : (bytes : List ℕ) → has_lf bytes ≡ true → get_or (through_line bytes) (end_of bytes) 0 ≡ 10
last_of_through bytes some =
    let passes : is_lf (get_or bytes (end_of bytes) 0) ≡ true = passes_at_first is_lf bytes 0 (end-lt bytes some) in
    let is : get_or bytes (end_of bytes) 0 ≡ 10 = grind (arith, nat_tests) in
    get_or-take (end_of bytes + 1) bytes (end_of bytes) 0 (omega arith) ∙ is

last_without_lf : (bytes : List ℕ) → has_lf bytes ≡ false → get_or bytes (length bytes - 1) 0 ≢ 10
last_without_lf [] none = λ e. cc
last_without_lf (b ∷ bs) none =
    let fails : is_lf (get_or (b ∷ bs) (length (b ∷ bs) - 1) 0) ≡ false = fails_before_first is_lf (b ∷ bs) (length (b ∷ bs) - 1) 0 (omega (arith, end-whole (b ∷ bs) none)) in
    λ e. grind (arith, nat_tests)

without_end-by : (bytes : List ℕ) (some : Bool) → has_lf bytes ≡ some → without_end (through_line bytes) ≡ line_text bytes
without_end-by bytes true is =
    let at = length_of_through bytes is in
    let last : get_or (through_line bytes) (length (through_line bytes) - 1) 0 ≡ 10 = ap (λ n. get_or (through_line bytes) n 0) at ∙ last_of_through bytes is in
    let cut : take (length (through_line bytes) - 1) (through_line bytes) ≡ line_bytes bytes = ap (λ n. take n (through_line bytes)) at ∙ take-take (end_of bytes) (end_of bytes + 1) bytes (omega arith) in
    let text : line_text bytes ≡ strip_carriage_return (line_bytes bytes) = ap (λ b. cond b (strip_carriage_return (line_bytes bytes)) (line_bytes bytes)) is in
    without_end-lf (through_line bytes) last ∙ ap strip_carriage_return cut ∙ sym text
without_end-by bytes false is =
    let text : line_text bytes ≡ line_bytes bytes = ap (λ b. cond b (strip_carriage_return (line_bytes bytes)) (line_bytes bytes)) is in
    let whole : line_bytes bytes ≡ bytes = take_all (end_of bytes) bytes (omega (arith, end-whole bytes is)) in
    ap without_end (through-whole bytes is) ∙ without_end-other bytes (last_without_lf bytes is) ∙ sym (text ∙ whole)

pub without_end-through : (bytes : List ℕ) → without_end (through_line bytes) ≡ line_text bytes
without_end-through bytes = without_end-by bytes (has_lf bytes) refl

-- a text is no longer than its line

strip-short_by : (line : List ℕ) (ends : Bool) → length (cond ends (take (length line - 1) line) line) ≤ length line
strip-short_by line true = omega (arith, length-take-le (length line - 1) line (omega arith))
strip-short_by line false = omega arith

strip-short : (line : List ℕ) → length (strip_carriage_return line) ≤ length line
strip-short line = strip-short_by line (get_or line (length line - 1) 0 == 13)

line_text-short : (bytes : List ℕ) (some : Bool) → length (cond some (strip_carriage_return (line_bytes bytes)) (line_bytes bytes)) ≤ length (line_bytes bytes)
line_text-short bytes true = strip-short (line_bytes bytes)
line_text-short bytes false = omega arith

pub short_text : (most : ℕ) (line held line' : List ℕ) → has_lf line ≡ false → line' ≡ line ++ through_line held → length line + end_of held ≤ most → length (without_end line') ≤ most
short_text most line held line' none moved short =
    let is : without_end line' ≡ line_text (line ++ held) = ap without_end (moved ∙ sym (through-goes_on line held none)) ∙ without_end-through (line ++ held) in
    omega (arith, ap length is, line_text-short (line ++ held) (has_lf (line ++ held)), length-line_bytes (line ++ held), end-goes_on line held none)

-- the answers of a reader, where `ahead` is what it had to read, and `here` the same bytes at hand after the first pull

-- an error that is handed on is the same one
pub failed_before : {T U : Type 0} (before : Result T LineError) (after : Result U LineError) (e wanted : LineError) → before ≡ Err e → after ≡ Err e → after ≡ Err wanted → before ≡ Err wanted
failed_before before after e wanted was is failed = cc

pub here_is : (held held' here left left' : List ℕ) → held' ≡ held → here ++ left' ≡ held' ++ left → here ++ left' ≡ held ++ left
here_is held held' here left left' same filled = filled ∙ ap (λ x. x ++ left) same

pub some_here : (here left : List ℕ) (more : Bool) → more ≡ true → (here ≡ [] → more ≡ false) → here ++ left ≢ []
some_here [] left more on off none = let no = off refl in cc
some_here (b ∷ bs) left more on off none = cc

pub answer_too_many : (given given' : ℕ) (here ahead : List ℕ) → given ≡ given' → here ≡ ahead → here ≢ [] → 10000 ≤ given → Err TooMany ≡ next_of given' ahead
answer_too_many given given' here ahead same same' some most =
    sym (next_of-too_many given here some most) ∙ ap (λ n. next_of n here) same ∙ ap (next_of given') same'

unless_memory : (e : LineError) (answer : Result (Option LineText) LineError) → (e ≢ Memory → Err e ≡ answer) → IsUnlessBroken (Err e) answer
unless_memory (TooLong n) answer is = is (λ m. cc)
unless_memory TooMany answer is = is (λ m. cc)
unless_memory (NotText n) answer is = is (λ m. cc)
unless_memory Failed answer is = tt
unless_memory Memory answer is = tt

pub answer_not_text : (given given' : ℕ) (here ahead line : List ℕ) (e : LineError) → given ≡ given' → here ≡ ahead → here ≢ [] → given < 10000 → length (line_bytes here) ≤ 4096 → line ≡ through_line here → (e ≢ Memory → (e ≡ NotText (given + 1)) × (is_utf8 (without_end line) ≡ false)) → IsUnlessBroken (Err e) (next_of given' ahead)
answer_not_text given given' here ahead line e same same' some most short through bad =
    unless_memory e (next_of given' ahead) (λ known. ap Err (bad known).0 ∙ sym (next_of-not_text given here some most short (ap is_utf8 (sym (without_end-through here) ∙ ap without_end (sym through)) ∙ (bad known).1)) ∙ ap (λ n. next_of n here) same ∙ ap (next_of given') same')

pub answer_line : (given given' : ℕ) (here ahead line text : List ℕ) → given ≡ given' → here ≡ ahead → here ≢ [] → given < 10000 → length (line_bytes here) ≤ 4096 → line ≡ through_line here → (text ≡ without_end line) × (is_utf8 (without_end line) ≡ true) → Ok (Some (record { number = given + 1; text = text })) ≡ next_of given' ahead
answer_line given given' here ahead line text same same' some most short through good =
    let is : without_end line ≡ line_text here = ap without_end through ∙ without_end-through here in
    ap (λ x. Ok (Some (record { number = given + 1; text = x }))) (good.0 ∙ is) ∙ sym (next_of-line given here some most short (ap is_utf8 (sym is) ∙ good.1)) ∙ ap (λ n. next_of n here) same ∙ ap (next_of given') same'
