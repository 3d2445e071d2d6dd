use Rattle.std.proofs.Common.{◌≡◌, ◌≢◌, ℕ, suc, ◌+◌, ◌≤◌, ◌<◌, nat_lt, Bool, true, false, not, cond, ◌||◌, List, [], ◌∷◌, ◌++◌, length, take, drop, refl, ap, ◌∙◌, arith, length-drop, length-take-le, unwrap_or, position}
use Rattle.std.specs.List.{position_or_len}
use Rattle.std.proofs.lemmas.Bool.Decides.{nat_tests}
use Rattle.std.proofs.lemmas.List.Sums.{prefix_len-le-length}
use Rattle.std.proofs.lemmas.List.Folds.{prefix_len-append}
use Rattle.std.proofs.lemmas.List.{take-append-le, drop-append-le, take_all, drop_all}
use Rattle.std.proofs.Math.Seq.{take-append-add, drop-append-add}
use Rattle.io_edge.specs.Lines.{is_lf, has_lf, line_bytes, through_line, after_line}

-- where the first line ends
abbrev pub end_of : List ℕ → ℕ
end_of bytes = position_or_len is_lf bytes

pub end-le-length : (bytes : List ℕ) → end_of bytes ≤ length bytes
end-le-length bytes = prefix_len-le-length (λ b. not (is_lf b)) bytes

has_lf-step : (is : Bool) (end len : ℕ) (has : Bool) → nat_lt end len ≡ has → nat_lt (cond (not is) (1 + end) 0) (suc len) ≡ (is || has)
has_lf-step true end len has before = grind (arith, nat_tests)
has_lf-step false end len has before = grind (arith, nat_tests)

-- the first line ends before the end exactly where there is an LF
pub has_lf-by_end : (bytes : List ℕ) → nat_lt (end_of bytes) (length bytes) ≡ has_lf bytes
has_lf-by_end [] = refl
has_lf-by_end (b ∷ bs) = has_lf-step (is_lf b) (end_of bs) (length bs) (has_lf bs) (has_lf-by_end bs)

pub line_end-is : (bytes : List ℕ) → unwrap_or (position is_lf bytes) (length bytes) ≡ end_of bytes
line_end-is bytes = let within = end-le-length bytes in grind (arith, nat_tests)

-- without an LF the first line is all
pub end-whole : (bytes : List ℕ) → has_lf bytes ≡ false → end_of bytes ≡ length bytes
end-whole bytes none =
    let within = end-le-length bytes in
    let test : nat_lt (end_of bytes) (length bytes) ≡ false = has_lf-by_end bytes ∙ none in
    grind (arith, nat_tests)

pub end-lt : (bytes : List ℕ) → has_lf bytes ≡ true → end_of bytes < length bytes
end-lt bytes some =
    let test : nat_lt (end_of bytes) (length bytes) ≡ true = has_lf-by_end bytes ∙ some in
    grind (arith, nat_tests)

-- the first line goes on where the bytes before have no LF
pub end-goes_on : (xs ys : List ℕ) → has_lf xs ≡ false → end_of (xs ++ ys) ≡ length xs + end_of ys
end-goes_on xs ys none =
    let whole = end-whole xs none in
    let parts = prefix_len-append (λ b. not (is_lf b)) xs ys in
    grind (arith, nat_tests)

-- the first line stays where it has its LF
pub end-stays : (xs ys : List ℕ) → has_lf xs ≡ true → end_of (xs ++ ys) ≡ end_of xs
end-stays xs ys some =
    let below = end-lt xs some in
    let parts = prefix_len-append (λ b. not (is_lf b)) xs ys in
    grind (arith, nat_tests)

-- no line ends earlier where bytes are added
pub end-grows : (xs ys : List ℕ) → end_of xs ≤ end_of (xs ++ ys)
end-grows xs ys =
    let within = end-le-length xs in
    let parts = prefix_len-append (λ b. not (is_lf b)) xs ys in
    grind (arith, nat_tests)

pub through-goes_on : (xs ys : List ℕ) → has_lf xs ≡ false → through_line (xs ++ ys) ≡ xs ++ through_line ys
through-goes_on xs ys none =
    let at : end_of (xs ++ ys) + 1 ≡ length xs + (end_of ys + 1) = omega (arith, end-goes_on xs ys none) in
    ap (λ n. take n (xs ++ ys)) at ∙ take-append-add xs ys (end_of ys + 1)

pub after-goes_on : (xs ys : List ℕ) → has_lf xs ≡ false → after_line (xs ++ ys) ≡ after_line ys
after-goes_on xs ys none =
    let at : end_of (xs ++ ys) + 1 ≡ length xs + (end_of ys + 1) = omega (arith, end-goes_on xs ys none) in
    ap (λ n. drop n (xs ++ ys)) at ∙ drop-append-add xs ys (end_of ys + 1)

pub through-stays : (xs ys : List ℕ) → has_lf xs ≡ true → through_line (xs ++ ys) ≡ through_line xs
through-stays xs ys some =
    ap (λ n. take (n + 1) (xs ++ ys)) (end-stays xs ys some) ∙ take-append-le (end_of xs + 1) xs ys (omega (arith, end-lt xs some))

pub after-stays : (xs ys : List ℕ) → has_lf xs ≡ true → after_line (xs ++ ys) ≡ after_line xs ++ ys
after-stays xs ys some =
    ap (λ n. drop (n + 1) (xs ++ ys)) (end-stays xs ys some) ∙ drop-append-le (end_of xs + 1) xs ys (omega (arith, end-lt xs some))

-- without an LF all is the line, and nothing is after it
pub through-whole : (bytes : List ℕ) → has_lf bytes ≡ false → through_line bytes ≡ bytes
through-whole bytes none = take_all (end_of bytes + 1) bytes (omega (arith, end-whole bytes none))

pub after-none : (bytes : List ℕ) → has_lf bytes ≡ false → after_line bytes ≡ []
after-none bytes none = drop_all (end_of bytes + 1) bytes (omega (arith, end-whole bytes none))

pub drop_some : (n : ℕ) (xs : List ℕ) → n < length xs → drop n xs ≢ []
drop_some n xs below none = omega (arith, length-drop n xs, ap length none)

pub length-line_bytes : (bytes : List ℕ) → length (line_bytes bytes) ≡ end_of bytes
length-line_bytes bytes = length-take-le (end_of bytes) bytes (end-le-length bytes)
