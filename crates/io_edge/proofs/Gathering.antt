use Rattle.std.proofs.Common.{◌≡◌, ℕ, ◌+◌, ◌≤◌, true, false, ◌||◌, List, [], ◌++◌, length, refl, sym, ap, ◌∙◌, arith, length-append, append_assoc, append-nil}
use Rattle.std.proofs.lemmas.List.Folds.{list_any-append}
use Rattle.io_edge.specs.Lines.{is_lf, has_lf, line_bytes, through_line, after_line, TakesNoEnd}
use Rattle.io_edge.proofs.FirstLine.{end_of, end-goes_on, end-stays, end-grows, end-whole, through-goes_on, through-stays, through-whole, after-goes_on, after-stays, after-none, length-line_bytes}

-- in each lemma `whole` is what was ahead at first: the line so far, the bytes held, and those left

pub line_with_lf : (whole line held left line' : List ℕ) → whole ≡ line ++ (held ++ left) → has_lf line ≡ false → has_lf held ≡ true → line' ≡ line ++ through_line held → line' ≡ through_line whole
line_with_lf whole line held left line' ahead none some moved =
    moved ∙ sym (ap through_line ahead ∙ through-goes_on line (held ++ left) none ∙ ap (λ x. line ++ x) (through-stays held left some))

pub rest_after_lf : (whole line held left held' : List ℕ) → whole ≡ line ++ (held ++ left) → has_lf line ≡ false → has_lf held ≡ true → held' ≡ after_line held → held' ++ left ≡ after_line whole
rest_after_lf whole line held left held' ahead none some moved =
    ap (λ x. x ++ left) moved ∙ sym (ap after_line ahead ∙ after-goes_on line (held ++ left) none ∙ after-stays held left some)

pub length_with_lf : (whole line held left : List ℕ) → whole ≡ line ++ (held ++ left) → has_lf line ≡ false → has_lf held ≡ true → length (line_bytes whole) ≡ length line + end_of held
length_with_lf whole line held left ahead none some =
    length-line_bytes whole ∙ ap end_of ahead ∙ end-goes_on line (held ++ left) none ∙ ap (λ n. length line + n) (end-stays held left some)

pub length_at_least : (whole line held left : List ℕ) → whole ≡ line ++ (held ++ left) → has_lf line ≡ false → length line + end_of held ≤ length (line_bytes whole)
length_at_least whole line held left ahead none =
    let is : length (line_bytes whole) ≡ length line + end_of (held ++ left) = length-line_bytes whole ∙ ap end_of ahead ∙ end-goes_on line (held ++ left) none in
    omega (arith, end-grows held left)

-- where the bytes held have no LF, the line takes them all

pub still_no_lf : (line held line' : List ℕ) → has_lf line ≡ false → has_lf held ≡ false → line' ≡ line ++ through_line held → has_lf line' ≡ false
still_no_lf line held line' none more moved =
    ap has_lf (moved ∙ ap (λ x. line ++ x) (through-whole held more)) ∙ list_any-append is_lf line held ∙ ap (λ b. b || has_lf held) none ∙ more

pub ahead_of_more : (whole line held left line' held' held'' left' : List ℕ) → whole ≡ line ++ (held ++ left) → has_lf held ≡ false → line' ≡ line ++ through_line held → held' ≡ after_line held → held'' ++ left' ≡ held' ++ left → whole ≡ line' ++ (held'' ++ left')
ahead_of_more whole line held left line' held' held'' left' ahead more moved rest filled =
    let all : line' ≡ line ++ held = moved ∙ ap (λ x. line ++ x) (through-whole held more) in
    let empty : held' ≡ [] = rest ∙ after-none held more in
    let same : held'' ++ left' ≡ left = filled ∙ ap (λ x. x ++ left) empty in
    rw (all, same, append_assoc) ahead

-- and where no more come, all that was taken is in the line
pub only_the_line : (whole line held left line' left' : List ℕ) → whole ≡ line ++ (held ++ left) → has_lf line ≡ false → has_lf held ≡ false → line' ≡ line ++ through_line held → left' ≡ left → TakesNoEnd whole left'
only_the_line whole line held left line' left' ahead none more moved same =
    let all : line' ≡ line ++ held = moved ∙ ap (λ x. line ++ x) (through-whole held more) in
    record {
      taken = line';
      parts = rw (all, same, append_assoc) ahead;
      no_end = still_no_lf line held line' none more moved;
    }

-- where nothing was held and nothing came, nothing was taken
pub nothing_taken : (held left left' : List ℕ) → held ≡ [] → left' ≡ left → TakesNoEnd (held ++ left) left'
nothing_taken held left left' empty same =
    record { taken = []; parts = rw (empty, same) refl; no_end = refl }

pub taken_before : (whole whole' left : List ℕ) → whole ≡ whole' → TakesNoEnd whole' left → TakesNoEnd whole left
taken_before whole whole' left same takes =
    record { taken = takes.taken; parts = same ∙ takes.parts; no_end = takes.no_end }

pub line_at_end : (whole line' held'' left' : List ℕ) → whole ≡ line' ++ (held'' ++ left') → held'' ≡ [] → left' ≡ [] → whole ≡ line'
line_at_end whole line' held'' left' ahead no_held no_left =
    ahead ∙ ap (λ x. line' ++ (x ++ left')) no_held ∙ ap (λ x. line' ++ x) no_left ∙ append-nil line'

pub through_at_end : (whole line : List ℕ) → whole ≡ line → has_lf line ≡ false → line ≡ through_line whole
through_at_end whole line is none = sym (ap through_line is ∙ through-whole line none)

pub after_at_end : (whole line held left : List ℕ) → whole ≡ line → has_lf line ≡ false → held ≡ [] → left ≡ [] → held ++ left ≡ after_line whole
after_at_end whole line held left is none no_held no_left =
    ap (λ x. x ++ left) no_held ∙ no_left ∙ sym (ap after_line is ∙ after-none line none)

pub length_at_end : (whole line held line' : List ℕ) → whole ≡ line' → has_lf line' ≡ false → has_lf held ≡ false → line' ≡ line ++ through_line held → length (line_bytes whole) ≡ length line + end_of held
length_at_end whole line held line' is none more moved =
    length-line_bytes whole ∙ ap end_of is ∙ end-whole line' none ∙ ap length (moved ∙ ap (λ x. line ++ x) (through-whole held more)) ∙ length-append line held ∙ ap (λ n. length line + n) (sym (end-whole held more))
