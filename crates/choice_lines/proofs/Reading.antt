-- Lines that are read one after the other.
use Rattle.std.proofs.Common.{◌≡◌, ◌≢◌, ℕ, ◌+◌, nat_le, nat_lt, Bool, true, false, cond, List, [], ◌∷◌, ◌++◌, length, refl, sym, ap, ◌∙◌, subst, append_assoc, append-nil, length-append, arith}
use Rattle.std.specs.Str.{is_utf8}
use Rattle.std.specs.Str.Lines.{lines}
use Rattle.std.specs.declared.option.Option.{Option}
use Rattle.std.specs.declared.option.Option.TheVariants.{None, Some}
use Rattle.std.specs.declared.result.Result.{Result}
use Rattle.std.specs.declared.result.Result.TheVariants.{Ok, Err}
use Rattle.io_edge.specs.declared.lines.LineError.{LineError}
use Rattle.io_edge.specs.declared.lines.LineError.TheVariants.{TooLong, TooMany, NotText, Failed, Memory}
use Rattle.io_edge.specs.Lines.{after_line, line_bytes, line_text, most_lines, most_line_bytes}
use Rattle.io_edge.specs.Reader.{LineText, IsUnlessBroken, next_of}
use Rattle.change_choices.specs.declared.action.Action.{Action}
use Rattle.change_detect.specs.declared.changes.Change.{Change}
use Rattle.choice_lines.specs.Answers.{AreAnswers, AddsAnswer, AreRead}
use Rattle.choice_lines.specs.Refusals.{IsRefused, IsFirstRefused}
use Rattle.choice_lines.specs.declared.error.InputError.{InputError}
use Rattle.choice_lines.specs.declared.error.InputError.TheVariants.{Unread}
use Rattle.choice_lines.proofs.Adding.{no_answers, one_more}

-- one line more is read
pub read_more : (given at : ℕ) (bytes : List ℕ) (texts : List (List ℕ)) (ahead : List ℕ) (text rest : List ℕ) → at ≡ given + length texts → AreRead given bytes texts ahead → next_of at ahead ≡ Ok (Some (record { number = at + 1; text = text })) → rest ≡ after_line ahead → AreRead given bytes (texts ++ text ∷ []) rest
read_more given at bytes [] ahead text rest is_at read next is =
    let same : at ≡ given = omega arith in
    (subst (λ n. next_of n bytes ≡ Ok (Some (record { number = n + 1; text = text }))) same (subst (λ l. next_of at l ≡ Ok (Some (record { number = at + 1; text = text }))) read next), is ∙ ap after_line read)
read_more given at bytes (t ∷ texts) ahead text rest is_at read next is =
    (read.0, read_more (given + 1) at (after_line bytes) texts ahead text rest (omega arith) read.1 next is)

-- the answers so far, where so many lines were given and these bytes are ahead
pub record IsReading (told : Type 0) (changes : List Change) (given : ℕ) (input ahead : List ℕ) (answers : List (List ℕ × Action)) : Type 0 where
  pub front : List (List ℕ)
  pub count : length front ≡ given
  pub read : told → AreRead 0 input front ahead
  pub first : told → lines input ≡ front ++ lines ahead
  pub are : AreAnswers changes front answers

pub reading_start : (told : Type 0) (changes : List Change) (given : ℕ) (input : List ℕ) (answers : List (List ℕ × Action)) → given ≡ 0 → answers ≡ [] → IsReading told changes given input input answers
reading_start told changes given input answers is none = record {
  front = [];
  count = sym is;
  read = λ _. refl;
  first = λ _. refl;
  are = subst (AreAnswers changes []) (sym none) (no_answers changes);
}

module _ (told : Type 0) (changes : List Change) (given : ℕ) (input ahead : List ℕ) (answers : List (List ℕ × Action)) (reading : IsReading told changes given input ahead answers) where
  pub reading_more : (next : ℕ) (line : LineText) (rest : List ℕ) (more : List (List ℕ × Action)) → next ≡ given + 1 → line.number ≡ given + 1 → (told → Ok (Some line) ≡ next_of given ahead) → (told → rest ≡ after_line ahead) → (told → lines ahead ≡ line.text ∷ lines rest) → AddsAnswer changes line.text answers more → IsReading told changes next input rest more
  reading_more next line rest more is number gives after parts adds = record {
    front = reading.front ++ line.text ∷ [];
    count = length-append reading.front (line.text ∷ []) ∙ ap (λ n. n + 1) reading.count ∙ sym is;
    read = λ t. read_more 0 given input reading.front ahead line.text rest (omega (arith, reading.count)) (reading.read t) (sym (gives t) ∙ ap (λ n. Ok (Some (record { number = n; text = line.text }))) number) (after t);
    first = λ t. reading.first t ∙ ap (λ l. reading.front ++ l) (parts t) ∙ sym (append_assoc reading.front (line.text ∷ []) (lines rest));
    are = one_more changes reading.front line.text answers more reading.are adds;
  }

  whole : told → ahead ≡ [] → lines input ≡ reading.front
  whole t none = reading.first t ∙ ap (λ l. reading.front ++ lines l) none ∙ append-nil reading.front

  pub read_whole : told → ahead ≡ [] → AreRead 0 input (lines input) []
  read_whole t none = subst (AreRead 0 input (lines input)) none (subst (λ l. AreRead 0 input l ahead) (sym (whole t none)) (reading.read t))

  pub answers_whole : told → ahead ≡ [] → AreAnswers changes (lines input) answers
  answers_whole t none = subst (λ l. AreAnswers changes l answers) (sym (whole t none)) reading.are

  pub refused_here : told → (next : Result (Option LineText) LineError) (error : InputError) → next ≡ next_of given ahead → IsRefused changes answers next error → IsFirstRefused changes input error
  refused_here t next error is refused = record {
    front = reading.front;
    ahead = ahead;
    read = reading.read t;
    first = reading.first t;
    earlier = answers;
    answers = reading.are;
    refused = subst (λ n. IsRefused changes answers n error) (is ∙ ap (λ n. next_of n ahead) (sym reading.count)) refused;
  }

  -- there is no line that can be read
  pub unread_here : told → (e : LineError) → IsUnlessBroken (Err e) (next_of given ahead) → e ≢ Failed → e ≢ Memory → IsFirstRefused changes input (Unread e)
  unread_here t e answer no_fault some = refused_here t (Err e) (Unread e) (exact e no_fault some (next_of given ahead) answer) refl
    where
      exact : (e : LineError) → e ≢ Failed → e ≢ Memory → (next : Result (Option LineText) LineError) → IsUnlessBroken (Err e) next → Err e ≡ next
      exact TooMany f m next is = is
      exact (TooLong n) f m next is = is
      exact (NotText n) f m next is = is
      exact Failed f m next is = absurd (f refl)
      exact Memory f m next is = absurd (m refl)

-- where a reader gives no line, nothing is ahead
pub ended : (given : ℕ) (bytes : List ℕ) → ◌≡◌ {A = Result (Option LineText) LineError} (Ok None) (next_of given bytes) → bytes ≡ []
ended given [] is = refl
ended given (b ∷ bs) is = absurd (some (nat_le most_lines given) (nat_lt most_line_bytes (length (line_bytes (b ∷ bs)))) (is_utf8 (line_text (b ∷ bs))) is)
  where
    some : (many long good : Bool) → ◌≡◌ {A = Result (Option LineText) LineError} (Ok None) (cond many (Err TooMany) (cond long (Err (TooLong (given + 1))) (cond good (Ok (Some (record { number = given + 1; text = line_text (b ∷ bs) }))) (Err (NotText (given + 1)))))) → ⊥
    some true long good is = cc
    some false true good is = cc
    some false false true is = cc
    some false false false is = cc

-- what is left behind the last line
pub none_left : (held left ahead : List ℕ) → ahead ≡ [] → held ++ left ≡ after_line ahead → left ≡ []
none_left held left ahead none is = by held left (is ∙ ap after_line none)
  where
    by : (xs ys : List ℕ) → xs ++ ys ≡ [] → ys ≡ []
    by [] ys e = e
    by (x ∷ xs) ys e = absurd (cc)
