-- A batch, line by line.
use Rattle.std.proofs.Common.{◌≡◌, ◌⊎◌, ℕ, ◌+◌, ◌==◌, Bool, true, false, cond, List, [], ◌∷◌, ◌++◌, length, refl, sym, ap, ◌∙◌, subst, inl, inr, append_assoc, append-nil, length-append}
use Rattle.std.specs.Prelude.{nat_le, nat_lt}
use Rattle.std.specs.Str.{is_utf8}
use Rattle.std.specs.declared.option.Option.{Option}
use Rattle.std.specs.declared.option.Option.TheVariants.{None, Some}
use Rattle.std.specs.declared.result.Result.{Result}
use Rattle.std.specs.declared.result.Result.TheVariants as result
use Rattle.io_edge.specs.declared.lines.LineError.{LineError}
use Rattle.io_edge.specs.declared.lines.LineError.TheVariants as error
use Rattle.io_edge.specs.Lines.{line_bytes, line_text, most_lines, most_line_bytes, TakesNoEnd}
use Rattle.std.specs.Str.Lines.{lines}
use Rattle.io_edge.specs.Reader.{LineText, IsUnlessBroken, next_of}
use Rattle.tree_fs.specs.Story.{Story}
use Rattle.deploy_engine.specs.declared.answer.Answer.{Answer}
use Rattle.deploy_engine.specs.declared.answer.Answer.TheVariants.{Ok, Changes, Usage, Refused, RecoverFirst, TreeFault, SourceFault, SinkFault, Memory}
use Rattle.command_words.specs.declared.command.Command.{Command}
use Rattle.command_steps.specs.declared.limits.Limits.{Limits}
use Rattle.deploy_engine.specs.Words.{line_said}
use Rattle.deploy_engine.specs.Answers.{SaysOf, Ends, Caused, IsAlong, OnlyLooks}
use Rattle.deploy_engine.specs.Batches.{SaysLine, IsDone, AreDone, IsUnread, IsNext, IsLast, Batched, IsGoing}
use Rattle.deploy_engine.proofs.Telling.{ends_weaken}

pub says_line : (told : Type 0) (line : List ℕ) (limits : Limits) (old new : Story) → (length line == 0) ≡ false → (answer : Answer) (text : List ℕ) → SaysOf told [] (line_said line) limits old new answer text → SaysLine told line limits old new answer text
says_line told [] limits old new some answer text says = let no_way : true ≡ false = some in cc
says_line told (b ∷ bs) limits old new some answer text says = says

done_more : (told : Type 0) (limits : Limits) (before : List (List ℕ)) (line : List ℕ) (old mid new : Story) (text one : List ℕ) → AreDone told limits before old mid text → IsDone told limits line mid new one → AreDone told limits (before ++ line ∷ []) old new (text ++ one)
done_more told limits [] line old mid new text one all done =
    (new, one, [], subst (λ s. IsDone told limits line s new one) all.0 done, (refl, refl), ap (λ t. t ++ one) all.1 ∙ sym (append-nil one))
done_more told limits (x ∷ xs) line old mid new text one all done =
    (all.0, all.1, all.2 ++ one, all.3, done_more told limits xs line all.0 mid new all.2 one all.4 done, ap (λ t. t ++ one) all.5 ∙ append_assoc all.1 all.2 one)

-- what is answered, by the three tests
abbrev answered : ℕ → List ℕ → Bool → Bool → Bool → Result (Option LineText) LineError
answered given line many long text = cond many (result.Err error.TooMany) (cond long (result.Err (error.TooLong (given + 1))) (cond text (result.Ok (Some (record { number = given + 1; text = line }))) (result.Err (error.NotText (given + 1)))))

-- the input is at its end
pub ended : (given : ℕ) (bytes : List ℕ) → ◌≡◌ {A = Result (Option LineText) LineError} (result.Ok None) (next_of given bytes) → bytes ≡ []
ended given [] e = refl
ended given (b ∷ bs) e = absurd (by_tests (nat_le most_lines given) (nat_lt most_line_bytes (length (line_bytes (b ∷ bs)))) (is_utf8 (line_text (b ∷ bs))) e)
  where
    by_tests : (many long text : Bool) → ◌≡◌ {A = Result (Option LineText) LineError} (result.Ok None) (answered given (line_text (b ∷ bs)) many long text) → ⊥
    by_tests true long text e = cc
    by_tests false true text e = cc
    by_tests false false true e = cc
    by_tests false false false e = cc

module _ (told tells reads : Type 0) (limits : Limits) (given : ℕ) (input left : List (List ℕ)) (old now : Story) (before written at_end : List ℕ) (going : IsGoing told tells reads limits given input left old now before written) where
  -- one line more is done
  pub going_more : (next : ℕ) → next ≡ given + 1 → (line : List ℕ) (rest : List (List ℕ)) (new : Story) (after : List ℕ) → (reads → left ≡ line ∷ rest) → Ends (SaysLine told line limits now new) tells written after Ok → (told → IsAlong [] (line_said line) now new) → (told → OnlyLooks (line_said line) → new ≡ now)
      → IsGoing told tells reads limits next input rest old new before after
  going_more next is_next_one line rest new after is_next ends stops looks = record {
    done = going.done ++ line ∷ [];
    printed = going.printed ++ ends.text;
    are_done = done_more told limits going.done line old now new going.printed ends.text going.are_done (record { says = ends.claim; stops = stops; looks = looks });
    text = λ t. ends.written t ∙ ap (λ w. w ++ ends.text) (going.text t) ∙ append_assoc before going.printed ends.text;
    rest = λ r. going.rest r ∙ ap (λ l. going.done ++ l) (is_next r) ∙ sym (append_assoc going.done (line ∷ []) rest);
    count = length-append going.done (line ∷ []) ∙ ap (λ n. n + 1) going.count ∙ sym is_next_one;
  }

  -- how it ends
  ends_so : (answer : Answer) (new : Story) (after : List ℕ) (last : Option Command) → Ends (IsLast told limits reads input going.done now new) tells written after answer → (told → IsAlong [] last now new) → (told → OnlyLooks last → new ≡ now)
      → (reads → (last ≡ None) ⊎ ((line : List ℕ) × IsNext input going.done line × (last ≡ line_said line))) → (told → answer ≡ SourceFault → new ≡ now) → (reads → answer ≡ SourceFault → (ahead : List ℕ) × (input ≡ going.done ++ lines ahead) × TakesNoEnd ahead at_end)
      → Batched told tells reads limits input at_end old new before after answer
  ends_so answer new after last ends stops looks begun stays unfinished = record {
    start = old;
    begins = λ _. refl;
    done = going.done;
    mid = now;
    printed = going.printed;
    are_done = going.are_done;
    first = λ r. (left, going.rest r);
    source_fault = stays;
    unfinished = unfinished;
    written = written;
    text = going.text;
    ends = ends;
    last = last;
    begun = begun;
    stops = stops;
    looks = looks;
  }

  -- where no line is begun
  still : (answer : Answer) (after : List ℕ) → Ends (IsLast told limits reads input going.done now now) tells written after answer → (reads → answer ≡ SourceFault → (ahead : List ℕ) × (input ≡ going.done ++ lines ahead) × TakesNoEnd ahead at_end) → Batched told tells reads limits input at_end old now before after answer
  still answer after ends unfinished = ends_so answer now after None ends (λ _. refl) (λ _ _. refl) (λ _. inl refl) (λ _ _. refl) unfinished

  pub by_end : (reads → left ≡ []) → Batched told tells reads limits input at_end old now before written Ok
  by_end none = still Ok written (record {
    text = [];
    claim = inl (refl, (λ r. going.rest r ∙ ap (λ l. going.done ++ l) (none r) ∙ append-nil going.done), (λ _. refl), refl);
    written = λ _. sym (append-nil written);
  }) (λ r is. cc)

  pub by_line : (line : List ℕ) (rest : List (List ℕ)) (answer : Answer) (new : Story) (after : List ℕ) → (reads → left ≡ line ∷ rest) → Ends (SaysLine told line limits now new) tells written after answer → (told → IsAlong [] (line_said line) now new) → (told → OnlyLooks (line_said line) → new ≡ now) → (answer ≡ SourceFault → ⊥)
      → Batched told tells reads limits input at_end old new before after answer
  by_line line rest answer new after is_next ends stops looks no_source = ends_so answer new after (line_said line)
      (ends_weaken (SaysLine told line limits now new) (IsLast told limits reads input going.done now new) tells written after
      (λ a t says. inr (inl (line, (λ r. (rest, going.rest r ∙ ap (λ l. going.done ++ l) (is_next r))), says))) answer ends) stops looks
      (λ r. inr (line, (rest, going.rest r ∙ ap (λ l. going.done ++ l) (is_next r)), refl)) (λ _ is. absurd (no_source is)) (λ _ is. absurd (no_source is))

  pub by_unread : (e : LineError) (ahead : List ℕ) (answer : Answer) (after : List ℕ) → (reads → left ≡ lines ahead) → (reads → IsUnlessBroken (result.Err e) (next_of given ahead)) → Ends (IsUnread e) tells written after answer → (reads → answer ≡ SourceFault → TakesNoEnd ahead at_end)
      → Batched told tells reads limits input at_end old now before after answer
  by_unread e ahead answer after is_left next ends takes = still answer after
      (ends_weaken (IsUnread e) (IsLast told limits reads input going.done now now) tells written after
      (λ a t unread. inr (inr (record {
        error = e;
        unread = unread;
        stays = λ _. refl;
        ahead = ahead;
        next = λ r. ap (λ n. next_of n ahead) going.count ∙ sym (exact a t e unread (next_of given ahead) (next r));
        among = λ r. going.rest r ∙ ap (λ l. going.done ++ l) (is_left r);
      }))) answer ends) (λ r is. (ahead, going.rest r ∙ ap (λ l. going.done ++ l) (is_left r), takes r is))
    where
      exact : (a : Answer) (t : List ℕ) (e : LineError) → IsUnread e a t → (answer : Result (Option LineText) LineError) → IsUnlessBroken (result.Err e) answer → result.Err e ≡ answer
      exact a t error.TooMany unread answer is = is
      exact a t (error.TooLong n) unread answer is = is
      exact a t (error.NotText n) unread answer is = is
      exact a t error.Failed unread answer is = absurd unread
      exact a t error.Memory unread answer is = absurd unread

  -- memory ran out before a line was read
  pub by_memory : Batched told tells reads limits input at_end old now before written Memory
  by_memory = still Memory written (inl (λ _. refl)) (λ r is. cc)

pub going_start : (told tells reads : Type 0) (limits : Limits) (input : List (List ℕ)) (old : Story) (before : List ℕ) (given : ℕ) → given ≡ 0 → IsGoing told tells reads limits given input input old old before before
going_start told tells reads limits input old before given is = record { done = []; printed = []; are_done = (refl, refl); text = λ _. sym (append-nil before); rest = λ _. refl; count = sym is }

pub caused_more : (tree source sink tree_too source_too sink_too : Type 0) (answer : Answer) → (tree → tree_too) → (source → source_too) → (sink → sink_too) → Caused tree source sink answer → Caused tree_too source_too sink_too answer
caused_more tree source sink tree_too source_too sink_too TreeFault t s k is = t is
caused_more tree source sink tree_too source_too sink_too SourceFault t s k is = s is
caused_more tree source sink tree_too source_too sink_too SinkFault t s k is = k is
caused_more tree source sink tree_too source_too sink_too Ok t s k is = tt
caused_more tree source sink tree_too source_too sink_too Changes t s k is = tt
caused_more tree source sink tree_too source_too sink_too Usage t s k is = tt
caused_more tree source sink tree_too source_too sink_too (Refused refusal) t s k is = tt
caused_more tree source sink tree_too source_too sink_too RecoverFirst t s k is = tt
caused_more tree source sink tree_too source_too sink_too Memory t s k is = tt

-- what blames no source
pub none_of_source : (tree sink : Type 0) (answer : Answer) → Caused tree ⊥ sink answer → answer ≡ SourceFault → ⊥
none_of_source tree sink answer caused is = subst (Caused tree ⊥ sink) is caused

-- a batch that began where the story was the same
pub batched_since : (told tells reads : Type 0) (limits : Limits) (input : List (List ℕ)) (at_end : List ℕ) (old now new : Story) (before after : List ℕ) (answer : Answer) → (told → old ≡ now) → Batched told tells reads limits input at_end old new before after answer → Batched told tells reads limits input at_end now new before after answer
batched_since told tells reads limits input at_end old now new before after answer same b = record {
  start = b.start;
  begins = λ t. b.begins t ∙ same t;
  done = b.done;
  mid = b.mid;
  printed = b.printed;
  are_done = b.are_done;
  first = b.first;
  source_fault = b.source_fault;
  unfinished = b.unfinished;
  written = b.written;
  text = b.text;
  ends = b.ends;
  last = b.last;
  begun = b.begun;
  stops = b.stops;
  looks = b.looks;
}

-- which command it is
abbrev pub said_or : Command → Option Command → Command
said_or other None = other
said_or other (Some command) = command

-- what blames the source alone
pub source_blamed : (tree source sink : Type 0) (answer : Answer) → Caused tree source sink answer → answer ≡ SourceFault → source
source_blamed tree source sink answer caused is = subst (Caused tree source sink) is caused
