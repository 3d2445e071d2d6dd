-- From what a command did to its answer and what is written.
use Rattle.std.proofs.Common.{◌≡◌, ◌⊎◌, ℕ, Bool, true, false, cond, List, refl, sym, ap, subst, inl, inr}
use Rattle.std.specs.declared.option.Option.{Option}
use Rattle.std.specs.declared.option.Option.TheVariants.{None, Some}
use Rattle.std.specs.declared.result.Result.{Result}
use Rattle.std.specs.declared.result.Result.TheVariants as result
use Rattle.io_edge.specs.declared.error.IoError.{IoError}
use Rattle.io_edge.specs.declared.error.IoError.TheVariants as io
use Rattle.tree_fs.specs.Story.{Story}
use Rattle.command_words.specs.declared.command.Command.{Command}
use Rattle.command_steps.specs.declared.limits.Limits.{Limits}
use Rattle.command_steps.specs.declared.stop.Stop.{Stop}
use Rattle.command_steps.specs.declared.stop.Stop.TheVariants as stop
use Rattle.command_steps.specs.Stops.{IsFault}
use Rattle.command_steps.specs.Orders.{AllPass, IsFirst, IsWhy}
use Rattle.command_steps.proofs.Orders.{none_first, one_first}
use Rattle.command_steps.proofs.Refusing.{exclusive, unique}
use Rattle.deploy_engine.specs.declared.answer.Answer.{Answer}
use Rattle.deploy_engine.specs.declared.answer.Answer.TheVariants.{Ok, Changes, Usage, Refused, RecoverFirst, TreeFault, SourceFault, SinkFault, Memory}
use Rattle.deploy_engine.specs.declared.commands.Report.{Report}
use Rattle.deploy_engine.specs.Works.{Work, NeverGivesUp, IsUnbegun}
use Rattle.deploy_engine.specs.Table.{work_of}
use Rattle.deploy_engine.specs.Carried.{Did, GaveUp, Carried}
use Rattle.deploy_engine.specs.Answers.{StopsSo, Says, SaysOf, IsWritten, IsCutOff, Ends, Caused, IsSpoken, IsSaid, IsDoneOrMemory, answer_of, sink_answer, AreTold, ReadsInput}

-- whom an error of the sink blames
pub sink_causes : (sink : Type 0) (e : IoError) → (e ≡ io.Failed → sink) → Caused ⊥ ⊥ sink (sink_answer e)
sink_causes sink io.Failed blamed = blamed refl
sink_causes sink io.Memory blamed = tt

module _ (Claim : Answer → List ℕ → Type 0) (tells : Type 0) (before now : List ℕ) where
  pub ends_whole : (answer : Answer) → IsSpoken answer → IsWritten Claim tells before now answer → Ends Claim tells before now answer
  ends_whole Ok _ is = is
  ends_whole Changes _ is = is
  ends_whole Usage _ is = is
  ends_whole (Refused refusal) _ is = is
  ends_whole RecoverFirst _ is = is
  ends_whole TreeFault spoken is = absurd spoken
  ends_whole SourceFault spoken is = absurd spoken
  ends_whole SinkFault spoken is = absurd spoken
  ends_whole Memory spoken is = absurd spoken

module _ (A B : Answer → List ℕ → Type 0) (tells : Type 0) (before now : List ℕ) (weaken : (a : Answer) (t : List ℕ) → A a t → B a t) where
  whole_weaken : (answer : Answer) → IsWritten A tells before now answer → IsWritten B tells before now answer
  whole_weaken answer is = record { text = is.text; claim = weaken answer is.text is.claim; written = is.written }

  cut_weaken : IsCutOff A tells before now → IsCutOff B tells before now
  cut_weaken is = record { answer = is.answer; text = is.text; claim = weaken is.answer is.text is.claim; written = is.written }

  pub ends_weaken : (answer : Answer) → Ends A tells before now answer → Ends B tells before now answer
  ends_weaken Ok is = whole_weaken Ok is
  ends_weaken Changes is = whole_weaken Changes is
  ends_weaken Usage is = whole_weaken Usage is
  ends_weaken (Refused refusal) is = whole_weaken (Refused refusal) is
  ends_weaken RecoverFirst is = whole_weaken RecoverFirst is
  ends_weaken TreeFault is = is
  ends_weaken SourceFault is = is
  ends_weaken SinkFault is = cut_weaken is
  ends_weaken Memory (inl none) = inl none
  ends_weaken Memory (inr cut) = inr (cut_weaken cut)

-- what is said of a command that was carried out
module _ (told : Type 0) (work : Work) (limits : Limits) (old new : Story) where
  done_says : (changes : Bool) (text : List ℕ) → (told → Did work limits old new changes text) → Says told work limits old new (cond changes Changes Ok) text
  done_says true text did = did
  done_says false text did = did

  first_of_why : (stop : Stop) → IsWhy work.steps limits old stop new ⊎ GaveUp work limits old stop new → ¬ IsFault stop → StopsSo work limits old stop new
  first_of_why stop (inl why) spoken = elim why.why [ inl fault ↦ absurd (spoken fault) | inr first ↦ inl first ]
  first_of_why stop (inr gave) spoken = inr gave

  pub says_of : (came : Result Report Stop) → (told → Carried work limits old new came) → (answer : Answer) (text : List ℕ) → IsSaid came answer text → Says told work limits old new answer text
  says_of (result.Ok report) carried answer text said =
      subst (λ a. Says told work limits old new a text) (sym said.0) (done_says report.changes text (λ t. subst (Did work limits old new report.changes) (sym said.1) (carried t).did))
  says_of (result.Err (stop.Refused refusal)) carried answer text said =
      subst (λ a. Says told work limits old new a text) (sym said.0) ((λ t. first_of_why (stop.Refused refusal) (carried t).stopped (λ fault. fault)), said.1)
  says_of (result.Err stop.RecoverFirst) carried answer text said =
      subst (λ a. Says told work limits old new a text) (sym said.0) ((λ t. first_of_why stop.RecoverFirst (carried t).stopped (λ fault. fault)), said.1)
  says_of (result.Err stop.TreeFault) carried answer text said = absurd said
  says_of (result.Err stop.Memory) carried answer text said = absurd said

  only_first : (stop : Stop) → NeverGivesUp work old → StopsSo work limits old stop new → IsFirst work.steps limits old stop new
  only_first stop steady (inl first) = first
  only_first stop steady (inr gave) = absurd (steady new stop gave.amid)

  module _ (tells : Type 0) (before now : List ℕ) (tree source sink : Type 0) (told_ : told) (no_tree : ¬ tree) (no_source : ¬ source) (no_sink : ¬ sink) where
    -- where no step refuses and nothing fails, the work is done
    pub completes : (answer : Answer) → Ends (Says told work limits old new) tells before now answer → Caused tree source sink answer → NeverGivesUp work old → AllPass work.steps limits old → IsDoneOrMemory answer
    completes Ok ends caused steady all = inl refl
    completes Changes ends caused steady all = inr (inl refl)
    completes Usage ends caused steady all = absurd ends.claim
    completes (Refused refusal) ends caused steady all = absurd (none_first exclusive work.steps limits old (stop.Refused refusal) new all (only_first (stop.Refused refusal) steady (ends.claim.0 told_)))
    completes RecoverFirst ends caused steady all = absurd (none_first exclusive work.steps limits old stop.RecoverFirst new all (only_first stop.RecoverFirst steady (ends.claim.0 told_)))
    completes TreeFault ends caused steady all = absurd (no_tree caused)
    completes SourceFault ends caused steady all = absurd (no_source caused)
    completes SinkFault ends caused steady all = absurd (no_sink caused)
    completes Memory ends caused steady all = inr (inr refl)

    gave_or_first : (one why : Stop) (left : Story) → StopsSo work limits old one new → IsFirst work.steps limits old why left → one ≡ why
    gave_or_first one why left (inl first) turned = (one_first exclusive unique work.steps limits old one why new left first turned).0
    gave_or_first one why left (inr gave) turned = absurd (none_first exclusive work.steps limits old why left gave.passed turned)

    -- where a step refuses and nothing fails, that is the answer
    pub turns_away : (answer : Answer) → Ends (Says told work limits old new) tells before now answer → Caused tree source sink answer → (why : Stop) (left : Story) → IsFirst work.steps limits old why left → (answer ≡ answer_of why) ⊎ (answer ≡ Memory)
    turns_away Ok ends caused why left first = absurd (none_first exclusive work.steps limits old why left (ends.claim told_).passed first)
    turns_away Changes ends caused why left first = absurd (none_first exclusive work.steps limits old why left (ends.claim told_).passed first)
    turns_away Usage ends caused why left first = absurd ends.claim
    turns_away (Refused refusal) ends caused why left first = inl (ap answer_of (gave_or_first (stop.Refused refusal) why left (ends.claim.0 told_) first))
    turns_away RecoverFirst ends caused why left first = inl (ap answer_of (gave_or_first stop.RecoverFirst why left (ends.claim.0 told_) first))
    turns_away TreeFault ends caused why left first = absurd (no_tree caused)
    turns_away SourceFault ends caused why left first = absurd (no_source caused)
    turns_away SinkFault ends caused why left first = absurd (no_sink caused)
    turns_away Memory ends caused why left first = inr refl

-- a story that is as it was
module _ (told : Type 0) (limits : Limits) (old now new : Story) (same : told → old ≡ now) where
  says_since : (work : Work) (answer : Answer) (text : List ℕ) → Says told work limits old new answer text → Says told work limits now new answer text
  says_since work Ok text says = λ t. subst (λ s. Did work limits s new false text) (same t) (says t)
  says_since work Changes text says = λ t. subst (λ s. Did work limits s new true text) (same t) (says t)
  says_since work Usage text says = says
  says_since work (Refused refusal) text says = ((λ t. subst (λ s. StopsSo work limits s (stop.Refused refusal) new) (same t) (says.0 t)), says.1)
  says_since work RecoverFirst text says = ((λ t. subst (λ s. StopsSo work limits s stop.RecoverFirst new) (same t) (says.0 t)), says.1)
  says_since work TreeFault text says = says
  says_since work SourceFault text says = says
  says_since work SinkFault text says = says
  says_since work Memory text says = says

  said_since : (input : List ℕ) (command : Option Command) (answer : Answer) (text : List ℕ) → SaysOf told input command limits old new answer text → SaysOf told input command limits now new answer text
  said_since input None answer text says = (says.0, (λ t. subst (λ s. new ≡ s) (same t) (says.1 t)), says.2)
  said_since input (Some command) answer text says = says_since (work_of input command) answer text says

  pub ends_since : (input : List ℕ) (command said : Option Command) (tells : Type 0) (before after : List ℕ) (answer : Answer) → command ≡ said → Ends (SaysOf told input command limits old new) tells before after answer → Ends (SaysOf told input said limits now new) tells before after answer
  ends_since input command said tells before after answer is ends =
      ends_weaken (SaysOf told input said limits old new) (SaysOf told input said limits now new) tells before after (said_since input said) answer
      (subst (λ o. Ends (SaysOf told input o limits old new) tells before after answer) is ends)

-- what is said where less is told
module _ (more told : Type 0) (tells_more : more → told) (limits : Limits) (old new : Story) where
  says_less : (work : Work) (answer : Answer) (text : List ℕ) → Says told work limits old new answer text → Says more work limits old new answer text
  says_less work Ok text says = λ t. says (tells_more t)
  says_less work Changes text says = λ t. says (tells_more t)
  says_less work Usage text says = says
  says_less work (Refused refusal) text says = ((λ t. says.0 (tells_more t)), says.1)
  says_less work RecoverFirst text says = ((λ t. says.0 (tells_more t)), says.1)
  says_less work TreeFault text says = says
  says_less work SourceFault text says = says
  says_less work SinkFault text says = says
  says_less work Memory text says = says

  pub said_less : (input : List ℕ) (command : Option Command) (answer : Answer) (text : List ℕ) → SaysOf told input command limits old new answer text → SaysOf more input command limits old new answer text
  said_less input None answer text says = (says.0, (λ t. says.1 (tells_more t)), says.2)
  said_less input (Some command) answer text says = says_less (work_of input command) answer text says

-- the same, where what is told goes by the command
pub ends_since_told : (tree source : Type 0) (limits : Limits) (old now new : Story) → (tree → old ≡ now) → (input : List ℕ) (command said : Option Command) (tells : Type 0) (before after : List ℕ) (answer : Answer) → command ≡ said
    → Ends (SaysOf (AreTold tree source command) input command limits old new) tells before after answer → Ends (SaysOf (AreTold tree source said) input said limits now new) tells before after answer
ends_since_told tree source limits old now new same input command said tells before after answer is ends =
    ends_since (AreTold tree source said) limits old now new (λ t. same t.0) input said said tells before after answer refl
    (subst (λ o. Ends (SaysOf (AreTold tree source o) input o limits old new) tells before after answer) is ends)

pub reads_since : (told reads : Type 0) (left : List ℕ) (old now new : Story) (answer : Answer) → (told → old ≡ now) → ReadsInput told reads left old new answer → ReadsInput told reads left now new answer
reads_since told reads left old now new answer same r = record {
  ended = r.ended;
  unread = λ t s some. subst (λ x. IsUnbegun x new) (same t) (r.unread t s some);
  failed = λ t is. subst (λ x. IsUnbegun x new) (same t) (r.failed t is);
}

-- memory ran out before a command was known
pub reads_none : (told reads : Type 0) (left : List ℕ) (old new : Story) → (told → new ≡ old) → ReadsInput told reads left old new Memory
reads_none told reads left old new same = record {
  ended = λ r is. let no : Memory ≡ Ok = is in cc;
  unread = λ t s some. inl (same t);
  failed = λ t is. inl (same t);
}
