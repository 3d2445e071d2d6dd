use Rattle.std.specs.Prelude.{◌≡◌, ◌≢◌, ◌⊎◌, ℕ, true, false, if◌then◌else◌, List, [], ◌++◌}
use Rattle.std.specs.declared.result.Result.{Result}
use Rattle.std.specs.declared.result.Result.TheVariants as result
use Rattle.std.specs.declared.option.Option.{Option}
use Rattle.std.specs.declared.option.Option.TheVariants.{None, Some}
use Rattle.io_edge.specs.declared.error.IoError.{IoError}
use Rattle.io_edge.specs.declared.error.IoError.TheVariants as io
use Rattle.io_edge.specs.Appends.{AppendsPrefix}
use Rattle.tree_fs.specs.Story.{Story}
use Rattle.deploy_engine.specs.declared.answer.Answer.{Answer}
use Rattle.deploy_engine.specs.declared.answer.Answer.TheVariants.{Ok, Changes, Usage, Refused, RecoverFirst, TreeFault, SourceFault, SinkFault, Memory}
use Rattle.command_words.specs.declared.command.Command.{Command}
use Rattle.command_steps.specs.declared.limits.Limits.{Limits}
use Rattle.deploy_engine.specs.declared.commands.Report.{Report}
use Rattle.command_steps.specs.declared.stop.Stop.{Stop}
use Rattle.command_steps.specs.declared.stop.Stop.TheVariants as stop
use Rattle.command_steps.specs.Orders.{IsFirst}
use Rattle.deploy_engine.specs.Works.{Work, Moves, IsUnbegun}
use Rattle.deploy_engine.specs.Words.{TakesInput}
use Rattle.deploy_engine.specs.Table.{work_of}
use Rattle.answer_lines.specs.declared.fixed.FixedLine.TheVariants as fixed
use Rattle.answer_lines.specs.Refusals.{refusal_line}
use Rattle.answer_lines.specs.Told.{fixed_line}
use Rattle.deploy_engine.specs.Carried.{Did, GaveUp}

-- a command stopped at the first step that refuses, or gave up in the midst of its work
abbrev pub StopsSo : Work → Limits → Story → Stop → Story → Type 0
StopsSo work limits old stop new =
    IsFirst work.steps limits old stop new ⊎ GaveUp work limits old stop new

-- what a command did and why, where it gives this answer and this is the text that it has to print;
-- what is said of the disk is said where the tree told its story
abbrev pub Says : (told : Type 0) → Work → Limits → Story → Story → Answer → List ℕ → Type 0
Says told work limits old new Ok text = told → Did work limits old new false text
Says told work limits old new Changes text = told → Did work limits old new true text
Says told work limits old new (Refused refusal) text =
    (told → StopsSo work limits old (stop.Refused refusal) new) × (text ≡ refusal_line refusal)
Says told work limits old new RecoverFirst text =
    (told → StopsSo work limits old stop.RecoverFirst new)
    × (text ≡ fixed_line fixed.RecoverFirst)
Says told work limits old new Usage text = ⊥
Says told work limits old new TreeFault text = ⊥
Says told work limits old new SourceFault text = ⊥
Says told work limits old new SinkFault text = ⊥
Says told work limits old new Memory text = ⊥

-- the same of words that are this command, or none, where this is the input
abbrev pub SaysOf : (told : Type 0) → List ℕ → Option Command → Limits → Story → Story → Answer
    → List ℕ → Type 0
SaysOf told input None limits old new answer text =
    (answer ≡ Usage) × (told → new ≡ old) × (text ≡ fixed_line fixed.Usage)
SaysOf told input (Some command) limits old new answer text =
    Says told (work_of input command) limits old new answer text

-- the tree tells its story, and the source its bytes where the command takes them
abbrev pub AreTold : (tree source : Type 0) → Option Command → Type 0
AreTold tree source command = tree × (TakesInput command → source)

-- how far a settlement reads its input, where these bytes are left in the source
pub record ReadsInput (told reads : Type 0) (left : List ℕ) (old new : Story) (answer : Answer) : Type 0 where
  -- Ok says that the source was read to its end
  pub ended : reads → answer ≡ Ok → left ≡ []
  -- where it wasn't, or failed, no op but the barrier's is added
  pub unread : told → reads → left ≢ [] → IsUnbegun old new
  pub failed : told → answer ≡ SourceFault → IsUnbegun old new

-- a whole text is written
pub record IsWritten (Claim : Answer → List ℕ → Type 0) (tells : Type 0) (before now : List ℕ) (answer : Answer) : Type 0 where
  pub text : List ℕ
  pub claim : Claim answer text
  pub written : tells → now ≡ before ++ text

-- the work is done, and a first part of its text is written
pub record IsCutOff (Claim : Answer → List ℕ → Type 0) (tells : Type 0) (before now : List ℕ) : Type 0 where
  pub answer : Answer
  pub text : List ℕ
  pub claim : Claim answer text
  pub written : tells → AppendsPrefix before now text

-- how a command ended, where the claim is what it did and has to print at each answer
abbrev pub Ends : (Claim : Answer → List ℕ → Type 0) (tells : Type 0) → List ℕ → List ℕ
    → Answer → Type 0
Ends Claim tells before now Ok = IsWritten Claim tells before now Ok
Ends Claim tells before now Changes = IsWritten Claim tells before now Changes
Ends Claim tells before now Usage = IsWritten Claim tells before now Usage
Ends Claim tells before now (Refused refusal) = IsWritten Claim tells before now (Refused refusal)
Ends Claim tells before now RecoverFirst = IsWritten Claim tells before now RecoverFirst
Ends Claim tells before now TreeFault = tells → now ≡ before
Ends Claim tells before now SourceFault = tells → now ≡ before
Ends Claim tells before now SinkFault = IsCutOff Claim tells before now
Ends Claim tells before now Memory = (tells → now ≡ before) ⊎ IsCutOff Claim tells before now

-- what an answer blames: the count of the tree, the source or the sink rose
abbrev pub Caused : (tree source sink : Type 0) → Answer → Type 0
Caused tree source sink TreeFault = tree
Caused tree source sink SourceFault = source
Caused tree source sink SinkFault = sink
Caused tree source sink Ok = Unit {0}
Caused tree source sink Changes = Unit {0}
Caused tree source sink Usage = Unit {0}
Caused tree source sink (Refused refusal) = Unit {0}
Caused tree source sink RecoverFirst = Unit {0}
Caused tree source sink Memory = Unit {0}

-- an answer that has a text
abbrev pub IsSpoken : Answer → Type 0
IsSpoken Ok = Unit {0}
IsSpoken Changes = Unit {0}
IsSpoken Usage = Unit {0}
IsSpoken (Refused refusal) = Unit {0}
IsSpoken RecoverFirst = Unit {0}
IsSpoken TreeFault = ⊥
IsSpoken SourceFault = ⊥
IsSpoken SinkFault = ⊥
IsSpoken Memory = ⊥

-- this answer and this text
abbrev pub IsThis : Answer → List ℕ → Answer → List ℕ → Type 0
IsThis this_answer this_text answer text = (answer ≡ this_answer) × (text ≡ this_text)

-- what is said of what came of a command
abbrev pub IsSaid : Result Report Stop → Answer → List ℕ → Type 0
IsSaid (result.Ok report) answer text =
    (answer ≡ (if report.changes then Changes else Ok)) × (text ≡ report.lines.items)
IsSaid (result.Err (stop.Refused refusal)) answer text =
    IsThis (Refused refusal) (refusal_line refusal) answer text
IsSaid (result.Err stop.RecoverFirst) answer text =
    IsThis RecoverFirst (fixed_line fixed.RecoverFirst) answer text
IsSaid (result.Err stop.TreeFault) answer text = ⊥
IsSaid (result.Err stop.Memory) answer text = ⊥

-- the disks along the command, and none where the words are no command
abbrev pub IsAlong : List ℕ → Option Command → Story → Story → Type 0
IsAlong input None old new = new ≡ old
IsAlong input (Some command) old new = Moves (work_of input command) old new

-- the words are no command, or one that adds no op, whatever the input is and whatever it answers
abbrev pub OnlyLooks : Option Command → Type 0
OnlyLooks None = Unit {0}
OnlyLooks (Some command) = (work_of [] command).OnlyLooks

-- the answers that a command gives where it isn't refused and nothing fails
abbrev pub IsDoneOrMemory : Answer → Type 0
IsDoneOrMemory answer = (answer ≡ Ok) ⊎ (answer ≡ Changes) ⊎ (answer ≡ Memory)

-- how a command answers at an error of the sink
abbrev pub sink_answer : IoError → Answer
sink_answer io.Failed = SinkFault
sink_answer io.Memory = Memory

-- how a command answers that stops so
abbrev pub answer_of : Stop → Answer
answer_of (stop.Refused refusal) = Refused refusal
answer_of stop.RecoverFirst = RecoverFirst
answer_of stop.TreeFault = TreeFault
answer_of stop.Memory = Memory
