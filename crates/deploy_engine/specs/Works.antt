-- What a command is to do.
use Rattle.std.specs.Prelude.{◌≡◌, ◌⊎◌, ℕ, List, []}
use Rattle.tree_fs.specs.Disk.{Disk}
use Rattle.tree_fs.specs.Story.{Story, Along, disk_of}
use Rattle.intent_journal.specs.Sweeps.{Sweeps}
use Rattle.command_steps.specs.declared.stop.Stop.{Stop}
use Rattle.command_steps.specs.Steps.{Step}
use Rattle.command_steps.specs.Orders.{after_steps}

-- the story at the start of a command, the one behind its steps, and the one at its end
pub record Course : Type 0 where
  pub start : Story
  pub base : Story
  pub end : Story

-- What a command is to do.
pub record Work : Type 1 where
  -- the steps, in the order in which they may refuse
  pub steps : List Step
  -- what holds after Ok or Changes
  pub Leaves : Course → Type 0
  -- the text that is printed then
  pub Prints : Course → List ℕ → Type 0
  -- where the answer is Changes in place of Ok
  pub FindsChanges : Course → Type 0
  -- what the steps since the base may be, whatever the answer: what a stop in the work finds
  pub Goes : Course → Type 0
  -- why the work was given up in its midst
  pub GivesUp : Course → Stop → Type 0
  -- that the command adds no op, whatever it answers
  pub OnlyLooks : Type 0

-- of a command that never answers Changes
abbrev pub NoChanges : Disk → Type 0
NoChanges d = ⊥

-- of a command that never gives its work up
abbrev pub NoGivingUp : Course → Stop → Type 0
NoGivingUp c stop = ⊥

-- nothing is added behind the steps
abbrev pub Stays : Course → Type 0
Stays c = c.end ≡ c.base

-- a command that only looks, by its steps, and by what it prints of the disk behind them and where
-- it finds changes there
abbrev pub looking : List Step → (Disk → List ℕ → Type 0) → (Disk → Type 0) → Work
looking steps Prints Finds = record {
  steps = steps;
  Leaves = Stays;
  Prints = λ c text. Prints (disk_of c.base) text;
  FindsChanges = λ c. Finds (disk_of c.base);
  Goes = Stays;
  GivesUp = NoGivingUp;
  OnlyLooks = Unit {0};
}

-- a command that may change something, by its steps, what it leaves and prints, how it goes on
-- behind them, and why it may give its work up
abbrev pub changing : List Step → (Course → Type 0) → (Course → List ℕ → Type 0)
    → (Course → Type 0) → (Course → Stop → Type 0) → Work
changing steps Leaves Prints Goes GivesUp = record {
  steps = steps;
  Leaves = Leaves;
  Prints = Prints;
  FindsChanges = λ c. ⊥;
  Goes = Goes;
  GivesUp = GivesUp;
  OnlyLooks = ⊥;
}

-- a command that isn't there
abbrev pub no_work : Work
no_work = changing [] (λ c. ⊥) (λ c text. ⊥) (λ c. ⊥) NoGivingUp

-- the course of a command that began and ended with these stories
abbrev pub course : Work → Story → Story → Course
course work old new = record { start = old; base = after_steps work.steps old; end = new }

-- the command's steps are behind it: the barrier's stops, and how it goes on since
pub record Works (work : Work) (old new : Story) : Type 0 where
  pub swept : Along (Sweeps (disk_of old)) old (after_steps work.steps old)
  pub goes : work.Goes (course work old new)

-- no op is added, or at most the barrier's
abbrev pub IsUnbegun : Story → Story → Type 0
IsUnbegun old new = (new ≡ old) ⊎ Along (Sweeps (disk_of old)) old new

-- how far a command goes: no op is added, or at most the barrier's, or it is at its work
abbrev pub Moves : Work → Story → Story → Type 0
Moves work old new = (new ≡ old) ⊎ Along (Sweeps (disk_of old)) old new ⊎ Works work old new

-- no reason to give the work up comes of a command that begins here
abbrev pub NeverGivesUp : Work → Story → Type 0
NeverGivesUp work old = (new : Story) (stop : Stop) → ¬ work.GivesUp (course work old new) stop
