-- Steps one after the other: none refuses, or the first that refuses stops the command.
use Rattle.std.specs.Prelude.{◌≡◌, ◌⊎◌, List, [], ◌∷◌, ◌++◌, map, IfOk, IfErr}
use Rattle.std.specs.declared.result.Result.{Result}
use Rattle.rel_paths.specs.Controls.{control_order}
use Rattle.tree_fs.specs.Story.{Story, disk_of}
use Rattle.command_steps.specs.declared.limits.Limits.{Limits}
use Rattle.command_steps.specs.declared.stop.Stop.{Stop}
use Rattle.command_steps.specs.Stops.{IsFault}
use Rattle.command_steps.specs.Steps.{Step, fine, no_intent, barrier, profile, rules, order, scans, targets, winners, Passes, Refuses, next}

-- the control places, in their order
abbrev pub guards : List Step
guards = map fine control_order

-- what a command that only looks takes first
abbrev pub start : List Step
start = guards ++ no_intent ∷ []

-- what a command that changes something takes first
abbrev pub change_start : List Step
change_start = start ++ barrier ∷ []

-- what a recovery takes first
abbrev pub recover_start : List Step
recover_start = guards ++ barrier ∷ []

-- up to the load order
abbrev pub up_to_order : List Step
up_to_order = profile ∷ rules ∷ order ∷ []

-- up to the winners
abbrev pub up_to_winners : List Step
up_to_winners = up_to_order ++ scans ∷ targets ∷ winners ∷ []

-- the story behind all steps
abbrev pub after_steps : List Step → Story → Story
after_steps [] s = s
after_steps (step ∷ steps) s = after_steps steps (next step s)

-- no step refuses
abbrev pub AllPass : List Step → Limits → Story → Type 0
AllPass [] limits s = Unit {0}
AllPass (step ∷ steps) limits s =
    Passes step limits (disk_of s) × AllPass steps limits (next step s)

-- the first step that refuses stops the command so, and leaves this story
abbrev pub IsFirst : List Step → Limits → Story → Stop → Story → Type 0
IsFirst [] limits s stop new = ⊥
IsFirst (step ∷ steps) limits s stop new =
    (Refuses step limits (disk_of s) stop × (new ≡ s))
    ⊎ (Passes step limits (disk_of s) × IsFirst steps limits (next step s) stop new)

-- why a command stopped: by a fault, or by the first step that refuses
pub record IsWhy (steps : List Step) (limits : Limits) (old : Story) (stop : Stop) (new : Story) : Type 0 where
  pub why : IsFault stop ⊎ IsFirst steps limits old stop new

-- the steps are taken, and give such a value
pub record Passed {V : Type 0} (steps : List Step) (limits : Limits) (old new : Story) (Gives : V → Type 0) (value : V) : Type 0 where
  pub all : AllPass steps limits old
  pub story : new ≡ after_steps steps old
  pub gives : Gives value

-- the steps are taken, or one of them stops the command
pub record Takes {V : Type 0} (steps : List Step) (limits : Limits) (old new : Story) (Gives : V → Type 0) (result : Result V Stop) : Type 0 where
  pub passed : IfOk result (Passed steps limits old new Gives)
  pub stopped : IfErr result (λ stop. IsWhy steps limits old stop new)
