-- The laws of steps and of their orders.
use Rattle.std.specs.Prelude.{◌≡◌, List}
use Rattle.tree_fs.specs.Disk.{Disk}
use Rattle.tree_fs.specs.Story.{Story}
use Rattle.command_steps.specs.declared.limits.Limits.{Limits}
use Rattle.command_steps.specs.declared.stop.Stop.{Stop}
use Rattle.command_steps.specs.Steps.{Step, Passes, Refuses}
use Rattle.command_steps.specs.Orders.{AllPass, IsFirst}

-- a step that passes doesn't refuse
abbrev pub PassOrRefuse : Type 0
PassOrRefuse =
    (step : Step) (limits : Limits) (d : Disk) (stop : Stop)
    → Passes step limits d → ¬ Refuses step limits d stop

-- a step that refuses does so in one way
abbrev pub OneRefusal : Type 0
OneRefusal =
    (step : Step) (limits : Limits) (d : Disk) (one other : Stop)
    → Refuses step limits d one → Refuses step limits d other → one ≡ other

-- where all steps pass, none is the first to refuse
abbrev pub NoneIsFirst : Type 0
NoneIsFirst =
    (steps : List Step) (limits : Limits) (s : Story) (stop : Stop) (new : Story)
    → AllPass steps limits s → ¬ IsFirst steps limits s stop new

-- there is one first refusal, and one story that it leaves
abbrev pub OneIsFirst : Type 0
OneIsFirst =
    (steps : List Step) (limits : Limits) (s : Story) (one other : Stop) (new left : Story)
    → IsFirst steps limits s one new → IsFirst steps limits s other left
    → (one ≡ other) × (new ≡ left)
