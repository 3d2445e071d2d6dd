-- A stored callback that gives the answer of choices.
use Rattle.std.specs.Prelude.{◌≡◌, ℕ, List}
use denote.Ref.{Bor}
use Rattle.change_choices.specs.declared.action.Action.{Action}
use Rattle.change_choices.specs.declared.choices.Choices.{Choices}
use Rattle.change_choices.specs.declared.class.Class.{Class}
use Rattle.change_choices.specs.Choice.{choice}

-- each answer that it may give for a path and a class is that of these choices
abbrev pub GivesChoice : (Bor (List ℕ) → Class → Action → Type 0) → Choices → Type 0
GivesChoice gives choices =
    (path : Bor (List ℕ)) (class : Class) (action : Action)
    → gives path class action → action ≡ choice choices path.now class

-- of some choices
abbrev pub GivesSome : (Bor (List ℕ) → Class → Action → Type 0) → Type 0
GivesSome gives = (choices : Choices) × GivesChoice gives choices
