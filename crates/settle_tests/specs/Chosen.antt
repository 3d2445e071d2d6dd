-- The choices of these tests.
use Rattle.std.specs.Prelude.{◌≡◌, ℕ, List, [], ◌∷◌, codes}
use Rattle.change_choices.specs.declared.action.Action.{Action}
use Rattle.change_choices.specs.declared.action.Action.TheVariants.{Aside, Import, Revert, Keep, Restore, Drop}
use Rattle.change_choices.specs.declared.choices.Choices.{Choices}

-- paths that are named after their own action
abbrev pub own_actions : List (List ℕ × Action)
own_actions =
    (codes "import", Import) ∷ (codes "revert", Revert) ∷ (codes "drop", Drop)
    ∷ (codes "d/drop", Drop) ∷ []

-- the usual choices but for these paths
pub record AreChosen (c : Choices) : Type 0 where
  pub replaced : c.replaced ≡ Aside
  pub changed : c.changed ≡ Keep
  pub deleted : c.deleted ≡ Restore
  pub source_deleted : c.source_deleted ≡ Restore
  pub gone : c.gone ≡ Drop
  pub paths : c.paths ≡ own_actions
