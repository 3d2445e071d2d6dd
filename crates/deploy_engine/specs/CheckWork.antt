-- `check`: what others changed since the last deployment is told.
use Rattle.std.specs.Prelude.{◌≡◌, ◌≢◌, ℕ, List, [], ◌∷◌, ◌++◌}
use Rattle.tree_fs.specs.Disk.{Disk}
use Rattle.answer_lines.specs.Lists.{change_lines}
use Rattle.command_steps.specs.Inputs.{changes_on}
use Rattle.command_steps.specs.Manifests.{HasManifest}
use Rattle.command_steps.specs.Steps.{manifest, changes}
use Rattle.command_steps.specs.Orders.{start}
use Rattle.deploy_engine.specs.declared.commands.check.Checked.{Checked}
use Rattle.deploy_engine.specs.Works.{Work, looking}

-- the manifest that is there, and its rows that aren't clean
pub record IsChecked (d : Disk) (found : Checked) : Type 0 where
  pub there : HasManifest d found.there
  pub changes : found.changes.items ≡ changes_on d

abbrev pub PrintsChanges : Disk → List ℕ → Type 0
PrintsChanges d text = text ≡ change_lines (changes_on d)

abbrev pub HasChanges : Disk → Type 0
HasChanges d = changes_on d ≢ []

abbrev pub check_work : Work
check_work = looking (start ++ manifest ∷ changes ∷ []) PrintsChanges HasChanges
