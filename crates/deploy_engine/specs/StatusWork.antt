-- `status`: how much is deployed, and which intent stands.
use Rattle.std.specs.Prelude.{◌≡◌, ℕ, List, [], ◌∷◌, ◌++◌, length}
use Rattle.std.specs.declared.option.Option.{Option}
use Rattle.std.specs.declared.option.Option.TheVariants.{None, Some}
use Rattle.tree_fs.specs.Disk.{Disk}
use Rattle.manifest_json.specs.declared.manifest.Manifest.{Manifest}
use Rattle.intent_json.specs.declared.intent.Intent.{Intent}
use Rattle.intent_json.specs.declared.intent.Phase.{Phase}
use Rattle.intent_json.specs.declared.intent.Phase.TheVariants as phase
use Rattle.intent_journal.specs.Found.{IsFound}
use Rattle.answer_lines.specs.declared.totals.IntentState.{IntentState}
use Rattle.answer_lines.specs.declared.totals.IntentState.TheVariants as state
use Rattle.answer_lines.specs.Told.{status_lines}
use Rattle.command_steps.specs.Manifests.{HasManifest}
use Rattle.command_steps.specs.Steps.{manifest, intent}
use Rattle.command_steps.specs.Orders.{guards}
use Rattle.deploy_engine.specs.Works.{Work, looking, NoChanges}

abbrev pub files_in : Option Manifest → ℕ
files_in None = 0
files_in (Some m) = length m.rows

abbrev pub folders_in : Option Manifest → ℕ
folders_in None = 0
folders_in (Some m) = length m.folders

abbrev pub state_in : Phase → IntentState
state_in phase.Set = state.Set
state_in phase.Clear = state.Clear

abbrev pub state_of : Option Intent → IntentState
state_of None = state.None
state_of (Some i) = state_in i.phase

-- the lines of the manifest and of the intent that stand
pub record PrintsStatus (d : Disk) (text : List ℕ) : Type 0 where
  pub there : Option Manifest
  pub has : HasManifest d there
  pub found : Option Intent
  pub is_found : IsFound d found
  pub lines : text ≡ status_lines (files_in there) (folders_in there) (state_of found)

abbrev pub status_work : Work
status_work = looking (guards ++ manifest ∷ intent ∷ []) PrintsStatus NoChanges
