-- A plan with what its steps need besides.
use Rattle.std.specs.Prelude.{◌≡◌, List, map, IfSome, Some}
use Rattle.std.specs.List.{Contains}
use Rattle.std.specs.List.Sorted.{IsStrictlySortedBy}
use Rattle.std.specs.Ordering.{on, nat_cmp}
use Rattle.std.specs.Cmp.Lexicographic.{slice_cmp}
use Rattle.tree_fs.specs.declared.place.Place.{Place}
use Rattle.tree_fs.specs.Spot.{Spot, spot_of, parent}
use Rattle.tree_fs.specs.Texts.{place_text}
use Rattle.manifest_json.specs.Texts as manifest
use Rattle.manifest_json.specs.Manifests.{manifest_value}
use Rattle.move_plan.specs.declared.plan.SetRow.{SetRow}
use Rattle.move_plan.specs.declared.plan.Plan.{Plan}
use Rattle.move_plan.specs.Places.{Has}
use Rattle.move_plan.specs.Rules.{PassesRules}
use Rattle.intent_json.specs.Forms.{set_form, clear_form}
use Rattle.intent_json.specs.Texts.{text_of}
use Rattle.intent_json.specs.Reads.{intent_value}
use Rattle.intent_journal.specs.declared.texts.Texts.{Texts}
use Rattle.intent_journal.specs.declared.parents.Parents.{Parents}
use Rattle.intent_journal.specs.declared.folders.SyncFolders.{SyncFolders}

-- the texts of the two forms of a plan's intent, and that of its manifest
pub record AreTexts (plan : Plan) (texts : Texts) : Type 0 where
  pub set : texts.set.items ≡ text_of (set_form plan)
  pub clear : texts.clear.items ≡ text_of (clear_form plan)
  pub reads_set : intent_value texts.set.items ≡ Some (set_form plan)
  pub reads_clear : intent_value texts.clear.items ≡ Some (clear_form plan)
  pub manifest : IfSome plan.manifest (λ m. texts.manifest.items ≡ manifest.text_of m)
  pub reads_manifest : IfSome plan.manifest (λ m. manifest_value texts.manifest.items ≡ Some m)

-- the destinations of a plan
abbrev pub saved_places : Plan → List Place
saved_places plan = map (λ (s : Place × Place). s.1) plan.saves

abbrev pub set_places : Plan → List Place
set_places plan = map (λ (row : SetRow). row.to) plan.sets

-- row by row the folder that the place lies in
abbrev pub AreParents : List Place → List Place → Type 0
AreParents places above = map spot_of above ≡ map (λ (p : Place). parent (spot_of p)) places

-- the parents of folders to make and of destinations
pub record HasParents (plan : Plan) (parents : Parents) : Type 0 where
  pub folders : AreParents plan.folders parents.folders
  pub saves : AreParents (saved_places plan) parents.saves
  pub sets : AreParents (set_places plan) parents.sets

-- a place of the list lies in this folder
pub record IsParent (places : List Place) (x : Spot) : Type 0 where
  pub place : Place
  pub listed : Contains places place
  pub here : parent (spot_of place) ≡ x

-- the folders that the places lie in, each once, in the order of their texts
pub record AreFolders (places folders : List Place) : Type 0 where
  pub all : (x : Spot) → IsParent places x → Has folders x
  pub only : (x : Spot) → Has folders x → IsParent places x
  pub rise : IsStrictlySortedBy (on place_text (slice_cmp nat_cmp)) folders

-- the folders that each pass of a plan syncs
pub record HasFolders (plan : Plan) (folders : SyncFolders) : Type 0 where
  pub saves : AreFolders (saved_places plan) folders.saves
  pub sets : AreFolders (set_places plan) folders.sets
  pub clears : AreFolders plan.clears folders.clears

-- a plan that passes the rules, with its texts, parents and folders
pub record IsReady (plan : Plan) (written : Texts) (above : Parents) (synced : SyncFolders)
    : Type 0 where
  pub rules : PassesRules plan
  pub texts : AreTexts plan written
  pub parents : HasParents plan above
  pub folders : HasFolders plan synced
