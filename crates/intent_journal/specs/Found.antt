-- Which intent stands on a disk.
use Rattle.std.specs.Prelude.{◌≡◌}
use Rattle.std.specs.declared.option.Option.{Option}
use Rattle.std.specs.declared.option.Option.TheVariants.{None, Some}
use Rattle.tree_fs.specs.declared.name.Kind.TheVariants.{File, Absent}
use Rattle.tree_fs.specs.Disk.{Disk, kind_of}
use Rattle.tree_fs.specs.Parts.{bytes_at}
use Rattle.intent_json.specs.declared.intent.Intent.{Intent}
use Rattle.intent_json.specs.Accepted.{IsIntentOf}
use Rattle.desk_model.specs.Places.{intent_spot}
use Rattle.desk_model.specs.Outcome.{intent_by}

-- the file at the intent place is read as this intent
pub record IsIntentAt (d : Disk) (intent : Intent) : Type 0 where
  pub file : kind_of d intent_spot ≡ File
  pub value : intent_by d.bytes (d.now intent_spot) ≡ Some intent
  pub exact : IsIntentOf (bytes_at d intent_spot) (Some intent)

-- a file is at the intent place, and it is no intent
pub record IsNoIntent (d : Disk) : Type 0 where
  pub file : kind_of d intent_spot ≡ File
  pub value : intent_by d.bytes (d.now intent_spot) ≡ None
  pub exact : IsIntentOf (bytes_at d intent_spot) None

-- what is found: nothing, or an intent
abbrev pub IsFound : Disk → Option Intent → Type 0
IsFound d None = kind_of d intent_spot ≡ Absent
IsFound d (Some intent) = IsIntentAt d intent

-- the intent place holds this intent now
abbrev pub IsThere : Intent → Disk → Type 0
IsThere intent d = intent_by d.bytes (d.now intent_spot) ≡ Some intent
