-- How far a plan has come while its set form may come back.
use Rattle.tree_fs.specs.Disk.{Disk}
use Rattle.move_plan.specs.declared.plan.Plan.{Plan}
use Rattle.intent_json.specs.Forms.{set_form}
use Rattle.desk_model.specs.Standing.{MayBe}
use Rattle.desk_model.specs.Mid.{Mid}

-- the intent place can't be the set form
abbrev pub IsUnset : Plan → Disk → Type 0
IsUnset plan d = ¬ MayBe d (set_form plan)

-- where the intent place may be the set form, the plan has been carried out in part, told from a
abbrev pub MidWhileSet : Disk → Plan → Disk → Type 0
MidWhileSet a plan d = MayBe d (set_form plan) → Mid a plan d
