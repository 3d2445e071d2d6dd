-- Where recovery starts, what it tells, and where its stops lead.
use Rattle.std.specs.Prelude.{◌≡◌, ℕ, length}
use Rattle.tree_fs.specs.declared.name.Kind.TheVariants.{Absent}
use Rattle.tree_fs.specs.declared.place.Root.TheVariants.{Keep}
use Rattle.tree_fs.specs.Spot.{root_spot}
use Rattle.tree_fs.specs.Disk.{Disk, kind_of}
use Rattle.tree_fs.specs.Frames.{EntriesSettled}
use Rattle.tree_fs.specs.Story.{Story, disk_of, with_ops, Along}
use Rattle.move_plan.specs.declared.plan.Plan.{Plan}
use Rattle.intent_json.specs.declared.intent.Intent.{Intent}
use Rattle.intent_json.specs.declared.intent.Phase.{Phase}
use Rattle.intent_json.specs.declared.intent.Phase.TheVariants.{Set, Clear}
use Rattle.desk_model.specs.Places.{intent_spot}
use Rattle.desk_model.specs.Standing.{Standing}
use Rattle.desk_model.specs.Stops.{Leads}
use Rattle.intent_journal.specs.Found.{IsIntentAt, IsNoIntent}
use Rattle.intent_journal.specs.Sweeps.{Sweeps, sweep_ops, LeadsLikeAStop}
use Rattle.plan_exec.specs.Ending.{NoTemps}
use Rattle.plan_exec.specs.Steps.{SavesReady, ClearsReady, ToOutcomeOf}
use Rattle.recover_run.specs.declared.error.RecoverError.{RecoverError}
use Rattle.recover_run.specs.declared.error.RecoverError.TheVariants.{BadIntent, SourceGone, Blocked, Failed, Memory}
use Rattle.recover_run.specs.declared.recovered.Recovered.{Recovered}
use Rattle.recover_run.specs.declared.recovered.Recovered.TheVariants.{Nothing, Finished}

-- a disk behind the barrier: it stands, nothing is pending in `keep`, and there is no temp
pub record IsSwept (d : Disk) : Type 0 where
  pub standing : Standing d
  pub keep : EntriesSettled d (root_spot Keep)
  pub no_temps : NoTemps d

-- the form of a plan stands alone, and what it leaves to do may begin
abbrev pub IsFormReady : Phase → Plan → Disk → Type 0
IsFormReady Set plan d = SavesReady plan d
IsFormReady Clear plan d = ClearsReady plan d

-- an intent stands whose plan has so many sets and so many clears
pub record HasCounts (d : Disk) (sets clears : ℕ) : Type 0 where
  pub intent : Intent
  pub stands : IsIntentAt d intent
  pub set_count : sets ≡ length intent.plan.sets
  pub clear_count : clears ≡ length intent.plan.clears

-- no intent stands, or one does with these counts
abbrev pub Tells : Disk → Recovered → Type 0
Tells d Nothing = kind_of d intent_spot ≡ Absent
Tells d (Finished sets clears) = HasCounts d sets clears

-- an intent stands
pub record HasIntent (d : Disk) : Type 0 where
  pub intent : Intent
  pub stands : IsIntentAt d intent

-- why recovery stops: the bytes are no intent, or a step of the one that stands can't be done
abbrev pub IsReason : Disk → RecoverError → Type 0
IsReason d BadIntent = IsNoIntent d
IsReason d (SourceGone p) = HasIntent d
IsReason d (Blocked p) = HasIntent d
IsReason d Failed = Unit {0}
IsReason d Memory = Unit {0}

-- nothing but temps goes, and each stop leads where some stop of the start leads
pub record InBarrier (old new : Story) : Type 0 where
  pub sweeps : Along (Sweeps (disk_of old)) old new
  pub leads : Along (LeadsLikeAStop (disk_of old)) old new

-- the barrier comes to its end, and each later stop leads where the start leads
pub record Recovers (old new : Story) : Type 0 where
  pub swept : Story
  pub whole : swept ≡ with_ops old (sweep_ops (disk_of old))
  pub barrier : InBarrier old swept
  pub leads : Along (Leads (ToOutcomeOf (disk_of old))) swept new
