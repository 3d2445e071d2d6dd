-- What a command that may change something begins with.
use Rattle.std.proofs.Common.{◌≡◌, inl, inr}
use Rattle.rel_paths.specs.declared.control.Control.{Control}
use Rattle.rel_paths.specs.declared.control.Control.TheVariants as control
use Rattle.tree_fs.specs.declared.name.Kind.TheVariants.{Absent}
use Rattle.tree_fs.specs.declared.place.Root.TheVariants.{Keep}
use Rattle.tree_fs.specs.Spot.{root_spot}
use Rattle.tree_fs.specs.Texts.{control_spot}
use Rattle.tree_fs.specs.Disk.{kind_of}
use Rattle.tree_fs.specs.Frames.{EntriesSettled}
use Rattle.tree_fs.specs.Story.{Story, Along, disk_of}
use Rattle.tree_fs.proofs.Moments.{along_last}
use Rattle.desk_model.specs.Places.{intent_spot}
use Rattle.desk_model.specs.Standing.{Standing}
use Rattle.intent_journal.specs.Sweeps.{Sweeps}
use Rattle.intent_journal.specs.Temps.{IsFileOrAbsent}
use Rattle.intent_journal.proofs.LikeStops.{along_stands}
use Rattle.plan_exec.specs.Ending.{NoTemps}
use Rattle.plan_run.specs.Quiet.{IsQuiet}
use Rattle.plan_run.proofs.Swept.{swept_open, swept_quiet}
use Rattle.command_steps.specs.declared.limits.Limits.{Limits}
use Rattle.command_steps.specs.Orders.{change_start, AllPass}

module _ (limits : Limits) (old base : Story) (all : AllPass change_start limits old) (swept : Along (Sweeps (disk_of old)) old base) (gone : NoTemps (disk_of base)) where
  was_open : (which : Control) → IsFileOrAbsent (disk_of old) (control_spot which)
  was_open control.Intent = all.0
  was_open control.IntentTemp = all.1.0
  was_open control.ManifestTemp = all.1.1.0
  was_open control.ProfileTemp = all.1.1.1.0
  was_open control.Profile = all.1.1.1.1.0
  was_open control.Manifest = all.1.1.1.1.1.0

  -- nothing stands in the way of a control place
  pub begun_open : (which : Control) → IsFileOrAbsent (disk_of base) (control_spot which)
  begun_open which = swept_open (disk_of old) (disk_of base) (along_last (Sweeps (disk_of old)) old base swept) gone which (was_open which)

  no_intent : kind_of (disk_of old) intent_spot ≡ Absent
  no_intent = elim all.0 [ inl file ↦ absurd (all.1.1.1.1.1.1.0 file) | inr absent ↦ absent ]

  -- where the first disk stands, nothing is pending
  pub begun_quiet : EntriesSettled (disk_of base) (root_spot Keep) → Standing (disk_of old) → IsQuiet (disk_of base)
  begun_quiet settled standing =
      swept_quiet (disk_of old) (disk_of base) no_intent (along_last (Sweeps (disk_of old)) old base swept) (along_last Standing old base (along_stands old base standing swept)) gone settled
