-- What a plan of a purge says of its disk.
use Rattle.std.proofs.Common.{◌≡◌, ℕ, List, Some, map, sym, subst}
use Rattle.std.specs.declared.option.Option.TheVariants.{None}
use Rattle.tree_fs.specs.Disk.{Disk, IsValid}
use Rattle.backup_keep.specs.Asides.{IsNextAside}
use Rattle.manifest_json.specs.declared.manifest.Manifest.{Manifest}
use Rattle.manifest_json.specs.Sound.{AreRows, AreFolders}
use Rattle.move_plan.specs.declared.plan.Plan.{Plan}
use Rattle.move_plan.specs.Sound.{SoundPlan}
use Rattle.intent_json.specs.declared.intent.Phase.TheVariants as phase
use Rattle.desk_model.specs.Purged.{Purged}
use Rattle.desk_model.specs.Outcome.{outcome_by}
use Rattle.plan_model.specs.Rows.{old_of}
use Rattle.purge_run.specs.Plans.{CanPurge, PurgePlan, IsPurgePlan}
use Rattle.purge_run.specs.Refusals.{first_in_the_way, HasAsideRoom}
use Rattle.purge_run.specs.Told.{Told, told, HasOver}
use Rattle.purge_run.proofs.Looked.{sets_over}
use Rattle.purge_run.proofs.PurgeLeads.{purge_leads}
use Rattle.purge_run.proofs.PurgeSound.{purge_sound}

pub can_purge : (a : Disk) (old : Manifest) (n : ℕ) (found : List Told) → found ≡ map (told a) old.rows → IsValid a → AreRows old.rows → AreFolders old.folders → first_in_the_way a old.rows ≡ None
    → (HasOver found → IsNextAside a n) → (HasOver found → HasAsideRoom a) → CanPurge a old n
can_purge a old n found is valid rows own unblocked next room = record {
  valid = valid;
  rows = rows;
  own = own;
  next = λ some. next (subst HasOver (sym is) (sets_over a old.rows some));
  passes = record { unblocked = unblocked; aside = λ some. room (subst HasOver (sym is) (sets_over a old.rows some)) };
}

pub plan_sound : (a : Disk) (old : Manifest) (plan : Plan) → IsPurgePlan a old plan → SoundPlan a plan
plan_sound a old plan h = purge_sound a old h.number h.can plan h.is

pub plan_leads : (a : Disk) (old : Manifest) (plan : Plan) → IsPurgePlan a old plan → old ≡ old_of a → Purged a (outcome_by a (Some (record { phase = phase.Set; plan = plan })))
plan_leads a old plan h own =
    purge_leads a h.number (subst (λ m. CanPurge a m h.number) own h.can) plan (subst (λ m. PurgePlan a m h.number plan) own h.is)
