-- From a recovery to what the command did.
use Rattle.std.proofs.Common.{◌≡◌, ◌≢◌, ◌≤◌, ◌⊎◌, ◌+◌, inl, inr, refl, sym, ◌∙◌, subst, length, arith, Result}
use Rattle.std.specs.declared.option.Option.{Option}
use Rattle.std.specs.declared.option.Option.TheVariants.{None, Some}
use Rattle.std.specs.declared.result.Result.TheVariants.{Ok}
use Rattle.tree_fs.specs.declared.place.Root.TheVariants.{Keep}
use Rattle.tree_fs.specs.Spot.{root_spot}
use Rattle.tree_fs.specs.Disk.{Disk}
use Rattle.tree_fs.specs.Frames.{EntriesSettled}
use Rattle.tree_fs.specs.Story.{Story, Along, disk_of}
use Rattle.tree_fs.proofs.Moments.{along_last, along_unchanged}
use Rattle.intent_json.specs.declared.intent.Intent.{Intent}
use Rattle.intent_json.specs.Forms.{set_form}
use Rattle.desk_model.specs.Mid.{Mid}
use Rattle.desk_model.specs.Standing.{Invariant, Standing}
use Rattle.intent_journal.specs.Found.{IsFound, IsIntentAt}
use Rattle.intent_journal.specs.Sweeps.{Sweeps}
use Rattle.intent_journal.proofs.Counting.{syncs_more, syncs_same}
use Rattle.intent_journal.proofs.LikeStops.{along_stands}
use Rattle.plan_exec.specs.Ending.{IsEnd, NoTemps}
use Rattle.plan_exec.proofs.Middle.{while_mid}
use Rattle.recover_run.specs.declared.error.RecoverError.{RecoverError}
use Rattle.recover_run.specs.declared.error.RecoverError.TheVariants.{BadIntent, SourceGone, Blocked, Failed, Memory}
use Rattle.recover_run.specs.Causes.{IsFault as IsRecoverFault}
use Rattle.recover_run.specs.Recovery.{IsSwept}
use Rattle.recover_run.proofs.Behind.{still_leads, end_as, lead_as}
use Rattle.recover_run.proofs.Found.{intent_before, there_still}
use Rattle.recover_run.proofs.Swept.{sweeps_outcome, intent_kind, sweeps_invariant, sweeps_mids, is_swept}
use Rattle.command_steps.specs.declared.stop.Stop.{Stop}
use Rattle.command_steps.specs.Stops.{IsFault}
use Rattle.deploy_engine.specs.RecoverWork.{recover_stop, LeavesRecovered, GoesRecovering, Resumes, IsStuck, GivesUpRecovering, blocked, source_gone}

-- nothing is done where no intent stands
pub still_resumes : (s t : Story) → t ≡ s → Resumes s t
still_resumes s t same = record {
  leads = λ swept. still_leads s swept t same;
  keeps = λ swept inv. along_unchanged Invariant s t same inv;
  mid = λ swept a plan sound valid fresh there mid. while_mid plan a s t (along_unchanged (Mid a plan) s t same mid);
  syncs = λ i there saved set cleared fs gs hs. syncs_more 0 (length saved + length set + length cleared + length i.plan.folders_off + 5) s t (omega arith) (syncs_same s t same);
}

-- why recovery stopped
pub stuck_by : (d : Disk) (i : Intent) → IsIntentAt d i → (x : RecoverError) → x ≢ BadIntent → (IsSwept d → IsRecoverFault x) → IsFault (recover_stop x) ⊎ IsStuck d (recover_stop x)
stuck_by d i at BadIntent known never = absurd (known refl)
stuck_by d i at (SourceGone p) known never = inr (record { unsound = never; stands = record { intent = i; stands = at }; told = source_gone p refl })
stuck_by d i at (Blocked p) known never = inr (record { unsound = never; stands = record { intent = i; stands = at }; told = blocked p refl })
stuck_by d i at Failed known never = inl tt
stuck_by d i at Memory known never = inl tt

-- what is told behind the barrier, told of the first disk
module _ (s t u : Story) (sweeps : Along (Sweeps (disk_of s)) s t) (gone : NoTemps (disk_of t)) (settled : EntriesSettled (disk_of t) (root_spot Keep)) where
  last : Sweeps (disk_of s) (disk_of t)
  last = along_last (Sweeps (disk_of s)) s t sweeps

  behind : Standing (disk_of s) → IsSwept (disk_of t)
  behind standing = is_swept s t (along_stands s t standing sweeps) gone settled

  pub goes_recovering : Resumes t u → GoesRecovering (record { start = s; base = t; end = u })
  goes_recovering r = record {
    leads = λ standing. lead_as (disk_of s) t u (sweeps_outcome (disk_of s) (disk_of t) standing last) (r.leads (behind standing));
    keeps = λ inv. r.keeps (behind inv.standing) (along_last Invariant s t (sweeps_invariant s t inv sweeps (along_stands s t inv.standing sweeps)));
    mid = λ standing a plan sound valid fresh there mid.
        r.mid (behind standing) a plan sound valid (subst (λ n. a.fresh ≤ n) (sym last.files.fresh) fresh) (there_still (disk_of s) (disk_of t) last (set_form plan) there)
        (along_last (Mid a plan) s t (sweeps_mids plan sound.rules a s t mid sweeps));
    syncs = λ i there. r.syncs i (there_still (disk_of s) (disk_of t) last i there);
  }

  pub leaves_recovered : (IsSwept (disk_of t) → IsEnd (disk_of t) (disk_of u)) → LeavesRecovered (record { start = s; base = t; end = u })
  leaves_recovered ends standing =
      let r : Result (Unit {0}) (Unit {0}) = Ok tt in
      end_as (disk_of s) (disk_of t) (disk_of u) r (sweeps_outcome (disk_of s) (disk_of t) standing last) (ends (behind standing))

  pub gives_up_recovering : (stop : Stop) → IsStuck (disk_of t) stop → GivesUpRecovering (record { start = s; base = t; end = u }) stop
  gives_up_recovering stop stuck = record {
    unsound = λ standing. stuck.unsound (behind standing);
    stands = record { intent = stuck.stands.intent; stands = intent_before (disk_of s) (disk_of t) last stuck.stands.intent stuck.stands.stands };
    told = stuck.told;
  }

  pub found_before : (found : Option Intent) → IsFound (disk_of t) found → IsFound (disk_of s) found
  found_before None gone_now = sym (intent_kind (disk_of s) (disk_of t) last) ∙ gone_now
  found_before (Some i) at = intent_before (disk_of s) (disk_of t) last i at
