-- Behind the barrier: what is told of its end is told of the start.
use Rattle.std.proofs.Common.{◌≡◌, refl, sym, ◌∙◌, inl, inr, subst, ℕ, true, [], Result, OnOk}
use Rattle.std.specs.Prelude.{IfErr}
use Rattle.std.specs.declared.result.Result.TheVariants.{Ok, Err}
use Rattle.fault_count.specs.Causes.{HasCause}
use Rattle.fault_count.specs.Rose.{Rose}
use Rattle.rel_paths.specs.declared.control.Control.TheVariants as control
use Rattle.tree_fs.specs.declared.name.Kind.TheVariants.{Absent}
use Rattle.tree_fs.specs.Disk.{Disk, IsValid, Image, kind_of}
use Rattle.tree_fs.specs.Story.{Story, disk_of, Along}
use Rattle.tree_fs.proofs.Fewer.{image-fewer}
use Rattle.tree_fs.proofs.KindOf.{kind-absent}
use Rattle.tree_fs.proofs.Moments.{along_here, along_unchanged, along_weaken}
use Rattle.desk_model.specs.Desk.{desk, SameDesk}
use Rattle.desk_model.specs.Outcome.{outcome, outcome_now}
use Rattle.desk_model.specs.Places.{intent_spot, profile_spot, IsTemp}
use Rattle.desk_model.specs.Standing.{Standing}
use Rattle.desk_model.specs.Stops.{Leads}
use Rattle.desk_model.proofs.Named.{image-outcome}
use Rattle.desk_model.proofs.SameDesks.{same_itself, same_sym, same_trans}
use Rattle.desk_model.proofs.Spots.{intent-not_temp, keep_control}
use Rattle.intent_journal.specs.Sweeps.{LeadsLikeAStop}
use Rattle.intent_journal.proofs.Besides.{Off}
use Rattle.intent_journal.proofs.OffPlaces.{temps-harmless}
use Rattle.intent_journal.proofs.StandOff.{outcome_off}
use Rattle.plan_exec.specs.Ending.{IsEnd}
use Rattle.plan_exec.specs.Steps.{ToOutcomeOf}
use Rattle.plan_exec.proofs.Closing.{closed}
use Rattle.recover_run.specs.declared.error.RecoverError.{RecoverError}
use Rattle.recover_run.specs.declared.error.RecoverError.TheVariants.{BadIntent, SourceGone, Blocked, Failed, Memory}
use Rattle.recover_run.specs.Causes.{IsFault}
use Rattle.recover_run.specs.Recovery.{IsSwept}

-- where nothing is done
module _ (s : Story) (swept : IsSwept (disk_of s)) where
  pub here_leads : Leads (ToOutcomeOf (disk_of s)) (disk_of s)
  here_leads = record {
    standing = swept.standing;
    profile = swept.keep profile_spot (keep_control control.Profile refl);
    each = λ v h. subst (λ w. SameDesk (outcome (disk_of s) w) (outcome_now (disk_of s))) (sym (swept.keep intent_spot (keep_control control.Intent refl) v h)) (same_itself (outcome_now (disk_of s)));
  }

  pub still_leads : (t : Story) → t ≡ s → Along (Leads (ToOutcomeOf (disk_of s))) s t
  still_leads t same = along_unchanged (Leads (ToOutcomeOf (disk_of s))) s t same here_leads

  pub none_end : (t : Story) → t ≡ s → kind_of (disk_of s) intent_spot ≡ Absent → IsEnd (disk_of s) (disk_of t)
  none_end t same gone =
      let absent = kind-absent (disk_of s) intent_spot gone in
      subst (λ (u : Story). IsEnd (disk_of s) (disk_of u)) (sym same)
      (closed s s (along_here (Leads (ToOutcomeOf (disk_of s))) s here_leads) absent.0
      (λ v h. swept.keep intent_spot (keep_control control.Intent refl) v h ∙ absent.1) swept.keep swept.no_temps)

-- the start leads where the disk behind the barrier leads
pub end_as : {T E : Type 0} (a d e : Disk) (r : Result T E) → SameDesk (outcome_now d) (outcome_now a) → OnOk r (IsEnd d e) → OnOk r (IsEnd a e)
end_as a d e (Err x) same h = tt
end_as a d e (Ok v) same h = record { desk = same_trans (desk e) (outcome_now d) (outcome_now a) h.desk same; standing = h.standing; settled = h.settled; no_intent = h.no_intent; no_temps = h.no_temps }

pub lead_as : (a : Disk) (t u : Story) → SameDesk (outcome_now (disk_of t)) (outcome_now a) → Along (Leads (ToOutcomeOf (disk_of t))) t u → Along (Leads (ToOutcomeOf a)) t u
lead_as a t u same b = along_weaken (Leads (ToOutcomeOf (disk_of t))) (Leads (ToOutcomeOf a)) t u
    (λ e h. record { standing = h.standing; profile = h.profile; each = λ v held. same_trans _ _ _ (h.each v held) same }) b

pub leads_stand : (a : Disk) (t u : Story) → Along (Leads (ToOutcomeOf a)) t u → Along Standing t u
leads_stand a t u b = along_weaken (Leads (ToOutcomeOf a)) Standing t u (λ e h. h.standing) b

-- the stop that leaves each place as it is
abbrev as_now : Disk → Disk
as_now a = record { folders = a.folders; now = a.now; before = λ q. []; bytes = a.bytes; firm = λ n. true; fresh = a.fresh }

now_image : (a : Disk) → IsValid a → Image a (as_now a)
now_image a valid = record {
  folders = λ q. refl;
  value = λ q no_folder. inl refl;
  bare = λ q folder. valid.bare q folder;
  settled = λ q. refl;
  bytes = λ n firm. refl;
  firm = λ n. refl;
  fresh = refl;
}

off_now : (a : Disk) → Off IsTemp a (as_now a)
off_now a = record {
  folders = refl;
  held = λ x v out h. elim h [ inl is ↦ inl is | inr no_past ↦ absurd no_past ];
  now = λ x out. refl;
  files = λ n below firm. (refl, refl);
}

now_outcome : (a : Disk) → Standing a → SameDesk (outcome_now (as_now a)) (outcome_now a)
now_outcome a standing = outcome_off IsTemp temps-harmless intent-not_temp a (as_now a) standing (off_now a) (a.now intent_spot) (inl refl)

-- what leads where the start leads does so at each of its stops
pub leads_like : (a e : Disk) → Standing a → Leads (ToOutcomeOf a) e → LeadsLikeAStop a e
leads_like a e standing leads left image =
    let v = left.now intent_spot in
    let held = (image-fewer e left leads.standing.valid image).within intent_spot v (inl refl) in
    let to_now = same_trans (outcome_now left) (outcome e v) (outcome_now a) (image-outcome e left leads.standing leads.profile image) (leads.each v held) in
    (as_now a, now_image a standing.valid, same_trans (outcome_now left) (outcome_now a) (outcome_now (as_now a)) to_now (same_sym (outcome_now (as_now a)) (outcome_now a) (now_outcome a standing)))

-- what comes of a disk that stands where no count rose
pub only_memory : {T : Type 0} (r : Result T RecoverError) (before now : ℕ) → IfErr r IsFault → HasCause Failed before now r → ¬ Rose before now → IfErr r (λ e. e ≡ Memory)
only_memory (Ok v) before now fault cause calm = tt
only_memory (Err BadIntent) before now fault cause calm = absurd fault
only_memory (Err (SourceGone p)) before now fault cause calm = absurd fault
only_memory (Err (Blocked p)) before now fault cause calm = absurd fault
only_memory (Err Failed) before now fault cause calm = absurd (calm (cause.failed refl))
only_memory (Err Memory) before now fault cause calm = refl
