-- Step after step: what leads where the start leads.
use Rattle.std.proofs.Common.{◌≡◌, ◌≢◌, refl, sym, ap, ◌∙◌, inl, inr, subst}
use Rattle.rel_paths.specs.declared.control.Control.TheVariants as control
use Rattle.tree_fs.specs.Spot.{Spot}
use Rattle.tree_fs.specs.Disk.{Disk, MayHold}
use Rattle.tree_fs.specs.Story.{Story, disk_of, Along}
use Rattle.tree_fs.proofs.Moments.{along_last, along_trans, along_weaken}
use Rattle.tree_fs.proofs.Spots.{same_or_other}
use Rattle.desk_model.specs.Places.{intent_spot, profile_spot, IsKeepEntry}
use Rattle.desk_model.specs.Desk.{Desk, SameDesk}
use Rattle.desk_model.specs.Outcome.{outcome, outcome_now}
use Rattle.desk_model.specs.Stops.{Leads}
use Rattle.desk_model.proofs.SameDesks.{same_trans}
use Rattle.desk_model.proofs.Spots.{profile-not_temp}
use Rattle.intent_journal.specs.declared.temp.Temp.TheVariants as temp
use Rattle.intent_journal.specs.Temps.{temp_spot, Temped}
use Rattle.intent_journal.proofs.TempPlaces.{temp-entry, place-not_temp}
use Rattle.intent_journal.proofs.Besides.{Harmless, Off}
use Rattle.intent_journal.proofs.StandOff.{standing_off, outcome_off}
use Rattle.plan_exec.specs.Steps.{ToOutcomeOf}

pub last_outcome : (s t : Story) → Along (Leads (ToOutcomeOf (disk_of s))) s t → SameDesk (outcome_now (disk_of t)) (outcome_now (disk_of s))
last_outcome s t a = (along_last (Leads (ToOutcomeOf (disk_of s))) s t a).each ((disk_of t).now intent_spot) (inl refl)

-- one step more
pub lead_then : (s t u : Story) → Along (Leads (ToOutcomeOf (disk_of s))) s t → Along (Leads (ToOutcomeOf (disk_of t))) t u → Along (Leads (ToOutcomeOf (disk_of s))) s u
lead_then s t u a b =
    let same = last_outcome s t a in
    along_trans (Leads (ToOutcomeOf (disk_of s))) s t u a (along_weaken (Leads (ToOutcomeOf (disk_of t))) (Leads (ToOutcomeOf (disk_of s))) t u
    (λ e h. record { standing = h.standing; profile = h.profile; each = λ v held. same_trans _ _ _ (h.each v held) same }) b)

-- Where only the intent's temp changes

abbrev of_temp : Spot → Type 0
of_temp x = x ≡ temp_spot temp.Intent

temp_harmless : Harmless of_temp
temp_harmless = record {
  entry = λ x is. subst (λ y. IsKeepEntry y) (sym is) (temp-entry temp.Intent);
  control = λ x is. (control.IntentTemp, is);
  no_profile = λ is. profile-not_temp (inl is);
}

temped_off : (a e : Disk) → Temped temp.Intent a e → Off of_temp a e
temped_off a e h = record {
  folders = h.beside.folders;
  held = λ x v out held. elim (same_or_other x intent_spot) [
    | inl is ↦ subst (λ y. MayHold a y v) (sym is) (h.place v (subst (λ y. MayHold e y v) is held))
    | inr ne ↦ h.beside.held x v ne out held
  ];
  now = λ x out. elim (same_or_other x intent_spot) [
    | inl is ↦ ap e.now is ∙ h.still ∙ sym (ap a.now is)
    | inr ne ↦ h.beside.now x ne out
  ];
  files = h.beside.files;
}

apart : intent_spot ≢ temp_spot temp.Intent
apart = place-not_temp temp.Intent

pub temped_leads : (To : Desk → Type 0) → ((k l : Desk) → SameDesk k l → To l → To k) → (a e : Disk) → Leads To a → Temped temp.Intent a e → Leads To e
temped_leads To closed a e leads h =
    let b = temped_off a e h in
    record {
      standing = standing_off of_temp temp_harmless apart a e leads.standing b h.beside.valid (h.beside.firm leads.standing.firm);
      profile = λ v held. leads.profile v (b.held profile_spot v temp_harmless.no_profile held) ∙ sym (b.now profile_spot temp_harmless.no_profile);
      each = λ v held. let was = h.place v held in closed (outcome e v) (outcome a v) (outcome_off of_temp temp_harmless apart a e leads.standing b v was) (leads.each v was);
    }

-- what gives up leads where it led
pub lead_given_up : (To : Desk → Type 0) → ((k l : Desk) → SameDesk k l → To l → To k) → (s t u : Story) → Along (Leads To) s t → Along (Temped temp.Intent (disk_of t)) t u → Along (Leads To) s u
lead_given_up To closed s t u a b =
    let last = along_last (Leads To) s t a in
    along_trans (Leads To) s t u a (along_weaken (Temped temp.Intent (disk_of t)) (Leads To) t u (λ e h. temped_leads To closed (disk_of t) e last h) b)

pub to_outcome : (d : Disk) (k l : Desk) → SameDesk k l → ToOutcomeOf d l → ToOutcomeOf d k
to_outcome d k l same h = same_trans k l (outcome_now d) same h
