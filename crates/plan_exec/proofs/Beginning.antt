-- A plan that may be carried out may be begun.
use Rattle.std.proofs.Common.{◌≡◌, ◌⊎◌, List, ℕ, refl, sym, ◌∙◌, inl, inr, subst, Result, OnOk}
use Rattle.std.specs.declared.option.Option.TheVariants.{None, Some}
use Rattle.std.specs.declared.result.Result.TheVariants.{Ok, Err}
use Rattle.rel_paths.specs.declared.control.Control.TheVariants as control
use Rattle.tree_fs.specs.Spot.{Spot}
use Rattle.tree_fs.specs.Disk.{Disk, file}
use Rattle.tree_fs.specs.Story.{Story, disk_of, Along}
use Rattle.tree_fs.proofs.KindOf.{kind-absent}
use Rattle.tree_fs.proofs.Moments.{along_last, along_weaken}
use Rattle.move_plan.specs.declared.plan.Plan.{Plan}
use Rattle.intent_json.specs.Forms.{set_form}
use Rattle.desk_model.specs.Places.{intent_spot, profile_spot, IsKeepEntry}
use Rattle.desk_model.specs.Desk.{Desk, desk, SameDesk}
use Rattle.desk_model.specs.Outcome.{intent_by, outcome_by, outcome_now}
use Rattle.desk_model.specs.Stops.{Leads}
use Rattle.desk_model.proofs.SameDesks.{same_trans}
use Rattle.desk_model.proofs.Spots.{keep_control, path-apart, profile-not_temp}
use Rattle.desk_model.proofs.Stopped.{old_or_new}
use Rattle.intent_journal.specs.declared.temp.Temp.TheVariants as temp
use Rattle.intent_journal.specs.Temps.{temp_spot, Beside, IsInstalled}
use Rattle.intent_journal.specs.Forms.{BetweenForms, BothStand, HoldsForm, ToEither}
use Rattle.intent_journal.proofs.TempPlaces.{temp-entry}
use Rattle.intent_journal.proofs.Besides.{Harmless, Off, same-off}
use Rattle.plan_exec.specs.Steps.{SavesReady, ToOutcomeOf}
use Rattle.plan_exec.specs.Ending.{CanExecute, IsPlanned, IsEnd, Executed, StopsOldOrNew}
use Rattle.plan_exec.proofs.Sound.{sound-stands}

pub begins_both : (plan : Plan) (a : Disk) → CanExecute plan a → BothStand None (Some (set_form plan)) a
begins_both plan a can = record {
  valid = can.standing.valid;
  firm = can.standing.firm;
  profile = can.settled profile_spot;
  old_stands = λ x out. can.settled x;
  new_stands = record {
    accepted = record { rules = can.sound.rules; bare = λ is. absurd (cc) };
    set_form = λ is. sound-stands a plan can.sound can.standing.valid can.settled;
    clear_form = λ is. absurd (cc);
  };
  one_plain = sym can.one_plain;
  old_clear = tt;
  new_clear = λ is. absurd (cc);
}

pub begins_none : (plan : Plan) (a : Disk) → CanExecute plan a → HoldsForm None a
begins_none plan a can v h = can.settled intent_spot v h ∙ (kind-absent a intent_spot can.no_intent).1

-- the intent place and its temp
abbrev of_intent : Spot → Type 0
of_intent x = (x ≡ intent_spot) ⊎ (x ≡ temp_spot temp.Intent)

intent_harmless : Harmless of_intent
intent_harmless = record {
  entry = λ x is. elim is [ inl e ↦ subst IsKeepEntry (sym e) (keep_control control.Intent refl) | inr e ↦ subst IsKeepEntry (sym e) (temp-entry temp.Intent) ];
  control = λ x is. elim is [ inl e ↦ (control.Intent, e) | inr e ↦ (control.IntentTemp, e) ];
  no_profile = λ is. elim is [ inl e ↦ path-apart control.Profile control.Intent refl refl e | inr e ↦ profile-not_temp (inl e) ];
}

beside_off : (a e : Disk) → Beside temp.Intent a e → Off of_intent a e
beside_off a e b = record {
  folders = b.folders;
  held = λ x v out h. b.held x v (λ is. out (inl is)) (λ is. out (inr is)) h;
  now = λ x out. b.now x (λ is. out (inl is)) (λ is. out (inr is));
  files = b.files;
}

module _ (plan : Plan) (s t : Story) (can : CanExecute plan (disk_of s)) where
  -- once the set form stands, the steps may run
  pub begun_ready : (text : List ℕ) → Along (Leads (ToEither (disk_of s) None (Some (set_form plan)))) s t → IsInstalled temp.Intent text (disk_of t) → HoldsForm (Some (set_form plan)) (disk_of t) → SavesReady plan (disk_of t)
  begun_ready text leads there holds =
      let last = along_last (Leads (ToEither (disk_of s) None (Some (set_form plan)))) s t leads in
      record {
        standing = last.standing;
        profile = last.profile;
        form = record { number = there.number; only = there.only; text = holds (file there.number) (inl (sym (there.only ((disk_of t).now intent_spot) (inl refl)))) };
      }

  -- and recovery leads where the plan leads
  pub begun_outcome : Along (BetweenForms None (Some (set_form plan)) (disk_of s)) s t → HoldsForm (Some (set_form plan)) (disk_of t) → SameDesk (outcome_now (disk_of t)) (outcome_by (disk_of s) (Some (set_form plan)))
  begun_outcome between holds =
      let last = along_last (BetweenForms None (Some (set_form plan)) (disk_of s)) s t between in
      let reads : intent_by (disk_of t).bytes ((disk_of t).now intent_spot) ≡ Some (set_form plan) = holds ((disk_of t).now intent_spot) (inl refl) in
      subst (λ o. SameDesk (outcome_by (disk_of t) o) (outcome_by (disk_of s) (Some (set_form plan)))) (sym reads)
      (same-off of_intent intent_harmless (disk_of s) (disk_of t) can.standing.valid can.standing.firm (beside_off (disk_of s) (disk_of t) last.beside) (Some (set_form plan)) can.sound.rules)

pub to_either : (plan : Plan) (a : Disk) (k l : Desk) → SameDesk k l → ToEither a None (Some (set_form plan)) l → ToEither a None (Some (set_form plan)) k
to_either plan a k l same (inl h) = inl (same_trans k l _ same h)
to_either plan a k l same (inr h) = inr (same_trans k l _ same h)

-- what leads where the set form leads
pub leads_on : (plan : Plan) (a : Disk) (t u : Story) → SameDesk (outcome_now (disk_of t)) (outcome_by a (Some (set_form plan))) → Along (Leads (ToOutcomeOf (disk_of t))) t u → Along (Leads (ToEither a None (Some (set_form plan)))) t u
leads_on plan a t u same b = along_weaken (Leads (ToOutcomeOf (disk_of t))) (Leads (ToEither a None (Some (set_form plan)))) t u
    (λ e h. record { standing = h.standing; profile = h.profile; each = λ v held. inr (same_trans _ _ _ (h.each v held) same) }) b

-- read off at every stop
pub stops_old_or_new : (plan : Plan) (s t : Story) → Along (Leads (ToEither (disk_of s) None (Some (set_form plan)))) s t → StopsOldOrNew (IsPlanned (disk_of s) plan) s t
stops_old_or_new plan s t a = record {
  ops = a.ops;
  goes_on = a.goes_on;
  each = old_or_new (disk_of s) (IsPlanned (disk_of s) plan) a.ops (λ k l same h. same_trans _ _ _ same h) a.each;
}

pub executed : {T E : Type 0} (plan : Plan) (a d e : Disk) (r : Result T E) → SameDesk (outcome_now d) (outcome_by a (Some (set_form plan))) → OnOk r (IsEnd d e) → OnOk r (Executed plan a e)
executed plan a d e (Err x) same h = tt
executed plan a d e (Ok v) same h = record { desk = same_trans (desk e) (outcome_now d) (outcome_by a (Some (set_form plan))) h.desk same; standing = h.standing; settled = h.settled; no_intent = h.no_intent; no_temps = h.no_temps }
