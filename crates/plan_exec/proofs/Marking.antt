-- Once the sets are done, both forms of a plan may stand, and lead to one desk.
use Rattle.std.proofs.Common.{Result, OnOk, ◌≡◌, ℕ, List, Bool, true, false, refl, sym, ap, ◌∙◌, inl, inr, subst}
use Rattle.std.specs.declared.result.Result.TheVariants.{Ok, Err}
use Rattle.std.specs.declared.option.Option.{Option}
use Rattle.std.specs.declared.option.Option.TheVariants.{None, Some}
use Rattle.tree_fs.specs.declared.place.Place.{Place}
use Rattle.tree_fs.specs.Spot.{Spot, spot_of}
use Rattle.tree_fs.specs.Disk.{Disk, Value, file, IsSettled}
use Rattle.tree_fs.specs.Story.{Story, disk_of, Along}
use Rattle.list_laws.proofs.Containing.{contains_none}
use Rattle.tree_fs.proofs.Moments.{along_last, along_weaken}
use Rattle.move_plan.specs.declared.plan.SetRow.{SetRow}
use Rattle.move_plan.specs.declared.plan.Plan.{Plan}
use Rattle.move_plan.specs.Places.{Has, IsDestination}
use Rattle.move_plan.specs.Rules.{PassesRules}
use Rattle.intent_json.specs.declared.intent.Phase.TheVariants as phase
use Rattle.desk_model.specs.Desk.{Desk, without_manifest, desk_of, SameDesk, SameDeskBut}
use Rattle.desk_model.specs.Places.{intent_spot, IsKeepEntry}
use Rattle.desk_model.specs.Outcome.{intent_by, set_to, save_to, is_one_of, own_or, updated, updated_by, IsThere, IsTakenOff, planned, outcome_by, outcome}
use Rattle.desk_model.specs.Standing.{SetStands, ClearStands, IntentStands}
use Rattle.desk_model.specs.Stops.{Leads}
use Rattle.desk_model.proofs.Agreeing.{Alike, No, without-agree, desk_of-alike}
use Rattle.desk_model.proofs.Lookups.{set_to-some, set_to-none, save_to-some, save_to-none}
use Rattle.desk_model.proofs.SameDesks.{same_trans}
use Rattle.intent_journal.specs.declared.temp.Temp.TheVariants as temp
use Rattle.intent_journal.specs.Temps.{IsInstalled}
use Rattle.intent_journal.specs.Forms.{BothStand, HoldsForm, ToEither}
use Rattle.intent_json.specs.Forms.{set_form, clear_form, bare_of}
use Rattle.plan_exec.specs.Steps.{SetsReady, SetsDone, ClearsReady, ToOutcomeOf}
use Rattle.plan_exec.proofs.Forms.{alone_may}

file_own : (v w : Value) (n : ℕ) → v ≡ file n → own_or v w ≡ v
file_own v w n is = ap (λ u. own_or u w) is ∙ sym is

module _ (plan : Plan) (d : Disk) (ready : SetsReady plan d) (done : SetsDone plan d d) where
  stands : SetStands d plan
  stands = (ready.standing.intents (set_form plan) (alone_may plan phase.Set d ready.form)).set_form refl

  -- the update changes clears alone
  values_case : (x : Spot) (c : Bool) (s : Option SetRow) (f : Option (Place × Place)) → set_to plan.sets x ≡ s → save_to plan.saves x ≡ f → updated_by d.now (d.now x) c None None ≡ updated_by d.now (d.now x) c s f
  values_case x true s f es ef = refl
  values_case x false (Some row) f es ef =
      let found = set_to-some plan.sets x row es in
      ap d.now (sym found.1) ∙ done row found.0 (d.now (spot_of row.to)) (inl refl)
  values_case x false None (Some s) es ef =
      let found = save_to-some plan.saves x s ef in
      let it = ready.saved x (record { save = s; listed = found.0; here = found.1 }) in
      sym (file_own (d.now x) _ it.number (it.only (d.now x) (inl refl)))
  values_case x false None None es ef = refl

  values_same : (x : Spot) → updated (bare_of plan) d.now x ≡ updated plan d.now x
  unfolding updated bare_of set_to save_to
  values_same x = values_case x (is_one_of plan.clears x) (set_to plan.sets x) (save_to plan.saves x) refl refl

  agree : (x : Spot) → without_manifest (updated (bare_of plan) d.now) x ≡ without_manifest (updated plan d.now) x
  agree x = without-agree _ _ x (λ ne. values_same x)

  there_to : (s : Spot) → IsThere d (bare_of plan) s → IsThere d plan s
  unfolding bare_of
  there_to s (inl is) = inl is
  there_to s (inr made) = absurd (contains_none made.place made.listed)

  there_from : (s : Spot) → IsThere d plan s → IsThere d (bare_of plan) s
  unfolding bare_of
  there_from s (inl is) = inl is
  there_from s (inr made) = inl (ready.made s made)

  off_to : (s : Spot) → IsTakenOff d (bare_of plan) s → IsTakenOff d plan s
  unfolding bare_of
  off_to s off = record {
    listed = record { place = off.listed.place; listed = off.listed.listed; here = off.listed.here };
    no_value = λ x below. sym (agree x) ∙ off.no_value x below;
    no_folder = λ x below there. let h = off.no_folder x below (there_from x there) in record { place = h.place; listed = h.listed; here = h.here };
  }

  off_from : (s : Spot) → IsTakenOff d plan s → IsTakenOff d (bare_of plan) s
  unfolding bare_of
  off_from s off = record {
    listed = record { place = off.listed.place; listed = off.listed.listed; here = off.listed.here };
    no_value = λ x below. agree x ∙ off.no_value x below;
    no_folder = λ x below there. let h = off.no_folder x below (there_to x there) in record { place = h.place; listed = h.listed; here = h.here };
  }

  manifest_same : (planned d (bare_of plan)).manifest ≡ (planned d plan).manifest
  unfolding bare_of
  manifest_same = refl

  alike : Alike No (desk_of (planned d (bare_of plan))) (desk_of (planned d plan))
  alike = desk_of-alike (planned d (bare_of plan)) (planned d plan) manifest_same (λ x out. agree x)
      (λ s users. (λ h. (there_to s h.0, λ off. h.1 (off_from s off)), λ h. (there_from s h.0, λ off. h.1 (off_to s off))))

  -- both forms lead to one desk
  pub forms_same : SameDesk (outcome_by d (Some (clear_form plan))) (outcome_by d (Some (set_form plan)))
  forms_same = record {
    plain = alike.plain;
    manifest = alike.manifest;
    found = alike.found;
    staged = alike.staged;
    aside = alike.aside;
    profile = refl;
    folders = alike.folders;
    bytes = λ n named. refl;
  }

  settled_case : (x : Spot) → ¬ IsKeepEntry x → (s : Option SetRow) (f : Option (Place × Place)) → set_to plan.sets x ≡ s → save_to plan.saves x ≡ f → IsSettled d x
  settled_case x out (Some row) f es ef =
      let found = set_to-some plan.sets x row es in
      subst (IsSettled d) found.1 (λ v h. done row found.0 v h ∙ sym (done row found.0 (d.now (spot_of row.to)) (inl refl)))
  settled_case x out None (Some s) es ef =
      let found = save_to-some plan.saves x s ef in
      let it = ready.saved x (record { save = s; listed = found.0; here = found.1 }) in
      λ v h. it.only v h ∙ sym (it.only (d.now x) (inl refl))
  settled_case x out None None es ef = stands.rest x unset out
    where
      unset : IsDestination plan x → ⊥
      unset (inl is) = set_to-none plan.sets x is.row es is.listed is.here
      unset (inr is) = save_to-none plan.saves x is.save ef is.listed is.here

  clear_stands : ClearStands d (bare_of plan)
  unfolding bare_of
  clear_stands = record {
    open_places = λ x is. stands.open_places x (inr (record { place = is.place; listed = is.listed; here = is.here }));
    rest = λ x out no_manifest no_entry. settled_case x no_entry (set_to plan.sets x) (save_to plan.saves x) refl refl;
  }

  clear_intent : PassesRules (bare_of plan) → IntentStands d (clear_form plan)
  unfolding bare_of
  clear_intent rules = record {
    accepted = record { rules = rules; bare = λ is. record { folders = refl; saves = refl; sets = refl } };
    set_form = λ is. absurd (cc);
    clear_form = λ is. clear_stands;
  }

  pub both_forms : PassesRules (bare_of plan) → BothStand (Some (set_form plan)) (Some (clear_form plan)) d
  both_forms rules = record {
    valid = ready.standing.valid;
    firm = ready.standing.firm;
    profile = ready.profile;
    old_stands = ready.standing.intents (set_form plan) (alone_may plan phase.Set d ready.form);
    new_stands = clear_intent rules;
    one_plain = sym forms_same.plain;
    old_clear = λ is. absurd (cc);
    new_clear = λ is. to_but (Has (bare_of plan).folders_off) forms_same;
  }
    where
      to_but : (free : Spot → Type 0) → SameDesk (outcome_by d (Some (clear_form plan))) (outcome_by d (Some (set_form plan))) → SameDeskBut free (outcome_by d (Some (clear_form plan))) (outcome_by d (Some (set_form plan)))
      to_but free h = record { plain = h.plain; manifest = h.manifest; found = h.found; staged = h.staged; aside = h.aside; profile = h.profile; folders = λ s out. h.folders s (λ never. never); bytes = h.bytes }

  pub holds_set : HoldsForm (Some (set_form plan)) d
  holds_set v h = ap (intent_by d.bytes) (ready.form.only v h) ∙ ready.form.text

  pub now_is : outcome_by d (intent_by d.bytes (d.now intent_spot)) ≡ outcome_by d (Some (set_form plan))
  now_is = ap (λ o. outcome_by d o) (holds_set (d.now intent_spot) (inl refl))

  to_now : (k : Desk) → ToEither d (Some (set_form plan)) (Some (clear_form plan)) k → SameDesk k (outcome_by d (Some (set_form plan)))
  to_now k (inl h) = h
  to_now k (inr h) = same_trans _ _ _ h forms_same

module _ (plan : Plan) (s t : Story) (ready : SetsReady plan (disk_of s)) (done : SetsDone plan (disk_of s) (disk_of s)) (rules : PassesRules (bare_of plan)) where
  -- every stop of the mark leads where its start leads
  pub mark_stops : Along (Leads (ToEither (disk_of s) (Some (set_form plan)) (Some (clear_form plan)))) s t → Along (Leads (ToOutcomeOf (disk_of s))) s t
  mark_stops a =
      let d = disk_of s in
      along_weaken (Leads (ToEither (disk_of s) (Some (set_form plan)) (Some (clear_form plan)))) (Leads (ToOutcomeOf (disk_of s))) s t
      (λ e h. record {
        standing = h.standing;
        profile = h.profile;
        each = λ v held. subst (λ o. SameDesk (outcome e v) (outcome_by (disk_of s) o)) (sym (holds_set plan (disk_of s) ready done ((disk_of s).now intent_spot) (inl refl))) (to_now plan (disk_of s) ready done _ (h.each v held));
      }) a

  pub mark_done : Along (Leads (ToEither (disk_of s) (Some (set_form plan)) (Some (clear_form plan)))) s t → (text : List ℕ) → IsInstalled temp.Intent text (disk_of t) → HoldsForm (Some (clear_form plan)) (disk_of t) → ClearsReady plan (disk_of t)
  mark_done a text there holds =
      let leads = along_last (Leads (ToEither (disk_of s) (Some (set_form plan)) (Some (clear_form plan)))) s t a in
      record {
        standing = leads.standing;
        profile = leads.profile;
        form = record { number = there.number; only = there.only; text = holds (file there.number) (inl (sym (there.only ((disk_of t).now intent_spot) (inl refl)))) };
      }

-- the same of a result
pub mark_on_ok : {T E : Type 0} (r : Result T E) (plan : Plan) (s t : Story) (ready : SetsReady plan (disk_of s)) (done : SetsDone plan (disk_of s) (disk_of s)) (rules : PassesRules (bare_of plan)) → Along (Leads (ToEither (disk_of s) (Some (set_form plan)) (Some (clear_form plan)))) s t → (text : List ℕ)
    → OnOk r (IsInstalled temp.Intent text (disk_of t)) → OnOk r (HoldsForm (Some (clear_form plan)) (disk_of t)) → OnOk r (ClearsReady plan (disk_of t))
mark_on_ok (Ok answer) plan s t ready done rules a text there holds = mark_done plan s t ready done rules a text there holds
mark_on_ok (Err e) plan s t ready done rules a text there holds = tt
