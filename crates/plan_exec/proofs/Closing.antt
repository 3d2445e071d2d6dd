-- Once all is done the clear form leads to the desk that is there, so it may go.
use Rattle.std.proofs.Common.{◌≡◌, ◌≢◌, Bool, true, false, refl, sym, ap, ◌∙◌, inl, inr, subst, Result, OnOk}
use Rattle.std.specs.declared.option.Option.TheVariants.{None, Some}
use Rattle.std.specs.declared.result.Result.TheVariants.{Ok, Err}
use Rattle.rel_paths.specs.declared.control.Control.TheVariants as control
use Rattle.tree_fs.specs.declared.name.Kind.TheVariants.{Absent}
use Rattle.tree_fs.specs.declared.place.Root.TheVariants.{Keep}
use Rattle.tree_fs.specs.Frames.{EntriesSettled}
use Rattle.tree_fs.proofs.KindOf.{absent-kind}
use Rattle.intent_journal.specs.declared.temp.Temp.TheVariants as temp
use Rattle.intent_journal.specs.Temps.{temp_spot, Beside}
use Rattle.intent_journal.proofs.TempPlaces.{is_temp}
use Rattle.desk_model.proofs.Spots.{intent-not_temp}
use Rattle.plan_exec.proofs.Chain.{last_outcome}
use Rattle.plan_exec.proofs.Controls.{controls_intent}
use Rattle.plan_exec.specs.TakingOff.{OffDone}
use Rattle.list_laws.proofs.Containing.{contains_none}
use Rattle.tree_fs.specs.Spot.{Spot, root_spot, is_entry}
use Rattle.tree_fs.specs.Disk.{Disk, none, IsSettled, kind_of}
use Rattle.tree_fs.specs.Story.{Story, disk_of, Along}
use Rattle.tree_fs.proofs.Moments.{along_last, along_weaken}
use Rattle.tree_fs.proofs.Spots.{same_or_other}
use Rattle.move_plan.specs.declared.plan.Plan.{Plan}
use Rattle.move_plan.specs.Places.{Has, IsClear}
use Rattle.intent_json.specs.Forms.{bare_of, clear_form}
use Rattle.intent_json.specs.declared.intent.Phase.TheVariants as phase
use Rattle.desk_model.specs.Records.{manifest_of}
use Rattle.desk_model.specs.Desk.{Desk, view, desk_of, desk, SameDesk, SameDeskBut}
use Rattle.desk_model.specs.Places.{manifest_spot, intent_spot, IsKeepEntry, IsTemp}
use Rattle.desk_model.specs.Outcome.{intent_by, set_to, save_to, is_one_of, updated, updated_by, IsThere, IsTakenOff, planned, outcome_by, outcome, outcome_now}
use Rattle.desk_model.specs.Standing.{NoneStands, ClearStands, IntentStands}
use Rattle.desk_model.specs.Stops.{Leads}
use Rattle.desk_model.proofs.Agreeing.{Alike, No, without-agree, desk_of-alike}
use Rattle.desk_model.proofs.Lookups.{one_of-true, one_of-false}
use Rattle.desk_model.proofs.SameDesks.{same_trans, same_sym}
use Rattle.intent_journal.specs.Forms.{BothStand, HoldsForm, ToEither}
use Rattle.plan_exec.specs.Steps.{ClearsReady, ClearsDone, ToOutcomeOf}
use Rattle.plan_exec.specs.Ending.{ManifestDone, SameControls, NoControl, IsOfManifest, NoTemps, CanEnd, IsEnd}
use Rattle.plan_exec.proofs.Forms.{alone_may}
use Rattle.plan_exec.proofs.NothingOff.{nothing_off}

module _ (plan : Plan) (d : Disk) (can : CanEnd plan d) where
  intent_stands : IntentStands d (clear_form plan)
  intent_stands = can.ready.standing.intents (clear_form plan) (alone_may (bare_of plan) phase.Clear d can.ready.form)

  stands : ClearStands d (bare_of plan)
  stands = intent_stands.clear_form refl

  value_case : (x : Spot) (c : Bool) → is_one_of plan.clears x ≡ c → updated_by d.now (d.now x) c None None ≡ d.now x
  value_case x true ec = sym (can.clears x (one_of-true plan.clears x ec) (d.now x) (inl refl))
  value_case x false ec = refl

  values_same : (x : Spot) → updated (bare_of plan) d.now x ≡ d.now x
  unfolding updated bare_of set_to save_to
  values_same x = value_case x (is_one_of plan.clears x) refl

  there_same : (s : Spot) → IsThere d (bare_of plan) s → d.folders s ≡ true
  unfolding bare_of
  there_same s (inl is) = is
  there_same s (inr made) = absurd (contains_none made.place made.listed)

  not_off : (s : Spot) → d.folders s ≡ true → IsTakenOff d (bare_of plan) s → ⊥
  unfolding bare_of
  not_off s is off = nothing_off (bare_of plan) intent_stands.accepted.rules d (bare_of plan) refl values_same can.off s is off

  manifest_same : (planned d (bare_of plan)).manifest ≡ manifest_of d
  unfolding bare_of
  manifest_same = sym can.manifest.is

  alike : Alike No (desk_of (planned d (bare_of plan))) (desk d)
  alike = desk_of-alike (planned d (bare_of plan)) (view d) manifest_same
      (λ x out. without-agree _ _ x (λ ne. values_same x))
      (λ s users. (λ h. there_same s h.0, λ h. (inl h, λ off. not_off s h off)))

  pub ends_same : SameDesk (outcome_by d (Some (clear_form plan))) (outcome_by d None)
  ends_same = record { plain = alike.plain; manifest = alike.manifest; found = alike.found; staged = alike.staged; aside = alike.aside; profile = refl; folders = alike.folders; bytes = λ n named. refl }

  to_but : (free : Spot → Type 0) → SameDeskBut free (outcome_by d (Some (clear_form plan))) (outcome_by d None)
  to_but free = let h = ends_same in record { plain = h.plain; manifest = h.manifest; found = h.found; staged = h.staged; aside = h.aside; profile = h.profile; folders = λ s out. h.folders s (λ never. never); bytes = h.bytes }

  no_clear : (y : Spot) → is_one_of plan.clears y ≡ false → ¬ IsClear (bare_of plan) y
  unfolding bare_of
  no_clear y e is = one_of-false plan.clears y e (record { place = is.place; listed = is.listed; here = is.here })

  settled_case : (x : Spot) → ¬ IsKeepEntry x → (c : Bool) → is_one_of plan.clears x ≡ c → IsSettled d x
  settled_case x out true ec = let only = can.clears x (one_of-true plan.clears x ec) in λ v h. only v h ∙ sym (only (d.now x) (inl refl))
  settled_case x out false ec = elim (same_or_other x manifest_spot) [
    | inl is ↦ subst (IsSettled d) (sym is) can.manifest.settled
    | inr ne ↦ stands.rest x (no_clear x ec) ne out
  ]

  pub ends_stand : BothStand (Some (clear_form plan)) None d
  ends_stand = record {
    valid = can.ready.standing.valid;
    firm = can.ready.standing.firm;
    profile = can.ready.profile;
    old_stands = intent_stands;
    new_stands = λ x out. settled_case x out (is_one_of plan.clears x) refl;
    one_plain = ends_same.plain;
    old_clear = λ is. to_but (Has (bare_of plan).folders_off);
    new_clear = tt;
  }

  pub holds_clear : HoldsForm (Some (clear_form plan)) d
  holds_clear v h = ap (intent_by d.bytes) (can.ready.form.only v h) ∙ can.ready.form.text

  to_now : (k : Desk) → ToEither d (Some (clear_form plan)) None k → SameDesk k (outcome_by d (Some (clear_form plan)))
  to_now k (inl h) = h
  to_now k (inr h) = same_trans _ _ _ h (same_sym _ _ ends_same)

-- every stop of the end leads where its start leads
pub closing : (plan : Plan) (s t : Story) → CanEnd plan (disk_of s) → Along (Leads (ToEither (disk_of s) (Some (clear_form plan)) None)) s t → Along (Leads (ToOutcomeOf (disk_of s))) s t
closing plan s t can a =
    let d = disk_of s in
    along_weaken (Leads (ToEither d (Some (clear_form plan)) None)) (Leads (ToOutcomeOf d)) s t
    (λ e h. record {
      standing = h.standing;
      profile = h.profile;
      each = λ v held. subst (λ o. SameDesk (outcome e v) (outcome_by d o)) (sym (holds_clear plan d can (d.now intent_spot) (inl refl))) (to_now plan d can _ (h.each v held));
    }) a

-- the end

settled_at : (d : Disk) → (x : Spot) → NoneStands d → EntriesSettled d (root_spot Keep) → (b : Bool) → is_entry (root_spot Keep) x ≡ b → IsSettled d x
settled_at d x stands keep true is = keep x is
settled_at d x stands keep false is = stands x (λ entry. let t : false ≡ true = sym is ∙ entry in cc)

pub closed : (s t : Story) → Along (Leads (ToOutcomeOf (disk_of s))) s t → (disk_of t).folders intent_spot ≡ false → HoldsForm None (disk_of t) → EntriesSettled (disk_of t) (root_spot Keep) → NoTemps (disk_of t) → IsEnd (disk_of s) (disk_of t)
closed s t a plain holds keep temps =
    let d = disk_of t in
    let last = along_last (Leads (ToOutcomeOf (disk_of s))) s t a in
    let gone : (disk_of t).now intent_spot ≡ none = holds ((disk_of t).now intent_spot) (inl refl) in
    record {
      desk = subst (λ v. SameDesk (outcome d v) (outcome_now (disk_of s))) gone (last_outcome s t a);
      standing = last.standing;
      settled = λ x. settled_at d x (last.standing.absent (inl (sym gone))) keep (is_entry (root_spot Keep) x) refl;
      no_intent = absent-kind d intent_spot plain gone;
      no_temps = temps;
    }

pub end_from : {T E : Type 0} (s t u : Story) (r : Result T E) → Along (Leads (ToOutcomeOf (disk_of s))) s t → OnOk r (IsEnd (disk_of t) (disk_of u)) → OnOk r (IsEnd (disk_of s) (disk_of u))
end_from s t u (Err e) a h = tt
end_from s t u (Ok v) a h = record { desk = same_trans (desk (disk_of u)) (outcome_now (disk_of t)) (outcome_now (disk_of s)) h.desk (last_outcome s t a); standing = h.standing; settled = h.settled; no_intent = h.no_intent; no_temps = h.no_temps }

pub can_end : {T E : Type 0} (plan : Plan) (d : Disk) (r : Result T E) → ClearsReady plan d → ManifestDone plan d → OnOk r (ClearsDone plan d) → OnOk r (OffDone plan.folders_off d) → OnOk r (CanEnd plan d)
can_end plan d (Err e) ready manifest clears off = tt
can_end plan d (Ok v) ready manifest clears off = record { ready = ready; manifest = manifest; clears = clears; off = off }

-- no temp comes where none is

pub temps_kept : (a e : Disk) → SameControls NoControl a e → NoTemps a → NoTemps e
temps_kept a e same temps temp.Intent = same control.IntentTemp (λ never. never) ∙ temps temp.Intent
temps_kept a e same temps temp.Manifest = same control.ManifestTemp (λ never. never) ∙ temps temp.Manifest
temps_kept a e same temps temp.Profile = same control.ProfileTemp (λ never. never) ∙ temps temp.Profile

pub temps_beside : (a e : Disk) → Beside temp.Intent a e → kind_of e (temp_spot temp.Intent) ≡ Absent → NoTemps a → NoTemps e
temps_beside a e b gone temps temp.Intent = gone
temps_beside a e b gone temps temp.Manifest = controls_intent a e b control.ManifestTemp (λ is. elim is [ inl h ↦ cc | inr h ↦ cc ]) ∙ temps temp.Manifest
temps_beside a e b gone temps temp.Profile = controls_intent a e b control.ProfileTemp (λ is. elim is [ inl h ↦ cc | inr h ↦ cc ]) ∙ temps temp.Profile

pub temps_manifest : (a e : Disk) → SameControls IsOfManifest a e → kind_of e (temp_spot temp.Manifest) ≡ Absent → NoTemps a → NoTemps e
temps_manifest a e same gone temps temp.Intent = same control.IntentTemp (λ is. elim is [ inl h ↦ cc | inr h ↦ cc ]) ∙ temps temp.Intent
temps_manifest a e same gone temps temp.Manifest = gone
temps_manifest a e same gone temps temp.Profile = same control.ProfileTemp (λ is. elim is [ inl h ↦ cc | inr h ↦ cc ]) ∙ temps temp.Profile

pub temps_still : (a e : Disk) → ((x : Spot) → x ≢ intent_spot → kind_of e x ≡ kind_of a x) → NoTemps a → NoTemps e
temps_still a e still temps which = still (temp_spot which) (λ is. intent-not_temp (subst IsTemp is (is_temp which))) ∙ temps which
