-- While folders of a plan are made, its set form stands and leads where it leads.
use Rattle.std.proofs.Common.{◌≡◌, ◌⊎◌, ◌↔◌, Bool, true, false, refl, sym, ap, ◌∙◌, inl, inr, subst}
use Rattle.tree_fs.specs.Spot.{Spot, spot_of}
use Rattle.tree_fs.specs.Disk.{Disk, Value, none, file, odd, MayHold, IsIn, IsSettled, HoldsOnly}
use Rattle.move_plan.specs.declared.plan.Plan.{Plan}
use Rattle.move_plan.specs.Places.{Has, IsDestination, IsClear}
use Rattle.move_plan.specs.Rules.{apart, Apart, PassesRules}
use Rattle.move_plan.proofs.Entries.{of_each}
use Rattle.intent_json.specs.declared.intent.Phase.{Phase}
use Rattle.intent_json.specs.declared.intent.Phase.TheVariants as phase
use Rattle.std.specs.declared.option.Option.TheVariants.{Some}
use Rattle.desk_model.specs.Places.{in_stage, intent_spot, profile_spot}
use Rattle.desk_model.specs.Records.{rows_of, text_by}
use Rattle.desk_model.specs.Desk.{without_manifest, plain, found, aside_of, desk_of, SameDesk}
use Rattle.desk_model.specs.Outcome.{intent_by, updated, IsThere, IsTakenOff, planned, outcome_by, recorded_or_none}
use Rattle.desk_model.specs.Standing.{IsSettledFile, IsBegun, SavesRun, SetStands, Standing}
use Rattle.desk_model.specs.Stops.{Leads}
use Rattle.plan_exec.specs.Making.{SameBesideFolders, Makes}
use Rattle.plan_exec.specs.Steps.{StandsAlone, SavesReady, ToOutcomeOf}
use Rattle.plan_exec.proofs.Forms.{alone_now, alone_may, alone_standing}

-- where only folders change, places hold what they held
module _ (a e : Disk) (same : SameBesideFolders a e) where
  pub held_before : (x : Spot) (v : Value) → MayHold e x v → MayHold a x v
  held_before x v (inl is) = inl (is ∙ ap (λ f. f x) same.now)
  held_before x v (inr old) = inr (subst (λ b. IsIn v (b x)) same.before old)

  pub settled_still : (x : Spot) → IsSettled a x → IsSettled e x
  settled_still x one v h = one v (held_before x v h) ∙ sym (ap (λ f. f x) same.now)

  pub only_still : (x : Spot) (v : Value) → HoldsOnly a x v → HoldsOnly e x v
  only_still x v only w h = only w (held_before x w h)

  pub file_still : (x : Spot) → IsSettledFile a x → IsSettledFile e x
  file_still x is = record { number = is.number; only = only_still x (file is.number) is.only }

  begun_still : (from to : Spot) → IsBegun a from to → IsBegun e from to
  begun_still from to b = record { number = b.number; source = only_still from (file b.number) b.source; either = λ v h. b.either v (held_before to v h) }

  run_still : (plan : Plan) → SavesRun a plan → SavesRun e plan
  run_still plan run = record {
    sets = λ x is. settled_still x (run.sets x is);
    saves = λ s listed. elim (run.saves s listed) [ inl done ↦ inl (file_still (spot_of s.1) done) | inr begun ↦ inr (begun_still (spot_of s.0) (spot_of s.1) begun) ];
  }

  pub alone_still : (plan : Plan) (form : Phase) → StandsAlone plan form a → StandsAlone plan form e
  alone_still plan form alone = record { number = alone.number; only = only_still intent_spot (file alone.number) alone.only; text = ap (λ b. intent_by b (file alone.number)) same.bytes ∙ alone.text }

-- where the same folders stay, the desk is one
pub planned_still : (a e : Disk) → e.now ≡ a.now → e.bytes ≡ a.bytes → (plan : Plan) → ((s : Spot) → (IsThere e plan s × (¬ IsTakenOff e plan s) ↔ IsThere a plan s × (¬ IsTakenOff a plan s))) → SameDesk (desk_of (planned e plan)) (desk_of (planned a plan))
planned_still a e now bytes plan folders =
    let values : without_manifest (updated plan e.now) ≡ without_manifest (updated plan a.now) = ap (λ n. without_manifest (updated plan n)) now in
    let rows = rows_of (recorded_or_none plan.manifest) in
    record {
      plain = ap (λ v. plain rows v) values;
      manifest = refl;
      found = ap (λ v. found rows v) values;
      staged = λ i p. values i (in_stage p);
      aside = λ i. aside_of (values i);
      profile = (λ i. text_by (bytes i) (now i profile_spot));
      folders = λ s out. (λ h. (h.0, (folders s).0 h.1), λ h. (h.0, (folders s).1 h.1));
      bytes = λ n named. ap (λ b. b n) bytes;
    }

-- a disk on which one form stands alone leads where another one with that form leads, where the form has one desk
pub alone_leads : (plan : Plan) (form : Phase) (a e : Disk) → StandsAlone plan form a → StandsAlone plan form e → Standing e → IsSettled e profile_spot
    → SameDesk (desk_of (planned e plan)) (desk_of (planned a plan)) → Leads (ToOutcomeOf a) e
alone_leads plan form a e before now standing profile same =
    let there : intent_by a.bytes (a.now intent_spot) ≡ Some (record { phase = form; plan = plan }) = ap (intent_by a.bytes) (alone_now plan form a before) ∙ before.text in
    record {
      standing = standing;
      profile = profile;
      each = λ v h.
          let here : intent_by e.bytes v ≡ Some (record { phase = form; plan = plan }) = ap (intent_by e.bytes) (now.only v h) ∙ now.text in
          subst (λ o. SameDesk (outcome_by e o) (outcome_by a (intent_by a.bytes (a.now intent_spot)))) (sym here)
          (subst (λ o. SameDesk (desk_of (planned e plan)) (outcome_by a o)) (sym there) same);
    }

-- the set form stands
pub set_stands : (plan : Plan) (a : Disk) → SavesReady plan a → SetStands a plan
set_stands plan a ready = (ready.standing.intents (record { phase = phase.Set; plan = plan }) (alone_may plan phase.Set a ready.form)).set_form refl

module _ (plan : Plan) (passes : PassesRules plan) (a : Disk) (ready : SavesReady plan a) (e : Disk) (m : Makes (Has plan.folders) a e) where
  stands : SetStands a plan
  stands = set_stands plan a ready

  -- a destination or a clear is no folder still
  no_folder : (x : Spot) → IsDestination plan x ⊎ IsClear plan x → e.folders x ≡ false
  no_folder x which = by_test (e.folders x) refl
    where
      not_made : Has plan.folders x → ⊥
      not_made made =
          let rule = (of_each (Apart plan) plan (passes apart)).folders made.place made.listed in
          elim which [
            | inl to ↦ rule.0 (subst (IsDestination plan) (sym made.here) to)
            | inr clear ↦ rule.1 (subst (IsClear plan) (sym made.here) clear)
          ]

      by_test : (b : Bool) → e.folders x ≡ b → e.folders x ≡ false
      by_test false is = is
      by_test true is = elim (m.made x is) [
        | inl old ↦ let t : true ≡ false = sym old ∙ (stands.open_places x which).no_folder in absurd (cc)
        | inr made ↦ absurd (not_made made)
      ]

  made_stands : SetStands e plan
  made_stands = record {
    sources = λ x is. file_still a e m.same x (stands.sources x is);
    open_places = λ x which. record { not_odd = λ h. (stands.open_places x which).not_odd (held_before a e m.same x odd h); no_folder = no_folder x which };
    made = λ x is. elim (stands.made x is) [ inl there ↦ inl (m.kept x there) | inr only ↦ inr (only_still a e m.same x none only) ];
    parents = λ x s is below. elim (stands.parents x s is below) [ inl made ↦ inl made | inr there ↦ inr (m.kept s there) ];
    steps = elim stands.steps [ inl run ↦ inl (run_still a e m.same plan run) | inr done ↦ inr (λ x is. file_still a e m.same x (done x is)) ];
    rest = λ x out no_entry. settled_still a e m.same x (stands.rest x out no_entry);
  }

  alone : StandsAlone plan phase.Set e
  alone = alone_still a e m.same plan phase.Set ready.form

  made_standing : Standing e
  made_standing =
      let old = ready.standing.intents (record { phase = phase.Set; plan = plan }) (alone_may plan phase.Set a ready.form) in
      alone_standing plan phase.Set e alone m.valid
      (λ x n h soft. ready.standing.firm x n (held_before a e m.same x (file n) h) (sym (ap (λ f. f n) m.same.firm) ∙ soft))
      (record { accepted = old.accepted; set_form = λ is. made_stands; clear_form = λ is. absurd (cc) })

  pub made_ready : SavesReady plan e
  made_ready = record { standing = made_standing; profile = settled_still a e m.same profile_spot ready.profile; form = alone }

  there_to : (s : Spot) → IsThere e plan s → IsThere a plan s
  there_to s (inr made) = inr made
  there_to s (inl is) = m.made s is

  there_from : (s : Spot) → IsThere a plan s → IsThere e plan s
  there_from s (inr made) = inr made
  there_from s (inl is) = inl (m.kept s is)

  values_now : (x : Spot) → without_manifest (updated plan e.now) x ≡ without_manifest (updated plan a.now) x
  values_now x = ap (λ n. without_manifest (updated plan n) x) m.same.now

  off_to : (s : Spot) → IsTakenOff e plan s → IsTakenOff a plan s
  off_to s off = record { listed = off.listed; no_value = λ x below. sym (values_now x) ∙ off.no_value x below; no_folder = λ x below is. off.no_folder x below (there_from x is) }

  off_from : (s : Spot) → IsTakenOff a plan s → IsTakenOff e plan s
  off_from s off = record { listed = off.listed; no_value = λ x below. values_now x ∙ off.no_value x below; no_folder = λ x below is. off.no_folder x below (there_to x is) }

  pub made_leads : Leads (ToOutcomeOf a) e
  made_leads = alone_leads plan phase.Set a e ready.form alone made_standing made_ready.profile
      (planned_still a e m.same.now m.same.bytes plan (λ s. (λ h. (there_to s h.0, λ off. h.1 (off_from s off)), λ h. (there_from s h.0, λ off. h.1 (off_to s off)))))
