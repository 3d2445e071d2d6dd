-- While folders are taken off, the clear form stands and leads where it leads.
use Rattle.std.proofs.Common.{◌≡◌, Bool, true, false, if◌then◌else◌, [], refl, sym, ap, ◌∙◌, inl, inr, subst}
use Rattle.std.specs.declared.option.Option.TheVariants.{None}
use Rattle.std.specs.List.{Contains}
use Rattle.list_laws.proofs.Containing.{contains_none}
use Rattle.tree_fs.specs.Spot.{Spot, IsBelow}
use Rattle.tree_fs.specs.Disk.{Disk, Value, none, file, odd, IsSettled}
use Rattle.tree_fs.specs.Story.{Story, disk_of, Along}
use Rattle.tree_fs.proofs.Spots.{spot_eq_tells}
use Rattle.tree_fs.proofs.Fewer.{fewer-same}
use Rattle.tree_fs.proofs.Moments.{along_weaken}
use Rattle.move_plan.specs.declared.plan.Plan.{Plan}
use Rattle.move_plan.specs.Places.{Has}
use Rattle.intent_json.specs.Forms.{bare_of}
use Rattle.intent_json.specs.declared.intent.Phase.TheVariants as phase
use Rattle.desk_model.specs.Places.{manifest_spot, intent_spot, profile_spot}
use Rattle.desk_model.specs.Desk.{without_manifest}
use Rattle.desk_model.specs.Outcome.{intent_by, is_one_of, updated, updated_by, IsThere, IsTakenOff}
use Rattle.desk_model.specs.Standing.{ClearStands, IntentStands, Standing}
use Rattle.desk_model.specs.Stops.{Leads}
use Rattle.desk_model.proofs.Forms.{bare-updated}
use Rattle.plan_exec.specs.Steps.{StandsAlone, ClearsReady, ClearsDone, ToOutcomeOf}
use Rattle.plan_exec.specs.TakingOff.{TakesOff}
use Rattle.plan_exec.proofs.Forms.{alone_may, alone_standing}
use Rattle.plan_exec.proofs.MadeStands.{planned_still, alone_leads}

without-none : (f : Spot → Value) (x : Spot) → f x ≡ none → without_manifest f x ≡ none
unfolding without_manifest
without-none f x is = elim (spot_eq_tells x manifest_spot) [
  | inl s ↦ λ i. if s.0 i then none else f x
  | inr s ↦ (λ i. if s.0 i then none else f x) ∙ is
]

-- a plan with nothing to make, save or set
module _ (p : Plan) (no_folders : p.folders ≡ []) (no_sets : p.sets ≡ []) (no_saves : p.saves ≡ []) (a : Disk) (standing : Standing a) (profile : IsSettled a profile_spot) (form : StandsAlone p phase.Clear a) (e : Disk) (t : TakesOff p.folders_off a e) where
  before : IntentStands a (record { phase = phase.Clear; plan = p })
  before = standing.intents (record { phase = phase.Clear; plan = p }) (alone_may p phase.Clear a form)

  stands : ClearStands a p
  stands = before.clear_form refl

  no_folder_still : (x : Spot) → a.folders x ≡ false → e.folders x ≡ false
  no_folder_still x was = by_test (e.folders x) refl
    where
      by_test : (b : Bool) → e.folders x ≡ b → e.folders x ≡ false
      by_test false is = is
      by_test true is = let h : true ≡ false = sym (t.stays x is) ∙ was in absurd (cc)

  settled_still : (x : Spot) → IsSettled a x → IsSettled e x
  settled_still x one v h = one v (t.held x v h) ∙ sym (ap (λ f. f x) t.now)

  off-alone : StandsAlone p phase.Clear e
  off-alone = record { number = form.number; only = λ w h. form.only w (t.held intent_spot w h); text = ap (λ b. intent_by b (file form.number)) t.bytes ∙ form.text }

  clear_stands : ClearStands e p
  clear_stands = record {
    open_places = λ x clear. record { not_odd = λ h. (stands.open_places x clear).not_odd (t.held x odd h); no_folder = no_folder_still x (stands.open_places x clear).no_folder };
    rest = λ x out no_manifest no_entry. settled_still x (stands.rest x out no_manifest no_entry);
  }

  off-standing : Standing e
  off-standing = alone_standing p phase.Clear e off-alone t.valid
      (λ x n h soft. standing.firm x n (t.held x (file n) h) (sym (ap (λ f. f n) t.firm) ∙ soft))
      (record { accepted = before.accepted; set_form = λ is. absurd (cc); clear_form = λ is. clear_stands })

  none_made : (s : Spot) → ¬ Has p.folders s
  none_made s made = contains_none made.place (subst (λ l. Contains l made.place) no_folders made.listed)

  there_to : (s : Spot) → IsThere e p s → IsThere a p s
  there_to s (inr made) = inr made
  there_to s (inl is) = inl (t.stays s is)

  values_now : (x : Spot) → without_manifest (updated p e.now) x ≡ without_manifest (updated p a.now) x
  values_now x = ap (λ n. without_manifest (updated p n) x) t.now

  went : (s : Spot) → IsTakenOff e p s → (x : Spot) → IsBelow s x → IsThere a p x → Has p.folders_off x
  went s off x below (inr made) = absurd (none_made x made)
  went s off x below (inl is) = elim (t.gone x is) [ inl still ↦ off.no_folder x below (inl still) | inr gone ↦ gone.0 ]

  off_to : (s : Spot) → IsTakenOff e p s → IsTakenOff a p s
  off_to s off = record { listed = off.listed; no_value = λ x below. sym (values_now x) ∙ off.no_value x below; no_folder = went s off }

  off_from : (s : Spot) → IsTakenOff a p s → IsTakenOff e p s
  off_from s off = record { listed = off.listed; no_value = λ x below. values_now x ∙ off.no_value x below; no_folder = λ x below is. off.no_folder x below (there_to x is) }

  cleared : (x : Spot) (c : Bool) → a.now x ≡ none → updated_by a.now (a.now x) c None None ≡ none
  cleared x true is = refl
  cleared x false is = is

  no_value : (x : Spot) → a.now x ≡ none → without_manifest (updated p a.now) x ≡ none
  no_value x is = without-none (updated p a.now) x (bare-updated a a (fewer-same a) p a.now x no_sets no_saves ∙ cleared x (is_one_of p.clears x) is)

  there_from : (s : Spot) → IsThere a p s → (¬ IsTakenOff a p s) → IsThere e p s
  there_from s (inr made) stay = absurd (none_made s made)
  there_from s (inl is) stay = elim (t.gone s is) [
    | inl still ↦ inl still
    | inr gone ↦ absurd (stay (record {
      listed = gone.0;
      no_value = λ x below. no_value x (gone.1.no_value x below);
      no_folder = λ x below there. elim there [ inl folder ↦ gone.1.folders x below folder | inr made ↦ absurd (none_made x made) ];
    }))
  ]

  off-leads : Leads (ToOutcomeOf a) e
  off-leads = alone_leads p phase.Clear a e form off-alone off-standing (settled_still profile_spot profile)
      (planned_still a e t.now t.bytes p (λ s. (λ h. (there_to s h.0, λ off. h.1 (off_from s off)), λ h. (there_from s h.0 h.1, λ off. h.1 (off_to s off)))))

module _ (plan : Plan) (a : Disk) (ready : ClearsReady plan a) (e : Disk) (t : TakesOff plan.folders_off a e) where
  pub off_leads : Leads (ToOutcomeOf a) e
  unfolding bare_of
  off_leads = off-leads (bare_of plan) refl refl refl a ready.standing ready.profile ready.form e t

  pub off_ready : ClearsReady plan e
  unfolding bare_of
  off_ready = record { standing = off_leads.standing; profile = off_leads.profile; form = off-alone (bare_of plan) refl refl refl a ready.standing ready.profile ready.form e t }

pub off_along : (plan : Plan) (s t : Story) → ClearsReady plan (disk_of s) → Along (TakesOff plan.folders_off (disk_of s)) s t → Along (Leads (ToOutcomeOf (disk_of s))) s t
off_along plan s t ready a = along_weaken (TakesOff plan.folders_off (disk_of s)) (Leads (ToOutcomeOf (disk_of s))) s t (λ e h. off_leads plan (disk_of s) ready e h) a

pub clears_after : (plan : Plan) (a e : Disk) → TakesOff plan.folders_off a e → ClearsDone plan a → ClearsDone plan e
clears_after plan a e t done x is v h = done x is v (t.held x v h)
