-- While the clears run, the clear form stands.
use Rattle.std.proofs.Common.{◌≡◌, List, refl, sym, ap, ◌∙◌, inl, inr, subst}
use Rattle.std.specs.List.{Contains}
use Rattle.rel_paths.specs.declared.control.Control.TheVariants as control
use Rattle.tree_fs.specs.declared.place.Place.{Place}
use Rattle.tree_fs.specs.Spot.{Spot, spot_of, parent}
use Rattle.tree_fs.specs.Disk.{HoldsOnly, Disk, Value, none, file, odd, MayHold, IsSettled}
use Rattle.tree_fs.specs.Story.{Story, disk_of, Along}
use Rattle.tree_fs.specs.Calls.{IsFolder}
use Rattle.tree_fs.proofs.Moments.{along_last}
use Rattle.move_plan.specs.declared.plan.Plan.{Plan}
use Rattle.move_plan.specs.Places.{IsClear}
use Rattle.move_plan.specs.Rules.{PassesRules}
use Rattle.intent_json.specs.declared.intent.Phase.TheVariants as phase
use Rattle.desk_model.specs.Places.{profile_spot, intent_spot}
use Rattle.desk_model.specs.Standing.{ClearStands, IntentStands}
use Rattle.desk_model.specs.Stops.{Leads}
use Rattle.desk_model.proofs.Fewer.{FirmBut}
use Rattle.intent_journal.specs.Ready.{AreFolders}
use Rattle.plan_exec.specs.Frames.{Clears}
use Rattle.tree_fs.specs.Frames.{Syncs, EntriesSettled}
use Rattle.plan_exec.specs.Steps.{ClearsReady, ClearsDone, ToOutcomeOf}
use Rattle.intent_json.specs.Forms.{bare_of}
use Rattle.plan_exec.proofs.Forms.{Carries, alone_may, alone_standing, alone_kept, carries_leads}
use Rattle.plan_exec.specs.Causes.{NoneHas, clear_obstacle}
use Rattle.plan_exec.proofs.Syncing.{only_synced, listed_settled}
use Rattle.plan_exec.proofs.Open.{open_place}
use Rattle.plan_exec.proofs.Rules.{clear_free, control-not_clear}

-- the clear form has the plan's clears
to_bare : (plan : Plan) (x : Spot) → IsClear plan x → IsClear (bare_of plan) x
unfolding bare_of
to_bare plan x is = record { place = is.place; listed = is.listed; here = is.here }

of_bare : (plan : Plan) (x : Spot) → IsClear (bare_of plan) x → IsClear plan x
unfolding bare_of
of_bare plan x is = record { place = is.place; listed = is.listed; here = is.here }

module _ (plan : Plan) (a : Disk) (ready : ClearsReady plan a) where
  before : IntentStands a (record { phase = phase.Clear; plan = bare_of plan })
  before = ready.standing.intents (record { phase = phase.Clear; plan = bare_of plan }) (alone_may (bare_of plan) phase.Clear a ready.form)

  pub bare_rules : PassesRules (bare_of plan)
  bare_rules = before.accepted.rules

  stands : ClearStands a (bare_of plan)
  stands = before.clear_form refl

  module _ (e : Disk) (clears : Clears plan a e) where
    within : (x : Spot) → ¬ IsClear plan x → (v : Value) → MayHold e x v → MayHold a x v
    within x unset v h = elim (clears.held x v h) [ inl old ↦ old | inr new ↦ absurd (unset new.0) ]

    settled_kept : (x : Spot) → ¬ IsClear plan x → IsSettled a x → IsSettled e x
    settled_kept x unset one v h = one v (within x unset v h) ∙ sym (clears.now x unset)

    clear_stands : ClearStands e (bare_of plan)
    clear_stands = record {
      open_places = λ x is. record {
        not_odd = λ h. elim (clears.held x odd h) [ inl old ↦ (stands.open_places x is).not_odd old | inr new ↦ let t : odd ≡ none = new.1 in cc ];
        no_folder = ap (λ f. f x) clears.files.folders ∙ (stands.open_places x is).no_folder;
      };
      rest = λ x out no_manifest no_entry. settled_kept x (λ is. out (to_bare plan x is)) (stands.rest x out no_manifest no_entry);
    }

    firm_kept : FirmBut e
    firm_kept x n h soft = elim (clears.held x (file n) h) [
      | inl old ↦ ready.standing.firm x n old (sym (ap (λ f. f n) clears.files.firm) ∙ soft)
      | inr new ↦ let t : file n ≡ none = new.1 in absurd (cc)
    ]

    no_intent : ¬ IsClear plan intent_spot
    no_intent is = control-not_clear (bare_of plan) bare_rules control.Intent (to_bare plan intent_spot is)

    no_profile : ¬ IsClear plan profile_spot
    no_profile is = control-not_clear (bare_of plan) bare_rules control.Profile (to_bare plan profile_spot is)

    pub clears_carry : Carries (bare_of plan) phase.Clear a e
    clears_carry =
        let alone = alone_kept (bare_of plan) phase.Clear a e clears.files (within intent_spot no_intent) ready.form in
        record {
          standing = alone_standing (bare_of plan) phase.Clear e alone clears.valid firm_kept (record { accepted = before.accepted; set_form = λ is. absurd (cc); clear_form = λ is. clear_stands });
          profile = settled_kept profile_spot no_profile ready.profile;
          alone = alone;
          files = clears.files;
          intent = clears.now intent_spot no_intent;
        }

-- every disk along the clears leads where the start leads
pub clears_lead : (plan : Plan) (s t : Story) → ClearsReady plan (disk_of s) → Along (Clears plan (disk_of s)) s t → Along (Leads (ToOutcomeOf (disk_of s))) s t
clears_lead plan s t ready a = carries_leads (bare_of plan) phase.Clear (Clears plan (disk_of s)) s t (λ e h. clears_carry plan (disk_of s) ready e h) a

-- at the end each clear is gone; where there is no folder there was nothing
pub clears_done : (plan : Plan) (s t u : Story) → PassesRules plan → (folders : List Place) → AreFolders plan.clears folders → Along (Clears plan (disk_of s)) s t → Along (Syncs (disk_of t)) t u
    → ((p : Place) → Contains plan.clears p → (disk_of t).now (spot_of p) ≡ none)
    → ((p : Place) → Contains folders p → IsFolder (disk_of t) (spot_of p) → EntriesSettled (disk_of u) (spot_of p))
    → ClearsDone plan (disk_of u)
clears_done plan s t u passes folders are a b done settled x to =
    let gone : (disk_of t).now x ≡ none = subst (λ y. (disk_of t).now y ≡ none) to.here (done to.place to.listed) in
    let above : parent (spot_of to.place) ≡ parent x = ap parent to.here in
    subst (HoldsOnly (disk_of u) x) gone
    (only_synced (disk_of t) (disk_of u) x (along_last (Clears plan (disk_of s)) s t a).valid (along_last (Syncs (disk_of t)) t u b) (clear_free plan passes x to).not_root
    (λ folder. listed_settled (disk_of t) (disk_of u) folders settled (parent x) (are.all (parent x) (record { place = to.place; listed = to.listed; here = above })) folder))

-- the clears may run, so each can be done
pub clears_free : (plan : Plan) (a : Disk) → ClearsReady plan a → NoneHas (clear_obstacle a) plan.clears
clears_free plan a ready p listed = open_place a (spot_of p) (stands.open_places (spot_of p) (to_bare plan (spot_of p) (record { place = p; listed = listed; here = refl })))
  where
    stands : ClearStands a (bare_of plan)
    stands = (ready.standing.intents (record { phase = phase.Clear; plan = bare_of plan }) (alone_may (bare_of plan) phase.Clear a ready.form)).clear_form refl

-- the clear form stands still
pub clears_again : (plan : Plan) (s t : Story) → ClearsReady plan (disk_of s) → Along (Clears plan (disk_of s)) s t → ClearsReady plan (disk_of t)
clears_again plan s t ready a =
    let c = clears_carry plan (disk_of s) ready (disk_of t) (along_last (Clears plan (disk_of s)) s t a) in
    record { standing = c.standing; profile = c.profile; form = c.alone }
