-- While the manifest is brought to its place, the clear form stands and leads where it leads.
use Rattle.std.proofs.Common.{◌≡◌, ◌≢◌, ℕ, ◌&&◌, Bool, true, false, [], refl, sym, ap, ◌∙◌, inl, inr, subst}
use Rattle.std.proofs.Math.Dec.{ltb}
use Rattle.std.proofs.lemmas.Bool.{lt-ltb, ltb-true}
use Rattle.std.specs.declared.option.Option.TheVariants.{None, Some}
use Rattle.rel_paths.specs.declared.control.Control.TheVariants as control
use Rattle.tree_fs.specs.Spot.{Spot}
use Rattle.tree_fs.specs.Texts.{control_spot}
use Rattle.tree_fs.specs.Disk.{Disk, Value, none, file, odd, MayHold, IsSettled, IsValid}
use Rattle.tree_fs.specs.Story.{Story, disk_of, Along}
use Rattle.tree_fs.proofs.Fewer.{fewer-same}
use Rattle.tree_fs.proofs.Moments.{along_weaken}
use Rattle.move_plan.specs.declared.plan.Plan.{Plan}
use Rattle.move_plan.specs.Places.{IsClear}
use Rattle.move_plan.specs.Rules.{IsFree}
use Rattle.move_plan.proofs.Entries.{rule_2}
use Rattle.intent_json.specs.Forms.{bare_of}
use Rattle.intent_json.specs.Reads.{intent_value}
use Rattle.intent_json.specs.declared.intent.Phase.TheVariants as phase
use Rattle.intent_journal.specs.declared.temp.Temp.TheVariants as temp
use Rattle.intent_journal.specs.Temps.{Beside}
use Rattle.intent_journal.proofs.TempPlaces.{temp-entry}
use Rattle.desk_model.specs.Places.{manifest_spot, intent_spot, profile_spot, IsTemp, IsKeepEntry}
use Rattle.desk_model.specs.Records.{text_by}
use Rattle.desk_model.specs.Desk.{Desk, desk_of, IsNamed, in_plain, in_found, in_staged, in_asides, SameDesk}
use Rattle.desk_model.specs.Outcome.{is_one_of, updated, updated_by, planned}
use Rattle.desk_model.specs.Standing.{ClearStands, IntentStands, Standing}
use Rattle.desk_model.specs.Stops.{Leads}
use Rattle.desk_model.proofs.Agreeing.{Alike, No, without-agree}
use Rattle.desk_model.proofs.Fewer.{FirmBut, firm_file}
use Rattle.desk_model.proofs.Forms.{bare-updated}
use Rattle.desk_model.proofs.Named.{desk_of-firm, planned-firm}
use Rattle.desk_model.proofs.Outcomes.{planned-alike}
use Rattle.desk_model.proofs.Spots.{path-apart, intent-not_temp, profile-not_temp}
use Rattle.plan_exec.specs.Steps.{StandsAlone, ClearsReady, ToOutcomeOf}
use Rattle.plan_exec.proofs.Forms.{alone_now, alone_may, alone_standing}
use Rattle.plan_exec.proofs.MadeStands.{alone_leads}

-- the temp of the manifest
abbrev temp_here : Spot
temp_here = control_spot control.ManifestTemp

no_entry-temp : (x : Spot) → ¬ IsKeepEntry x → x ≢ temp_here
no_entry-temp x out e = out (subst IsKeepEntry (sym e) (temp-entry temp.Manifest))

-- the files that there are, and are firm
abbrev there : Disk → Disk
there d = record d { firm = λ n. ltb n d.fresh && d.firm n }

there-firm : (d : Disk) → IsValid d → FirmBut d → FirmBut (there d)
there-firm d valid firm x n h soft = firm x n h (by_test (d.firm n) refl)
  where
    lt : ltb n d.fresh ≡ true
    lt = lt-ltb n d.fresh (valid.numbers x n h)

    by_test : (b : Bool) → d.firm n ≡ b → d.firm n ≡ false
    by_test false e = e
    by_test true e = let t : true ≡ false = sym (λ i. lt i && e i) ∙ soft in absurd (cc)

both_true : (b c : Bool) → (b && c) ≡ true → (b ≡ true) × (c ≡ true)
both_true true c e = (refl, e)
both_true false c e = absurd (cc)

alike_named : (k l : Desk) → Alike No k l → (n : ℕ) → IsNamed k n → IsNamed l n
alike_named k l h n (in_plain p is) = in_plain p (ap (λ f. f p) (sym h.plain) ∙ is)
alike_named k l h n (in_found p is) = in_found p (ap (λ f. f p) (sym h.found) ∙ is)
alike_named k l h n (in_staged p is) = in_staged p (ap (λ f. f p) (sym h.staged) ∙ is)
alike_named k l h n (in_asides p is) = in_asides p (ap (λ f. f p) (sym h.aside) ∙ is)

names_there : (a : Disk) (plan : Plan) (n : ℕ) → IsNamed (desk_of (planned a plan)) n → IsNamed (desk_of (planned (there a) plan)) n
names_there a plan n (in_plain p is) = in_plain p is
names_there a plan n (in_found p is) = in_found p is
names_there a plan n (in_staged p is) = in_staged p is
names_there a plan n (in_asides p is) = in_asides p is

-- a plan with nothing to save or set
module _ (p : Plan) (no_sets : p.sets ≡ []) (no_saves : p.saves ≡ []) (a : Disk) (standing : Standing a) (profile : IsSettled a profile_spot) (form : StandsAlone p phase.Clear a) (e : Disk) (b : Beside temp.Manifest a e) where
  before : IntentStands a (record { phase = phase.Clear; plan = p })
  before = standing.intents (record { phase = phase.Clear; plan = p }) (alone_may p phase.Clear a form)

  stands : ClearStands a p
  stands = before.clear_form refl

  kept_file : (x : Spot) (n : ℕ) → ¬ IsTemp x → MayHold a x (file n) → (e.firm n ≡ true) × (e.bytes n ≡ a.bytes n)
  kept_file x n no_temp h = b.files n (standing.valid.numbers x n h) (firm_file a x n standing.firm no_temp h)

  settled_kept : (x : Spot) → x ≢ manifest_spot → x ≢ temp_here → IsSettled a x → IsSettled e x
  settled_kept x m t one v h = one v (b.held x v m t h) ∙ sym (b.now x m t)

  intent_apart : intent_spot ≢ manifest_spot
  intent_apart = path-apart control.Intent control.Manifest refl refl

  intent_temp : intent_spot ≢ temp_here
  intent_temp e = intent-not_temp (inr (inl e))

  profile_apart : profile_spot ≢ manifest_spot
  profile_apart = path-apart control.Profile control.Manifest refl refl

  profile_temp : profile_spot ≢ temp_here
  profile_temp e = profile-not_temp (inr (inl e))

  -- the intent place has its form alone
  beside-alone : StandsAlone p phase.Clear e
  beside-alone = record {
    number = form.number;
    only = λ w h. form.only w (b.held intent_spot w intent_apart intent_temp h);
    text = ap intent_value (kept_file intent_spot form.number intent-not_temp (inl (sym (alone_now p phase.Clear a form)))).1 ∙ form.text;
  }

  clear_free : (x : Spot) → IsClear p x → IsFree x
  clear_free x is = subst IsFree is.here ((rule_2 p before.accepted.rules).clears is.place is.listed)

  clear_stands : ClearStands e p
  clear_stands = record {
    open_places = λ x is. let free = clear_free x is in record {
      not_odd = λ h. (stands.open_places x is).not_odd (b.held x odd (free.not_control control.Manifest) (free.not_control control.ManifestTemp) h);
      no_folder = ap (λ f. f x) b.folders ∙ (stands.open_places x is).no_folder;
    };
    rest = λ x out no_manifest no_entry. settled_kept x no_manifest (no_entry-temp x no_entry) (stands.rest x out no_manifest no_entry);
  }

  beside-standing : Standing e
  beside-standing = alone_standing p phase.Clear e beside-alone b.valid (b.firm standing.firm)
      (record { accepted = before.accepted; set_form = λ is. absurd (cc); clear_form = λ is. clear_stands })

  value_case : (x : Spot) (c : Bool) → e.now x ≡ a.now x → updated_by e.now (e.now x) c None None ≡ updated_by a.now (a.now x) c None None
  value_case x true is = refl
  value_case x false is = is

  values : (x : Spot) → ¬ IsKeepEntry x → x ≢ manifest_spot → updated p e.now x ≡ updated p a.now x
  values x out ne =
      bare-updated e e (fewer-same e) p e.now x no_sets no_saves ∙ value_case x (is_one_of p.clears x) (b.now x ne (no_entry-temp x out))
      ∙ sym (bare-updated a a (fewer-same a) p a.now x no_sets no_saves)

  alike : Alike No (desk_of (planned e p)) (desk_of (planned a p))
  alike = planned-alike e a b.folders p (λ x out. without-agree (updated p e.now) (updated p a.now) x (λ ne. values x out ne))

  text_same : (v : Value) → MayHold a profile_spot v → text_by e.bytes v ≡ text_by a.bytes v
  text_same none h = refl
  text_same odd h = refl
  text_same (file n) h = ap Some (kept_file profile_spot n profile-not_temp h).1

  named : (n : ℕ) → IsNamed (desk_of (planned a p)) n → (ltb n a.fresh && a.firm n) ≡ true
  named n is = desk_of-firm (there a) (planned (there a) p) (planned-firm (there a) (there-firm a standing.valid standing.firm) p before.accepted.rules) n (names_there a p n is)

  same : SameDesk (desk_of (planned e p)) (desk_of (planned a p))
  same = record {
    plain = alike.plain;
    manifest = alike.manifest;
    found = alike.found;
    staged = alike.staged;
    aside = alike.aside;
    profile = ap (text_by e.bytes) (b.now profile_spot profile_apart profile_temp) ∙ text_same (a.now profile_spot) (inl refl);
    folders = alike.folders;
    bytes = λ n is.
        let both = both_true (ltb n a.fresh) (a.firm n) (named n (alike_named (desk_of (planned e p)) (desk_of (planned a p)) alike n is)) in
        (b.files n (ltb-true n a.fresh both.0) both.1).1;
  }

  beside-leads : Leads (ToOutcomeOf a) e
  beside-leads = alone_leads p phase.Clear a e form beside-alone beside-standing (settled_kept profile_spot profile_apart profile_temp profile) same

module _ (plan : Plan) (a : Disk) (ready : ClearsReady plan a) (e : Disk) (b : Beside temp.Manifest a e) where
  pub manifest_leads : Leads (ToOutcomeOf a) e
  unfolding bare_of
  manifest_leads = beside-leads (bare_of plan) refl refl a ready.standing ready.profile ready.form e b

  pub manifest_ready : ClearsReady plan e
  unfolding bare_of
  manifest_ready = record { standing = manifest_leads.standing; profile = manifest_leads.profile; form = beside-alone (bare_of plan) refl refl a ready.standing ready.profile ready.form e b }

pub manifest_along : (plan : Plan) (s t : Story) → ClearsReady plan (disk_of s) → Along (Beside temp.Manifest (disk_of s)) s t → Along (Leads (ToOutcomeOf (disk_of s))) s t
manifest_along plan s t ready a = along_weaken (Beside temp.Manifest (disk_of s)) (Leads (ToOutcomeOf (disk_of s))) s t (λ e h. manifest_leads plan (disk_of s) ready e h) a
