-- Each value of the intent place is none or a form of one plan: so all live intents have one list of folders to take off.
use Rattle.std.proofs.Common.{◌≡◌, ℕ, ◌<◌, true, refl, sym, ap, ◌∙◌, inl, inr, subst}
use Rattle.std.specs.declared.option.Option.TheVariants.{None, Some}
use Rattle.rel_paths.specs.declared.control.Control.TheVariants as control
use Rattle.tree_fs.specs.Disk.{Disk, Value, none, file, odd, MayHold}
use Rattle.tree_fs.specs.Story.{Story, disk_of, Along}
use Rattle.tree_fs.proofs.Moments.{along_last, along_trans, along_weaken, along_both}
use Rattle.move_plan.specs.declared.plan.Plan.{Plan}
use Rattle.move_plan.specs.Places.{Has}
use Rattle.move_plan.specs.Rules.{PassesRules}
use Rattle.intent_json.specs.Forms.{bare_of, set_form, clear_form}
use Rattle.intent_json.specs.Reads.{intent_value}
use Rattle.intent_json.specs.declared.intent.Intent.{Intent}
use Rattle.intent_json.specs.declared.intent.Phase.TheVariants as phase
use Rattle.desk_model.specs.Desk.{Desk}
use Rattle.desk_model.specs.Places.{intent_spot}
use Rattle.desk_model.specs.Outcome.{intent_by}
use Rattle.desk_model.specs.Standing.{MayBe, OffAgrees, Standing, Invariant}
use Rattle.desk_model.specs.Stops.{Leads}
use Rattle.desk_model.proofs.Fewer.{firm_file}
use Rattle.desk_model.proofs.Spots.{path-apart, intent-not_temp}
use Rattle.intent_journal.specs.declared.temp.Temp.TheVariants as temp
use Rattle.intent_journal.specs.Temps.{Beside, Temped}
use Rattle.intent_journal.specs.Forms.{BetweenForms}
use Rattle.plan_exec.specs.Ending.{HasForms}
use Rattle.plan_exec.specs.Frames.{Moves, Clears}
use Rattle.plan_exec.specs.Making.{Makes}
use Rattle.plan_exec.specs.Steps.{StandsAlone, SavesReady, ClearsReady}
use Rattle.plan_exec.specs.TakingOff.{TakesOff}
use Rattle.plan_exec.proofs.MadeStands.{held_before}
use Rattle.plan_exec.proofs.Rules.{control-not_set, control-not_save, control-not_clear}

-- the list of each live intent is the plan's
bare_off : (plan : Plan) → (bare_of plan).folders_off ≡ plan.folders_off
unfolding bare_of
bare_off plan = refl

off_of : (plan : Plan) (d : Disk) → HasForms plan d → (intent : Intent) → MayBe d intent → intent.plan.folders_off ≡ plan.folders_off
off_of plan d forms intent may = elim (forms may.0 may.1) [
  | inl gone ↦ let t : None ≡ Some intent = ap (intent_by d.bytes) (sym gone) ∙ may.2 in absurd (cc)
  | inr some ↦ elim some [
    | inl set ↦ let t : Some (set_form plan) ≡ Some intent = sym set ∙ may.2 in let is : set_form plan ≡ intent = cc in ap (λ (i : Intent). i.plan.folders_off) (sym is)
    | inr clear ↦ let t : Some (clear_form plan) ≡ Some intent = sym clear ∙ may.2 in let is : clear_form plan ≡ intent = cc in ap (λ (i : Intent). i.plan.folders_off) (sym is) ∙ bare_off plan
  ]
]

forms_agree : (plan : Plan) (d : Disk) → HasForms plan d → OffAgrees d
forms_agree plan d forms clear other may may_other is s has =
    subst (λ l. Has l s) (off_of plan d forms other may_other ∙ sym (off_of plan d forms clear may)) has

-- what leads and has forms of one plan alone keeps what every step of a history keeps
pub invariant_along : (To : Desk → Type 0) (plan : Plan) (s t : Story) → Along (Leads To) s t → Along (HasForms plan) s t → Along Invariant s t
invariant_along To plan s t a b = along_weaken (λ e. Leads To e × HasForms plan e) Invariant s t
    (λ e h. record { standing = h.0.standing; off = forms_agree plan e h.1 }) (along_both (Leads To) (HasForms plan) s t a b)

-- one form alone
pub set_alone : (plan : Plan) (d : Disk) → StandsAlone plan phase.Set d → HasForms plan d
set_alone plan d alone v h = inr (inl (ap (intent_by d.bytes) (alone.only v h) ∙ alone.text))

pub clear_alone : (plan : Plan) (d : Disk) → StandsAlone (bare_of plan) phase.Clear d → HasForms plan d
clear_alone plan d alone v h = inr (inr (ap (intent_by d.bytes) (alone.only v h) ∙ alone.text))

-- one form gives way to another
pub begun_forms : (plan : Plan) (s t : Story) → Along (BetweenForms None (Some (set_form plan)) (disk_of s)) s t → Along (HasForms plan) s t
begun_forms plan s t a = along_weaken (BetweenForms None (Some (set_form plan)) (disk_of s)) (HasForms plan) s t (λ e h v held. elim (h.each v held) [ inl gone ↦ inl gone | inr set ↦ inr (inl set) ]) a

pub marked_forms : (plan : Plan) (s t : Story) → Along (BetweenForms (Some (set_form plan)) (Some (clear_form plan)) (disk_of s)) s t → Along (HasForms plan) s t
marked_forms plan s t a = along_weaken (BetweenForms (Some (set_form plan)) (Some (clear_form plan)) (disk_of s)) (HasForms plan) s t (λ e h v held. inr (h.each v held)) a

pub closed_forms : (plan : Plan) (s t : Story) → Along (BetweenForms (Some (clear_form plan)) None (disk_of s)) s t → Along (HasForms plan) s t
closed_forms plan s t a = along_weaken (BetweenForms (Some (clear_form plan)) None (disk_of s)) (HasForms plan) s t (λ e h v held. elim (h.each v held) [ inl clear ↦ inr (inr clear) | inr gone ↦ inl gone ]) a

-- the intent place has no other value, and its texts stay
kept : (plan : Plan) (a e : Disk) → ((v : Value) → MayHold e intent_spot v → MayHold a intent_spot v) → ((v : Value) → MayHold a intent_spot v → intent_by e.bytes v ≡ intent_by a.bytes v) → HasForms plan a → HasForms plan e
kept plan a e within same forms v h = elim (forms v (within v h)) [
  | inl gone ↦ inl gone
  | inr some ↦ inr (elim some [ inl set ↦ inl (same v (within v h) ∙ set) | inr clear ↦ inr (same v (within v h) ∙ clear) ])
]

same_bytes : (a e : Disk) → e.bytes ≡ a.bytes → (v : Value) → intent_by e.bytes v ≡ intent_by a.bytes v
same_bytes a e is v = ap (λ b. intent_by b v) is

same_texts : (a e : Disk) → Standing a → ((n : ℕ) → n < a.fresh → a.firm n ≡ true → (e.firm n ≡ true) × (e.bytes n ≡ a.bytes n)) → (v : Value) → MayHold a intent_spot v → intent_by e.bytes v ≡ intent_by a.bytes v
same_texts a e standing files none h = refl
same_texts a e standing files odd h = refl
same_texts a e standing files (file n) h = ap intent_value (files n (standing.valid.numbers intent_spot n h) (firm_file a intent_spot n standing.firm intent-not_temp h)).1

pub made_forms : (plan : Plan) (s t : Story) → SavesReady plan (disk_of s) → Along (Makes (Has plan.folders) (disk_of s)) s t → Along (HasForms plan) s t
made_forms plan s t ready a = along_weaken (Makes (Has plan.folders) (disk_of s)) (HasForms plan) s t
    (λ e m. kept plan (disk_of s) e (λ v h. held_before (disk_of s) e m.same intent_spot v h) (λ v h. same_bytes (disk_of s) e m.same.bytes v) (set_alone plan (disk_of s) ready.form)) a

pub moved_forms : (plan : Plan) → PassesRules plan → (s t : Story) → SavesReady plan (disk_of s) → Along (Moves plan (disk_of s)) s t → Along (HasForms plan) s t
moved_forms plan passes s t ready a = along_weaken (Moves plan (disk_of s)) (HasForms plan) s t
    (λ e m. kept plan (disk_of s) e (λ v h. m.held intent_spot v (λ to. elim to [ inl set ↦ control-not_set plan passes control.Intent set | inr save ↦ control-not_save plan passes control.Intent save ]) h)
    (λ v h. same_bytes (disk_of s) e m.files.bytes v) (set_alone plan (disk_of s) ready.form)) a

pub cleared_forms : (plan : Plan) → PassesRules plan → (s t : Story) → ClearsReady plan (disk_of s) → Along (Clears plan (disk_of s)) s t → Along (HasForms plan) s t
cleared_forms plan passes s t ready a = along_weaken (Clears plan (disk_of s)) (HasForms plan) s t
    (λ e c. kept plan (disk_of s) e (λ v h. elim (c.held intent_spot v h) [ inl old ↦ old | inr new ↦ absurd (control-not_clear plan passes control.Intent new.0) ])
    (λ v h. same_bytes (disk_of s) e c.files.bytes v) (clear_alone plan (disk_of s) ready.form)) a

pub off_forms : (plan : Plan) (s t : Story) → ClearsReady plan (disk_of s) → Along (TakesOff plan.folders_off (disk_of s)) s t → Along (HasForms plan) s t
off_forms plan s t ready a = along_weaken (TakesOff plan.folders_off (disk_of s)) (HasForms plan) s t
    (λ e o. kept plan (disk_of s) e (o.held intent_spot) (λ v h. same_bytes (disk_of s) e o.bytes v) (clear_alone plan (disk_of s) ready.form)) a

pub manifest_forms : (plan : Plan) (s t : Story) → ClearsReady plan (disk_of s) → Along (Beside temp.Manifest (disk_of s)) s t → Along (HasForms plan) s t
manifest_forms plan s t ready a = along_weaken (Beside temp.Manifest (disk_of s)) (HasForms plan) s t
    (λ e b. kept plan (disk_of s) e (λ v h. b.held intent_spot v (path-apart control.Intent control.Manifest refl refl) (λ is. intent-not_temp (inr (inl is))) h)
    (same_texts (disk_of s) e ready.standing b.files) (clear_alone plan (disk_of s) ready.form)) a

-- and so it is where a temp is taken away
pub given_up_forms : (To : Desk → Type 0) (plan : Plan) (s t u : Story) → Along (Leads To) s t → Along (HasForms plan) s t → Along (Temped temp.Intent (disk_of t)) t u → Along (HasForms plan) s u
given_up_forms To plan s t u leads a b =
    let standing = (along_last (Leads To) s t leads).standing in
    let last = along_last (HasForms plan) s t a in
    along_trans (HasForms plan) s t u a (along_weaken (Temped temp.Intent (disk_of t)) (HasForms plan) t u
    (λ e h. kept plan (disk_of t) e h.place (same_texts (disk_of t) e standing h.beside.files) last) b)
