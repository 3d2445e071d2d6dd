-- While the set form may come back Mid holds, and later it can't come back.
use Rattle.std.proofs.Common.{◌≡◌, ◌⊎◌, ℕ, ◌≤◌, true, refl, sym, ap, ◌∙◌, inl, inr, arith}
use Rattle.std.specs.declared.option.Option.{Option}
use Rattle.std.specs.declared.option.Option.TheVariants.{None, Some}
use Rattle.rel_paths.specs.declared.control.Control.TheVariants as control
use Rattle.tree_fs.specs.Spot.{Spot}
use Rattle.tree_fs.specs.Disk.{Disk, Value, none, file, odd, MayHold, IsValid}
use Rattle.tree_fs.specs.Frames.{Touches}
use Rattle.tree_fs.specs.Story.{Story, disk_of, Along}
use Rattle.tree_fs.proofs.KindOf.{kind-absent}
use Rattle.tree_fs.proofs.Moments.{along_last, along_trans, along_weaken}
use Rattle.move_plan.specs.declared.plan.Plan.{Plan}
use Rattle.move_plan.specs.Places.{Has}
use Rattle.move_plan.specs.Rules.{PassesRules}
use Rattle.intent_json.specs.Forms.{set_form, clear_form}
use Rattle.intent_json.specs.declared.intent.Intent.{Intent}
use Rattle.intent_json.specs.declared.intent.Phase.{Phase}
use Rattle.intent_json.specs.declared.intent.Phase.TheVariants as phase
use Rattle.intent_json.specs.Reads.{intent_value}
use Rattle.desk_model.specs.Places.{intent_spot, IsTemp}
use Rattle.desk_model.proofs.Fewer.{firm_file}
use Rattle.desk_model.proofs.Spots.{intent-not_temp, path-apart}
use Rattle.desk_model.specs.Outcome.{intent_by}
use Rattle.desk_model.specs.Mid.{Mid}
use Rattle.intent_journal.specs.declared.temp.Temp.TheVariants as temp
use Rattle.intent_journal.specs.Temps.{Beside, Temped, temp_spot}
use Rattle.plan_exec.specs.Ending.{CanExecute}
use Rattle.plan_exec.specs.Frames.{Clears}
use Rattle.plan_exec.specs.Making.{Makes}
use Rattle.plan_exec.specs.Middle.{IsUnset, MidWhileSet}
use Rattle.plan_exec.specs.Steps.{ClearsReady}
use Rattle.plan_exec.specs.TakingOff.{TakesOff}
use Rattle.plan_exec.proofs.Mids.{sound_mid, beside_mids, folders_mid}
use Rattle.plan_exec.proofs.Rules.{control-not_clear}

-- Before the mark

-- a file that is there is firm
no_temp : (plan : Plan) (a : Disk) → CanExecute plan a → (x : Spot) (n : ℕ) → a.now x ≡ file n → ¬ IsTemp x
no_temp plan a can x n is (inl e) = let t : file n ≡ none = sym is ∙ ap a.now e ∙ (kind-absent a (temp_spot temp.Intent) (can.no_temps temp.Intent)).1 in absurd (cc)
no_temp plan a can x n is (inr (inl e)) = let t : file n ≡ none = sym is ∙ ap a.now e ∙ (kind-absent a (temp_spot temp.Manifest) (can.no_temps temp.Manifest)).1 in absurd (cc)
no_temp plan a can x n is (inr (inr e)) = let t : file n ≡ none = sym is ∙ ap a.now e ∙ (kind-absent a (temp_spot temp.Profile) (can.no_temps temp.Profile)).1 in absurd (cc)

pub firm_there : (plan : Plan) (a : Disk) → CanExecute plan a → (x : Spot) (n : ℕ) → a.now x ≡ file n → a.firm n ≡ true
firm_there plan a can x n is = firm_file a x n can.standing.firm (no_temp plan a can x n is) (inl (sym is))

pub starts_mid : (plan : Plan) (a : Disk) → CanExecute plan a → Mid a plan a
starts_mid plan a can = sound_mid plan a can.sound can.settled (firm_there plan a can)

pub made_mids : (plan : Plan) (a : Disk) (s t : Story) → Mid a plan (disk_of s) → Along (Makes (Has plan.folders) (disk_of s)) s t → Along (Mid a plan) s t
made_mids plan a s t mid b =
    along_weaken (Makes (Has plan.folders) (disk_of s)) (Mid a plan) s t
    (λ e h. folders_mid plan a (disk_of s) e h.same.now h.same.before h.same.bytes h.same.firm h.kept h.made mid) b

pub then_mids : (plan : Plan) (a : Disk) (s t u : Story) → Along (Mid a plan) s t → (Mid a plan (disk_of t) → Along (Mid a plan) t u) → Along (Mid a plan) s u
then_mids plan a s t u b go = along_trans (Mid a plan) s t u b (go (along_last (Mid a plan) s t b))

-- a temp that is taken away again
pub given_up_mids : (plan : Plan) → PassesRules plan → (a : Disk) (s t u : Story) → IsValid a → a.fresh ≤ (disk_of s).fresh → Mid a plan (disk_of s) → Along (Beside temp.Intent (disk_of s)) s t → Along (Temped temp.Intent (disk_of t)) t u → Along (Mid a plan) s u
given_up_mids plan passes a s t u valid fresh mid b c =
    let later : (disk_of s).fresh ≤ (disk_of t).fresh = (along_last (Beside temp.Intent (disk_of s)) s t b).fresh in
    then_mids plan a s t u (beside_mids plan passes a s t valid fresh mid b)
    (λ m. beside_mids plan passes a t u valid (omega arith) m (along_weaken (Temped temp.Intent (disk_of t)) (Beside temp.Intent (disk_of t)) t u (λ e h. h.beside) c))

pub while_mid : (plan : Plan) (a : Disk) (s t : Story) → Along (Mid a plan) s t → Along (MidWhileSet a plan) s t
while_mid plan a s t b = along_weaken (Mid a plan) (MidWhileSet a plan) s t (λ e h may. h) b

pub while_unset : (plan : Plan) (a : Disk) (s t : Story) → Along (IsUnset plan) s t → Along (MidWhileSet a plan) s t
while_unset plan a s t b = along_weaken (IsUnset plan) (MidWhileSet a plan) s t (λ e h may. absurd (h may)) b

pub then_while : (plan : Plan) (a : Disk) (s t u : Story) → Along (MidWhileSet a plan) s t → Along (MidWhileSet a plan) t u → Along (MidWhileSet a plan) s u
then_while plan a s t u b c = along_trans (MidWhileSet a plan) s t u b c

-- After the mark

-- the values of the intent place are those that it had, or none
unset_kept : (plan : Plan) (d e : Disk) → ((v : Value) → MayHold e intent_spot v → MayHold d intent_spot v ⊎ (v ≡ none)) → ((n : ℕ) → MayHold d intent_spot (file n) → e.bytes n ≡ d.bytes n) → IsUnset plan d → IsUnset plan e
unset_kept plan d e within bytes unset may = by_value may.0 may.1 may.2
  where
    by_value : (v : Value) → MayHold e intent_spot v → intent_by e.bytes v ≡ Some (set_form plan) → ⊥
    by_value none h is = cc
    by_value odd h is = cc
    by_value (file n) h is = elim (within (file n) h) [
      | inl old ↦ unset (file n, old, ap intent_value (sym (bytes n old)) ∙ is)
      | inr gone ↦ cc
    ]

phase_or_set : Option Intent → Phase
phase_or_set None = phase.Set
phase_or_set (Some i) = i.phase

pub ready_unset : (plan : Plan) (d : Disk) → ClearsReady plan d → IsUnset plan d
unfolding phase_or_set
ready_unset plan d ready may =
    let t : Some (clear_form plan) ≡ Some (set_form plan) = sym ready.form.text ∙ ap (intent_by d.bytes) (sym (ready.form.only may.0 may.1)) ∙ may.2 in
    let phases : phase.Clear ≡ phase.Set = ap phase_or_set t in
    absurd (cc)

-- the intent's file is firm
intent_firm : (plan : Plan) (d : Disk) → ClearsReady plan d → (n : ℕ) → MayHold d intent_spot (file n) → d.firm n ≡ true
intent_firm plan d ready n h = firm_file d intent_spot n ready.standing.firm intent-not_temp h

pub manifest_unset : (plan : Plan) (s t : Story) → ClearsReady plan (disk_of s) → Along (Beside temp.Manifest (disk_of s)) s t → Along (IsUnset plan) s t
manifest_unset plan s t ready b =
    along_weaken (Beside temp.Manifest (disk_of s)) (IsUnset plan) s t
    (λ e h. unset_kept plan (disk_of s) e (λ v held. inl (h.held intent_spot v (path-apart control.Intent control.Manifest refl refl) (path-apart control.Intent control.ManifestTemp refl refl) held))
    (λ n held. (h.files n (ready.standing.valid.numbers intent_spot n held) (intent_firm plan (disk_of s) ready n held)).1)
    (ready_unset plan (disk_of s) ready)) b

pub clears_unset : (plan : Plan) (s t : Story) → PassesRules plan → IsUnset plan (disk_of s) → Along (Clears plan (disk_of s)) s t → Along (IsUnset plan) s t
clears_unset plan s t passes unset b =
    along_weaken (Clears plan (disk_of s)) (IsUnset plan) s t
    (λ e h. unset_kept plan (disk_of s) e (λ v held. elim (h.held intent_spot v held) [ inl old ↦ inl old | inr new ↦ absurd (control-not_clear plan passes control.Intent new.0) ])
    (λ n held. ap (λ f. f n) h.files.bytes) unset) b

pub off_unset : (plan : Plan) (s t : Story) → IsUnset plan (disk_of s) → Along (TakesOff plan.folders_off (disk_of s)) s t → Along (IsUnset plan) s t
off_unset plan s t unset b =
    along_weaken (TakesOff plan.folders_off (disk_of s)) (IsUnset plan) s t
    (λ e h. unset_kept plan (disk_of s) e (λ v held. inl (h.held intent_spot v held)) (λ n held. ap (λ f. f n) h.bytes) unset) b

pub then_unset : (plan : Plan) (s t u : Story) → Along (IsUnset plan) s t → (IsUnset plan (disk_of t) → Along (IsUnset plan) t u) → Along (IsUnset plan) s u
then_unset plan s t u b go = along_trans (IsUnset plan) s t u b (go (along_last (IsUnset plan) s t b))

touched : (plan : Plan) (d e : Disk) → ClearsReady plan d → Touches intent_spot none d e → IsUnset plan e
touched plan d e ready h =
    unset_kept plan d e (λ v held. elim (h.own v held) [ inl old ↦ inl old | inr new ↦ inr (elim new [ inl gone ↦ gone | inr gone ↦ gone ]) ])
    (λ n held. ap (λ f. f n) h.files.bytes) (ready_unset plan d ready)

pub finish_unset : (plan : Plan) (s t : Story) → ClearsReady plan (disk_of s) → Along (Touches intent_spot none (disk_of s)) s t → Along (IsUnset plan) s t
finish_unset plan s t ready b =
    along_weaken (Touches intent_spot none (disk_of s)) (IsUnset plan) s t
    (λ e h. touched plan (disk_of s) e ready h) b

-- and where that failed
pub given_up_unset : (plan : Plan) (s t u : Story) → ClearsReady plan (disk_of s) → Along (Touches intent_spot none (disk_of s)) s t → Along (Temped temp.Intent (disk_of t)) t u → Along (IsUnset plan) s u
given_up_unset plan s t u ready b c =
    let last = along_last (Touches intent_spot none (disk_of s)) s t b in
    then_unset plan s t u (finish_unset plan s t ready b)
    (λ unset. along_weaken (Temped temp.Intent (disk_of t)) (IsUnset plan) t u
    (λ e h. unset_kept plan (disk_of t) e (λ v held. inl (h.place v held)) (λ n held. kept_bytes last h n held) unset) c)
  where
    kept_bytes : Touches intent_spot none (disk_of s) (disk_of t) → {e : Disk} → Temped temp.Intent (disk_of t) e → (n : ℕ) → MayHold (disk_of t) intent_spot (file n) → e.bytes n ≡ (disk_of t).bytes n
    kept_bytes last {e} h n held =
        let old : MayHold (disk_of s) intent_spot (file n) = elim (last.own (file n) held) [ inl old ↦ old | inr new ↦ absurd (elim new [ inl gone ↦ cc | inr gone ↦ cc ]) ] in
        (h.beside.files n (last.valid.numbers intent_spot n held) (ap (λ f. f n) last.files.firm ∙ intent_firm plan (disk_of s) ready n old)).1
