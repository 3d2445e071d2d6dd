-- No step but the journal's and the manifest's changes what stands at a control place.
use Rattle.std.proofs.Common.{◌≡◌, ◌≢◌, Bool, true, false, refl, sym, ap, ◌∙◌, inl, inr, subst}
use Rattle.rel_paths.specs.declared.control.Control.{Control}
use Rattle.rel_paths.specs.declared.control.Control.TheVariants as control
use Rattle.tree_fs.specs.Texts.{control_spot}
use Rattle.tree_fs.specs.Disk.{Disk, Value, MayHold, kind_of}
use Rattle.tree_fs.proofs.KindOf.{same_kind}
use Rattle.move_plan.specs.declared.plan.Plan.{Plan}
use Rattle.move_plan.specs.Places.{Has}
use Rattle.move_plan.specs.Rules.{IsFree, PassesRules}
use Rattle.move_plan.proofs.Entries.{rule_2}
use Rattle.desk_model.specs.Places.{manifest_spot}
use Rattle.desk_model.specs.Records.{recorded_by}
use Rattle.intent_journal.specs.declared.temp.Temp.TheVariants as temp
use Rattle.intent_journal.specs.Temps.{temp_spot, IsFileOrAbsent, Beside}
use Rattle.plan_exec.specs.Frames.{Moves, Clears}
use Rattle.plan_exec.specs.Making.{Makes}
use Rattle.plan_exec.specs.TakingOff.{TakesOff}
use Rattle.plan_exec.specs.Ending.{ManifestDone, SameControls, NoControl, IsOfManifest, IsOfIntent}
use Rattle.desk_model.proofs.Spots.{path-apart}
use Rattle.plan_exec.proofs.Rules.{control-not_set, control-not_save, control-not_clear}

pub controls_trans : (free : Control → Type 0) (a d e : Disk) → SameControls free a d → SameControls free d e → SameControls free a e
controls_trans free a d e h k which out = k which out ∙ h which out

pub controls_weaken : (free : Control → Type 0) (a e : Disk) → SameControls NoControl a e → SameControls free a e
controls_weaken free a e h which out = h which (λ never. never)

module _ (plan : Plan) (passes : PassesRules plan) (a e : Disk) where
  pub controls_made : Makes (Has plan.folders) a e → SameControls NoControl a e
  controls_made m which out =
      let x = control_spot which in
      same_kind e a x (by_test (e.folders x) (a.folders x) refl refl) (ap (λ f. f x) m.same.now)
    where
      not_made : Has plan.folders (control_spot which) → ⊥
      not_made h = (subst IsFree h.here ((rule_2 plan passes).folders h.place h.listed)).not_control which refl

      by_test : (b c : Bool) → e.folders (control_spot which) ≡ b → a.folders (control_spot which) ≡ c → e.folders (control_spot which) ≡ a.folders (control_spot which)
      by_test true true is was = is ∙ sym was
      by_test false false is was = is ∙ sym was
      by_test false true is was = let t : false ≡ true = sym is ∙ m.kept (control_spot which) was in absurd (cc)
      by_test true false is was = elim (m.made (control_spot which) is) [
        | inl old ↦ let t : true ≡ false = sym old ∙ was in absurd (cc)
        | inr new ↦ absurd (not_made new)
      ]

  pub controls_moved : Moves plan a e → SameControls NoControl a e
  controls_moved m which out =
      let x = control_spot which in
      same_kind e a x (ap (λ f. f x) m.files.folders) (m.now x (λ to. elim to [ inl set ↦ control-not_set plan passes which set | inr save ↦ control-not_save plan passes which save ]))

  pub controls_cleared : Clears plan a e → SameControls NoControl a e
  controls_cleared c which out =
      let x = control_spot which in
      same_kind e a x (ap (λ f. f x) c.files.folders) (c.now x (control-not_clear plan passes which))

  -- a control place is no folder to take off
  pub controls_off : TakesOff plan.folders_off a e → SameControls NoControl a e
  controls_off t which out = same_kind e a (control_spot which) (by_test (e.folders (control_spot which)) (a.folders (control_spot which)) refl refl) (ap (λ f. f (control_spot which)) t.now)
    where
      not_off : Has plan.folders_off (control_spot which) → ⊥
      not_off h = (subst IsFree h.here ((rule_2 plan passes).folders_off h.place h.listed)).not_control which refl

      by_test : (b c : Bool) → e.folders (control_spot which) ≡ b → a.folders (control_spot which) ≡ c → e.folders (control_spot which) ≡ a.folders (control_spot which)
      by_test true true is was = is ∙ sym was
      by_test false false is was = is ∙ sym was
      by_test true false is was = let t : true ≡ false = sym (t.stays (control_spot which) is) ∙ was in absurd (cc)
      by_test false true is was = elim (t.gone (control_spot which) was) [
        | inl still ↦ let t : true ≡ false = sym still ∙ is in absurd (cc)
        | inr gone ↦ absurd (not_off gone.0)
      ]

  -- and the manifest stays
  pub manifest_cleared : Clears plan a e → ManifestDone plan a → ManifestDone plan e
  manifest_cleared c m =
      let within : (which : Control) (v : Value) → MayHold e (control_spot which) v → MayHold a (control_spot which) v = λ which v h. elim (c.held (control_spot which) v h) [ inl old ↦ old | inr new ↦ absurd (control-not_clear plan passes which new.0) ] in
      record {
        is = (λ i. recorded_by (c.files.bytes i) (c.now manifest_spot (control-not_clear plan passes control.Manifest) i)) ∙ m.is;
        settled = λ v h. m.settled v (within control.Manifest v h) ∙ sym (c.now manifest_spot (control-not_clear plan passes control.Manifest));
        gone = controls_cleared c control.ManifestTemp (λ never. never) ∙ m.gone;
        temp_settled = λ v h. m.temp_settled v (within control.ManifestTemp v h) ∙ sym (c.now (temp_spot temp.Manifest) (control-not_clear plan passes control.ManifestTemp));
      }

  pub manifest_off : TakesOff plan.folders_off a e → ManifestDone plan a → ManifestDone plan e
  manifest_off t m = record {
    is = (λ i. recorded_by (t.bytes i) (t.now i manifest_spot)) ∙ m.is;
    settled = λ v h. m.settled v (t.held manifest_spot v h) ∙ sym (ap (λ f. f manifest_spot) t.now);
    gone = controls_off t control.ManifestTemp (λ never. never) ∙ m.gone;
    temp_settled = λ v h. m.temp_settled v (t.held (temp_spot temp.Manifest) v h) ∙ sym (ap (λ f. f (temp_spot temp.Manifest)) t.now);
  }

-- The journal's steps, and the manifest's

intent-place : (which : Control) → ¬ IsOfIntent which → control_spot which ≢ control_spot control.Intent
intent-place control.Intent out e = out (inl refl)
intent-place control.IntentTemp out e = out (inr refl)
intent-place control.ManifestTemp out e = path-apart control.ManifestTemp control.Intent refl refl e
intent-place control.ProfileTemp out e = path-apart control.ProfileTemp control.Intent refl refl e
intent-place control.Profile out e = path-apart control.Profile control.Intent refl refl e
intent-place control.Manifest out e = path-apart control.Manifest control.Intent refl refl e

intent-temp : (which : Control) → ¬ IsOfIntent which → control_spot which ≢ control_spot control.IntentTemp
intent-temp control.Intent out e = out (inl refl)
intent-temp control.IntentTemp out e = out (inr refl)
intent-temp control.ManifestTemp out e = path-apart control.ManifestTemp control.IntentTemp refl refl e
intent-temp control.ProfileTemp out e = path-apart control.ProfileTemp control.IntentTemp refl refl e
intent-temp control.Profile out e = path-apart control.Profile control.IntentTemp refl refl e
intent-temp control.Manifest out e = path-apart control.Manifest control.IntentTemp refl refl e

manifest-place : (which : Control) → ¬ IsOfManifest which → control_spot which ≢ control_spot control.Manifest
manifest-place control.Intent out e = path-apart control.Intent control.Manifest refl refl e
manifest-place control.IntentTemp out e = path-apart control.IntentTemp control.Manifest refl refl e
manifest-place control.ManifestTemp out e = out (inr refl)
manifest-place control.ProfileTemp out e = path-apart control.ProfileTemp control.Manifest refl refl e
manifest-place control.Profile out e = path-apart control.Profile control.Manifest refl refl e
manifest-place control.Manifest out e = out (inl refl)

manifest-temp : (which : Control) → ¬ IsOfManifest which → control_spot which ≢ control_spot control.ManifestTemp
manifest-temp control.Intent out e = path-apart control.Intent control.ManifestTemp refl refl e
manifest-temp control.IntentTemp out e = path-apart control.IntentTemp control.ManifestTemp refl refl e
manifest-temp control.ManifestTemp out e = out (inr refl)
manifest-temp control.ProfileTemp out e = path-apart control.ProfileTemp control.ManifestTemp refl refl e
manifest-temp control.Profile out e = path-apart control.Profile control.ManifestTemp refl refl e
manifest-temp control.Manifest out e = out (inl refl)

pub controls_intent : (a e : Disk) → Beside temp.Intent a e → SameControls IsOfIntent a e
controls_intent a e b which out = same_kind e a (control_spot which) (ap (λ f. f (control_spot which)) b.folders) (b.now (control_spot which) (intent-place which out) (intent-temp which out))

pub controls_manifest : (a e : Disk) → Beside temp.Manifest a e → SameControls IsOfManifest a e
controls_manifest a e b which out = same_kind e a (control_spot which) (ap (λ f. f (control_spot which)) b.folders) (b.now (control_spot which) (manifest-place which out) (manifest-temp which out))

-- a file or absent still
pub way_still : (which : Control) (a e : Disk) → kind_of e (control_spot which) ≡ kind_of a (control_spot which) → IsFileOrAbsent a (control_spot which) → IsFileOrAbsent e (control_spot which)
way_still which a e same way = elim way [ inl there ↦ inl (same ∙ there) | inr gone ↦ inr (same ∙ gone) ]
