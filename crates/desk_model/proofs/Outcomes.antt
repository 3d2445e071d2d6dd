-- The outcome reads what Standing has settled.
use Rattle.std.proofs.Common.{◌≡◌, refl, sym, ap, ◌∙◌, inl, inr, subst}
use Rattle.std.specs.declared.option.Option.{Option}
use Rattle.std.specs.declared.option.Option.TheVariants.{None, Some}
use Rattle.tree_fs.specs.Spot.{Spot}
use Rattle.tree_fs.specs.Disk.{Disk, Value, none, file, odd, MayHold, IsSettled}
use Rattle.manifest_json.specs.Manifests.{manifest_value}
use Rattle.move_plan.specs.declared.plan.Plan.{Plan}
use Rattle.intent_json.specs.declared.intent.Intent.{Intent}
use Rattle.intent_json.specs.declared.intent.Phase.{Phase}
use Rattle.intent_json.specs.Reads.{intent_value}
use Rattle.desk_model.specs.Places.{manifest_spot, IsUsers, intent_spot}
use Rattle.desk_model.specs.Desk.{without_manifest, view, desk, desk_of}
use Rattle.desk_model.specs.Records.{recorded_by, read_as, manifest_of, profile_text}
use Rattle.desk_model.specs.Outcome.{intent_by, updated, IsThere, IsTakenOff, planned, outcome_by, outcome}
use Rattle.desk_model.specs.Standing.{NoneStands, IntentStands, Standing}
use Rattle.desk_model.proofs.Spots.{not_keep, users-below, temp-keep, intent-not_temp, manifest-not_keep}
use Rattle.desk_model.proofs.Agreeing.{Agree, without-agree, Alike, No, desk_of-alike}
use Rattle.tree_fs.specs.Frames.{Fewer}
use Rattle.tree_fs.proofs.Fewer.{settled-now}
use Rattle.desk_model.proofs.Fewer.{FirmBut, firm_file}
use Rattle.desk_model.proofs.Forms.{set-updated, clear-updated}
use Rattle.intent_json.specs.declared.intent.Phase.TheVariants as phase

module _ (e d : Disk) (less : Fewer e d) where
  -- the texts of intent and manifest
  pub intent_same : FirmBut d → (v : Value) → MayHold d intent_spot v → intent_by e.bytes v ≡ intent_by d.bytes v
  intent_same firm none h = refl
  intent_same firm odd h = refl
  intent_same firm (file n) h = ap intent_value (less.files n (firm_file d intent_spot n firm intent-not_temp h)).1

  recorded_same : FirmBut d → (v : Value) → MayHold d manifest_spot v → recorded_by e.bytes v ≡ recorded_by d.bytes v
  recorded_same firm none h = refl
  recorded_same firm odd h = refl
  recorded_same firm (file n) h = ap (λ text. read_as text (manifest_value text)) (less.files n (firm_file d manifest_spot n firm (λ temp. manifest-not_keep (temp-keep manifest_spot temp)) h)).1

  manifest_same : FirmBut d → IsSettled d manifest_spot → manifest_of e ≡ manifest_of d
  manifest_same firm settled = ap (recorded_by e.bytes) (settled-now e d less manifest_spot settled) ∙ recorded_same firm (d.now manifest_spot) (inl refl)

  pub desk-alike : FirmBut d → NoneStands d → Alike No (desk e) (desk d)
  desk-alike firm stands = desk_of-alike (view e) (view d)
      (manifest_same firm (stands manifest_spot manifest-not_keep))
      (λ x no_entry. without-agree e.now d.now x (λ ne. settled-now e d less x (stands x no_entry)))
      (λ s users. (λ h. sym (ap (λ f. f s) less.folders) ∙ h, λ h. ap (λ f. f s) less.folders ∙ h))

-- folders after a plan, where the values agree
module _ (e d : Disk) (same : e.folders ≡ d.folders) (plan : Plan) (agree : Agree (without_manifest (updated plan e.now)) (without_manifest (updated plan d.now))) where
  there_to : (s : Spot) → IsThere e plan s → IsThere d plan s
  there_to s (inl is) = inl (sym (ap (λ f. f s) same) ∙ is)
  there_to s (inr made) = inr made

  there_from : (s : Spot) → IsThere d plan s → IsThere e plan s
  there_from s (inl is) = inl (ap (λ f. f s) same ∙ is)
  there_from s (inr made) = inr made

  off_to : (s : Spot) → IsUsers s.root → IsTakenOff e plan s → IsTakenOff d plan s
  off_to s users off = record {
    listed = off.listed;
    no_value = λ x below. sym (agree x (not_keep x (users-below s x below users))) ∙ off.no_value x below;
    no_folder = λ x below there. off.no_folder x below (there_from x there);
  }

  off_from : (s : Spot) → IsUsers s.root → IsTakenOff d plan s → IsTakenOff e plan s
  off_from s users off = record {
    listed = off.listed;
    no_value = λ x below. agree x (not_keep x (users-below s x below users)) ∙ off.no_value x below;
    no_folder = λ x below there. off.no_folder x below (there_to x there);
  }

  pub planned-alike : Alike No (desk_of (planned e plan)) (desk_of (planned d plan))
  planned-alike = desk_of-alike (planned e plan) (planned d plan) refl agree
      (λ s users. (λ h. (there_to s h.0, λ off. h.1 (off_from s users off)), λ h. (there_from s h.0, λ off. h.1 (off_to s users off))))

module _ (e d : Disk) (less : Fewer e d) where
  form_agree : (intent : Intent) → IntentStands d intent → (p : Phase) → intent.phase ≡ p → Agree (without_manifest (updated intent.plan e.now)) (without_manifest (updated intent.plan d.now))
  form_agree intent stands phase.Set is x no_entry = without-agree _ _ x (λ ne. set-updated e d less intent.plan (stands.set_form is) x no_entry)
  form_agree intent stands phase.Clear is x no_entry =
      let bare = stands.accepted.bare is in
      without-agree _ _ x (λ ne. clear-updated e d less intent.plan (stands.clear_form is) bare.sets bare.saves x no_entry ne)

  by_intent : Standing d → (v : Value) → MayHold d intent_spot v → (o : Option Intent) → intent_by d.bytes v ≡ o → Alike No (outcome_by e o) (outcome_by d o)
  by_intent standing v h None is = desk-alike e d less standing.firm (standing.absent gone)
    where
      gone : MayHold d intent_spot none
      gone = elim (standing.known v h) [
        | inl none_is ↦ subst (MayHold d intent_spot) none_is h
        | inr some ↦ let t : None ≡ Some some.0 = sym is ∙ some.1 in absurd (cc)
      ]
  by_intent standing v h (Some intent) is =
      planned-alike e d less.folders intent.plan (form_agree intent (standing.intents intent (v, h, is)) intent.phase refl)

  -- what stands on more values has one outcome for all that are fewer
  pub outcome-alike : Standing d → (v : Value) → MayHold d intent_spot v → Alike No (outcome e v) (outcome d v)
  outcome-alike standing v h =
      subst (λ o. Alike No (outcome_by e o) (outcome d v)) (sym (intent_same e d less standing.firm v h)) (by_intent standing v h (intent_by d.bytes v) refl)

profile_by : (d : Disk) (o : Option Intent) → (outcome_by d o).profile ≡ profile_text d
profile_by d None = refl
profile_by d (Some intent) = refl

bytes_by : (d : Disk) (o : Option Intent) → (outcome_by d o).bytes ≡ d.bytes
bytes_by d None = refl
bytes_by d (Some intent) = refl

-- no plan moves the profile, or changes a byte
pub outcome-profile : (d : Disk) (v : Value) → (outcome d v).profile ≡ profile_text d
outcome-profile d v = profile_by d (intent_by d.bytes v)

pub outcome-bytes : (d : Disk) (v : Value) → (outcome d v).bytes ≡ d.bytes
outcome-bytes d v = bytes_by d (intent_by d.bytes v)
