-- What is found behind the barrier stood before it.
use Rattle.std.proofs.Common.{◌≡◌, ◌≢◌, refl, sym, ap, ◌∙◌, inl, inr, subst}
use Rattle.std.specs.declared.option.Option.TheVariants.{None, Some}
use Rattle.std.specs.Prelude.{IfErr, IfOk}
use Rattle.std.specs.declared.result.Result.{Result}
use Rattle.std.specs.declared.result.Result.TheVariants.{Ok, Err}
use Rattle.tree_fs.specs.declared.name.Kind.TheVariants.{File}
use Rattle.tree_fs.specs.Disk.{Disk, none, file, kind_of}
use Rattle.tree_fs.specs.Parts.{bytes_of, bytes_at}
use Rattle.tree_fs.proofs.KindOf.{kind-file}
use Rattle.intent_json.specs.declared.intent.Intent.{Intent}
use Rattle.intent_json.specs.Accepted.{IsIntentOf}
use Rattle.desk_model.specs.Outcome.{intent_by}
use Rattle.desk_model.specs.Places.{intent_spot}
use Rattle.desk_model.specs.Standing.{Standing}
use Rattle.desk_model.proofs.Spots.{intent-not_temp}
use Rattle.intent_journal.specs.Found.{IsIntentAt, IsNoIntent, IsThere}
use Rattle.intent_journal.specs.Sweeps.{Sweeps}
use Rattle.intent_journal.specs.declared.error.IntentError.{IntentError}
use Rattle.intent_journal.specs.declared.error.IntentError.TheVariants as found
use Rattle.recover_run.specs.declared.error.RecoverError.{RecoverError}
use Rattle.recover_run.specs.declared.error.RecoverError.TheVariants.{BadIntent, SourceGone, Blocked, Failed, Memory}
use Rattle.recover_run.specs.Causes.{IsFault, of_intent}
use Rattle.recover_run.specs.declared.recovered.Recovered.{Recovered}
use Rattle.recover_run.specs.declared.recovered.Recovered.TheVariants.{Nothing, Finished}
use Rattle.recover_run.specs.Recovery.{IsReason, Tells}
use Rattle.recover_run.proofs.Swept.{intent_kind}

module _ (a e : Disk) (s : Sweeps a e) where
  same_now : e.now intent_spot ≡ a.now intent_spot
  same_now = s.now intent_spot intent-not_temp

  same_value : intent_by e.bytes (e.now intent_spot) ≡ intent_by a.bytes (a.now intent_spot)
  same_value = ap (intent_by e.bytes) same_now ∙ ap (λ b. intent_by b (a.now intent_spot)) s.files.bytes

  same_bytes : kind_of e intent_spot ≡ File → bytes_at e intent_spot ≡ bytes_at a intent_spot
  same_bytes is =
      let f = (kind-file e intent_spot is).1 in
      ap (bytes_of e) f.1 ∙ ap (λ b. b f.0) s.files.bytes ∙ sym (ap (bytes_of a) (sym same_now ∙ f.1))

  pub intent_before : (i : Intent) → IsIntentAt e i → IsIntentAt a i
  intent_before i at = record {
    file = sym (intent_kind a e s) ∙ at.file;
    value = sym same_value ∙ at.value;
    exact = subst (λ l. IsIntentOf l (Some i)) (same_bytes at.file) at.exact;
  }

  pub no_intent_before : IsNoIntent e → IsNoIntent a
  no_intent_before at = record {
    file = sym (intent_kind a e s) ∙ at.file;
    value = sym same_value ∙ at.value;
    exact = subst (λ l. IsIntentOf l None) (same_bytes at.file) at.exact;
  }

  pub there_still : (i : Intent) → IsThere i a → IsThere i e
  there_still i is = same_value ∙ is

  pub tells_before : (told : Recovered) → Tells e told → Tells a told
  tells_before Nothing is = sym (intent_kind a e s) ∙ is
  tells_before (Finished sets clears) is = record { intent = is.intent; stands = intent_before is.intent is.stands; set_count = is.set_count; clear_count = is.clear_count }

-- on a standing disk each file at the intent place is an intent
pub known_intent : (d : Disk) → Standing d → IsNoIntent d → ⊥
known_intent d standing bad =
    let f = (kind-file d intent_spot bad.file).1 in
    elim (standing.known (d.now intent_spot) (inl refl)) [
      | inl gone ↦ let t : file f.0 ≡ none = sym f.1 ∙ gone in absurd (cc)
      | inr some ↦ let t : None ≡ Some some.0 = sym bad.value ∙ some.1 in absurd (cc)
    ]

-- where it isn't that, only a fault or want of memory is told
pub fault_of_intent : (e : IntentError) → (e ≡ found.BadIntent → ⊥) → IsFault (of_intent e)
fault_of_intent found.Failed known = tt
fault_of_intent found.BadIntent known = known refl
fault_of_intent found.Memory known = tt

pub tells_ok : (a e : Disk) → Sweeps a e → (r : Result Recovered RecoverError) → IfOk r (Tells e) → IfOk r (Tells a)
tells_ok a e s (Ok told) h = tells_before a e s told h
tells_ok a e s (Err x) h = tt

reason_before : (a e : Disk) → Sweeps a e → (x : RecoverError) → IsReason e x → IsReason a x
reason_before a e s BadIntent is = no_intent_before a e s is
reason_before a e s (SourceGone p) is = record { intent = is.intent; stands = intent_before a e s is.intent is.stands }
reason_before a e s (Blocked p) is = record { intent = is.intent; stands = intent_before a e s is.intent is.stands }
reason_before a e s Failed is = tt
reason_before a e s Memory is = tt

pub reason_err : {T : Type 0} (a e : Disk) → Sweeps a e → (r : Result T RecoverError) → IfErr r (IsReason e) → IfErr r (IsReason a)
reason_err a e s (Ok v) h = tt
reason_err a e s (Err x) h = reason_before a e s x h

pub reason_of_intent : (d : Disk) (e : IntentError) → (e ≡ found.BadIntent → IsNoIntent d) → IsReason d (of_intent e)
reason_of_intent d found.Failed bad = tt
reason_of_intent d found.BadIntent bad = bad refl
reason_of_intent d found.Memory bad = tt

-- what is told of an intent that stands
reason_by : (d : Disk) (i : Intent) → IsIntentAt d i → (x : RecoverError) → x ≢ BadIntent → IsReason d x
reason_by d i at BadIntent not_bad = absurd (not_bad refl)
reason_by d i at (SourceGone p) not_bad = record { intent = i; stands = at }
reason_by d i at (Blocked p) not_bad = record { intent = i; stands = at }
reason_by d i at Failed not_bad = tt
reason_by d i at Memory not_bad = tt

pub reason_stuck : {T : Type 0} (d : Disk) (i : Intent) → IsIntentAt d i → (r : Result T RecoverError) → IfErr r (λ x. x ≢ BadIntent) → IfErr r (IsReason d)
reason_stuck d i at (Ok v) h = tt
reason_stuck d i at (Err x) h = reason_by d i at x h
