-- A standing disk stands where only some places of `keep` change.
use Rattle.std.proofs.Common.{◌≡◌, refl, sym, ap, ◌∙◌, inl, inr, subst}
use Rattle.std.specs.Prelude.{IfSome}
use Rattle.std.specs.declared.option.Option.{Option}
use Rattle.std.specs.declared.option.Option.TheVariants.{None, Some}
use Rattle.tree_fs.specs.Spot.{Spot}
use Rattle.tree_fs.specs.Disk.{Disk, Value, none, file, odd, MayHold, IsValid}
use Rattle.move_plan.specs.Places.{Has}
use Rattle.move_plan.specs.Rules.{PassesRules}
use Rattle.intent_json.specs.declared.intent.Intent.{Intent}
use Rattle.intent_json.specs.declared.intent.Phase.TheVariants as phase
use Rattle.intent_json.specs.Reads.{intent_value}
use Rattle.desk_model.specs.Places.{intent_spot}
use Rattle.desk_model.specs.Desk.{SameDesk, SameDeskBut}
use Rattle.desk_model.specs.Outcome.{intent_by, outcome_by, outcome}
use Rattle.desk_model.specs.Standing.{Standing}
use Rattle.desk_model.proofs.Spots.{intent-not_temp}
use Rattle.desk_model.proofs.Fewer.{firm_file}
use Rattle.desk_model.proofs.SameDesks.{same_sym}
use Rattle.intent_journal.specs.Temps.{IsFirmBut}
use Rattle.intent_journal.proofs.Besides.{Harmless, Off, same-off, none_kept, intent_kept}
use Rattle.intent_journal.proofs.Between.{but_trans, to_but}

-- the intent that a value of a standing disk is passes the rules
pub rules_by : (d : Disk) → Standing d → (v : Value) → MayHold d intent_spot v → IfSome (intent_by d.bytes v) (λ i. PassesRules i.plan)
rules_by d standing v h = by_form (intent_by d.bytes v) refl
  where
    by_form : (o : Option Intent) → intent_by d.bytes v ≡ o → IfSome o (λ i. PassesRules i.plan)
    by_form None is = tt
    by_form (Some i) is = (standing.intents i (v, h, is)).accepted.rules

module _ (off : Spot → Type 0) (harm : Harmless off) (apart : ¬ off intent_spot) (a e : Disk) (standing : Standing a) (b : Off off a e) where
  held : (v : Value) → MayHold e intent_spot v → MayHold a intent_spot v
  held v h = b.held intent_spot v apart h

  same : (v : Value) → MayHold a intent_spot v → intent_by e.bytes v ≡ intent_by a.bytes v
  same none h = refl
  same odd h = refl
  same (file n) h = ap intent_value (b.files n (standing.valid.numbers intent_spot n h) (firm_file a intent_spot n standing.firm intent-not_temp h)).1

  pub outcome_off : (v : Value) → MayHold a intent_spot v → SameDesk (outcome e v) (outcome a v)
  outcome_off v h = subst (λ (o : Option Intent). SameDesk (outcome_by e o) (outcome a v)) (sym (same v h))
      (same-off off harm a e standing.valid standing.firm b (intent_by a.bytes v) (rules_by a standing v h))

  one_by : (v w : Value) (i : Intent) → MayHold e intent_spot v → MayHold e intent_spot w → intent_by e.bytes v ≡ Some i → i.phase ≡ phase.Clear → SameDeskBut (Has i.plan.folders_off) (outcome e v) (outcome e w)
  one_by v w i hv hw is clear =
      let free = Has i.plan.folders_off in
      but_trans free (outcome e v) (outcome a v) (outcome e w) (to_but free _ _ (outcome_off v (held v hv)))
      (but_trans free (outcome a v) (outcome a w) (outcome e w) (standing.one_outcome v w i (held v hv) (held w hw) (sym (same v (held v hv)) ∙ is) clear) (to_but free _ _ (same_sym _ _ (outcome_off w (held w hw)))))

  pub standing_off : IsValid e → IsFirmBut e → Standing e
  standing_off valid firm = record {
    valid = valid;
    firm = firm;
    known = λ v h. elim (standing.known v (held v h)) [ inl gone ↦ inl gone | inr some ↦ inr (some.0, same v (held v h) ∙ some.1) ];
    absent = λ h. none_kept off harm a e standing.valid standing.firm b (standing.absent (held none h));
    intents = λ i may. intent_kept off harm a e standing.valid standing.firm b i (standing.intents i (may.0, held may.0 may.1, sym (same may.0 (held may.0 may.1)) ∙ may.2));
    one_plain = λ v w hv hw. (outcome_off v (held v hv)).plain ∙ standing.one_plain v w (held v hv) (held w hw) ∙ sym (outcome_off w (held w hw)).plain;
    one_outcome = λ v w i hv hw is clear. one_by v w i hv hw is clear;
  }
