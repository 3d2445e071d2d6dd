-- Standing is kept by fewer values: so every image of a standing disk stands.
use Rattle.std.proofs.Common.{◌≡◌, true, false, sym, ap, ◌∙◌, inl, inr}
use Rattle.std.specs.declared.option.Option.TheVariants.{None, Some}
use Rattle.tree_fs.specs.Disk.{Disk, Value, none, MayHold, IsValid, Image}
use Rattle.tree_fs.proofs.Images.{Image-valid}
use Rattle.tree_fs.proofs.Disks.{MayHold-settled}
use Rattle.move_plan.specs.Places.{Has}
use Rattle.intent_json.specs.declared.intent.Intent.{Intent}
use Rattle.desk_model.specs.Desk.{SameDeskBut}
use Rattle.desk_model.specs.Places.{intent_spot}
use Rattle.desk_model.specs.Outcome.{intent_by, outcome}
use Rattle.desk_model.specs.Standing.{Standing, AtRest}
use Rattle.desk_model.proofs.Agreeing.{Alike, No, alike-trans, alike-sym, alike-weaken, alike-same}
use Rattle.tree_fs.specs.Frames.{Fewer}
use Rattle.tree_fs.proofs.Fewer.{image-fewer}
use Rattle.desk_model.proofs.Fewer.{firm-fewer, none-fewer, intent-fewer}
use Rattle.desk_model.proofs.Outcomes.{intent_same, outcome-alike, outcome-profile, outcome-bytes}

pub standing-fewer : (e d : Disk) → Fewer e d → IsValid e → Standing d → Standing e
standing-fewer e d less valid standing = record {
  valid = valid;
  firm = firm-fewer e d less standing.firm;
  known = λ v h. elim (standing.known v (held v h)) [ inl gone ↦ inl gone | inr some ↦ inr (some.0, same v h ∙ some.1) ];
  absent = λ h. none-fewer e d less (standing.absent (held none h));
  intents = λ intent may. intent-fewer e d less intent (standing.intents intent (may.0, held may.0 may.1, sym (same may.0 may.1) ∙ may.2));
  one_plain = λ v w hv hw. (alike v hv).plain ∙ standing.one_plain v w (held v hv) (held w hw) ∙ sym (alike w hw).plain;
  one_outcome = λ v w intent hv hw is clear. whole v w intent hv hw (alike-same _ _ _ (standing.one_outcome v w intent (held v hv) (held w hw) (sym (same v hv) ∙ is) clear));
}
  where
    held : (v : Value) → MayHold e intent_spot v → MayHold d intent_spot v
    held v h = less.within intent_spot v h

    same : (v : Value) → MayHold e intent_spot v → intent_by e.bytes v ≡ intent_by d.bytes v
    same v h = intent_same e d less standing.firm v (held v h)

    alike : (v : Value) → MayHold e intent_spot v → Alike No (outcome e v) (outcome d v)
    alike v h = outcome-alike e d less standing v (held v h)

    whole : (v w : Value) (intent : Intent) → MayHold e intent_spot v → MayHold e intent_spot w → Alike (Has intent.plan.folders_off) (outcome d v) (outcome d w) → SameDeskBut (Has intent.plan.folders_off) (outcome e v) (outcome e w)
    whole v w intent hv hw both =
        let free = Has intent.plan.folders_off in
        let chain = alike-trans free (outcome e v) (outcome d w) (outcome e w)
        (alike-trans free (outcome e v) (outcome d v) (outcome d w) (alike-weaken free _ _ (alike v hv)) both)
        (alike-weaken free _ _ (alike-sym No _ _ (alike w hw))) in
        record {
          plain = chain.plain;
          manifest = chain.manifest;
          found = chain.found;
          staged = chain.staged;
          aside = chain.aside;
          profile = outcome-profile e v ∙ sym (outcome-profile e w);
          folders = chain.folders;
          bytes = λ n named. ap (λ b. b n) (outcome-bytes e v ∙ sym (outcome-bytes e w));
        }

-- every image of a standing disk stands
pub image-standing : (d left : Disk) → Standing d → Image d left → Standing left
image-standing d left standing image = standing-fewer left d (image-fewer d left standing.valid image) (Image-valid d left standing.valid image) standing

-- a disk at rest without an intent stands
pub at_rest-standing : (d : Disk) → AtRest d → Standing d
at_rest-standing d rest = record {
  valid = rest.valid;
  firm = λ x n h soft. let t : true ≡ false = sym (rest.firm n (rest.valid.numbers x n h)) ∙ soft in absurd (cc);
  known = λ v h. inl (gone v h);
  absent = λ h x no_entry v may. MayHold-settled d x v (rest.settled x) may;
  intents = λ intent may. absurd (no_intent may.0 intent may.1 may.2);
  one_plain = λ v w hv hw. ap (λ u. (outcome d u).plain) (gone v hv ∙ sym (gone w hw));
  one_outcome = λ v w intent hv hw is clear. absurd (no_intent v intent hv is);
}
  where
    gone : (v : Value) → MayHold d intent_spot v → v ≡ none
    gone v h = MayHold-settled d intent_spot v (rest.settled intent_spot) h ∙ rest.no_intent

    no_intent : (v : Value) (intent : Intent) → MayHold d intent_spot v → intent_by d.bytes v ≡ Some intent → ⊥
    no_intent v intent h is = let t : None ≡ Some intent = ap (intent_by d.bytes) (sym (gone v h)) ∙ is in absurd (cc)
