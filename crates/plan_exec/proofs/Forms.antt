-- A disk whose intent place has one value.
use Rattle.std.proofs.Common.{◌≡◌, refl, sym, ap, ◌∙◌, inl, inr, subst}
use Rattle.std.specs.declared.option.Option.TheVariants.{Some}
use Rattle.tree_fs.specs.Spot.{Spot}
use Rattle.tree_fs.specs.Disk.{Disk, Value, none, file, MayHold, IsValid, IsSettled}
use Rattle.tree_fs.specs.Story.{Story, disk_of, Along}
use Rattle.tree_fs.proofs.Moments.{along_weaken}
use Rattle.tree_fs.specs.Frames.{SameFiles}
use Rattle.move_plan.specs.declared.plan.Plan.{Plan}
use Rattle.move_plan.specs.Places.{Has}
use Rattle.intent_json.specs.declared.intent.Intent.{Intent}
use Rattle.intent_json.specs.declared.intent.Phase.{Phase}
use Rattle.desk_model.specs.Desk.{Desk, SameDesk, SameDeskBut}
use Rattle.desk_model.specs.Places.{profile_spot, intent_spot}
use Rattle.desk_model.specs.Outcome.{intent_by, outcome}
use Rattle.desk_model.specs.Standing.{MayBe, IntentStands, Standing}
use Rattle.desk_model.specs.Stops.{Leads}
use Rattle.desk_model.proofs.Along.{along_keeps}
use Rattle.desk_model.proofs.Fewer.{FirmBut}
use Rattle.desk_model.proofs.SameDesks.{same_itself}
use Rattle.plan_exec.specs.Steps.{StandsAlone, ToOutcomeOf}

same_free : (free : Spot → Type 0) (k : Desk) → SameDeskBut free k k
same_free free k = let h = same_itself k in record {
  plain = h.plain;
  manifest = h.manifest;
  found = h.found;
  staged = h.staged;
  aside = h.aside;
  profile = h.profile;
  folders = λ s out. h.folders s (λ never. never);
  bytes = h.bytes;
}

same_values : (free : Spot → Type 0) (e : Disk) (v w : Value) → v ≡ w → SameDeskBut free (outcome e v) (outcome e w)
same_values free e v w same = subst (λ u. SameDeskBut free (outcome e v) (outcome e u)) same (same_free free (outcome e v))

module _ (plan : Plan) (form : Phase) (e : Disk) (alone : StandsAlone plan form e) where
  it : Intent
  it = record { phase = form; plan = plan }

  pub alone_now : e.now intent_spot ≡ file alone.number
  alone_now = alone.only (e.now intent_spot) (inl refl)

  pub alone_may : MayBe e (record { phase = form; plan = plan })
  alone_may = (file alone.number, inl (sym alone_now), alone.text)

  pub alone_is : (intent : Intent) → (v : Value) → MayHold e intent_spot v → intent_by e.bytes v ≡ Some intent → record { phase = form; plan = plan } ≡ intent
  alone_is intent v h is =
      let t : Some (record { phase = form; plan = plan }) ≡ Some intent = sym alone.text ∙ ap (intent_by e.bytes) (sym (alone.only v h)) ∙ is in
      cc

  -- the one intent's form stands: so does the disk
  pub alone_standing : IsValid e → FirmBut e → IntentStands e (record { phase = form; plan = plan }) → Standing e
  alone_standing valid firm stands = record {
    valid = valid;
    firm = firm;
    known = λ v h. inr (record { phase = form; plan = plan }, ap (intent_by e.bytes) (alone.only v h) ∙ alone.text);
    absent = λ h. let t : none ≡ file alone.number = alone.only none h in absurd (cc);
    intents = λ intent may. subst (IntentStands e) (alone_is intent may.0 may.1 may.2) stands;
    one_plain = λ v w hv hw. ap (λ u. (outcome e u).plain) (alone.only v hv ∙ sym (alone.only w hw));
    one_outcome = λ v w intent hv hw is clear. same_values (Has intent.plan.folders_off) e v w (alone.only v hv ∙ sym (alone.only w hw));
  }

-- the intent place is as it was, and so are all bytes
pub alone_kept : (plan : Plan) (form : Phase) (a e : Disk) → SameFiles a e → ((v : Value) → MayHold e intent_spot v → MayHold a intent_spot v) → StandsAlone plan form a → StandsAlone plan form e
alone_kept plan form a e files within alone = record {
  number = alone.number;
  only = λ w h. alone.only w (within w h);
  text = ap (λ b. intent_by b (file alone.number)) files.bytes ∙ alone.text;
}

pub all_files : (a e : Disk) → SameFiles a e → SameFiles a e
all_files a e h = record { folders = h.folders; bytes = h.bytes; firm = h.firm; fresh = h.fresh }

-- a frame under which the one intent stands at each disk leads where the start leads
pub record Carries (plan : Plan) (form : Phase) (a e : Disk) : Type 0 where
  pub standing : Standing e
  pub profile : IsSettled e profile_spot
  pub alone : StandsAlone plan form e
  pub files : SameFiles a e
  pub intent : e.now intent_spot ≡ a.now intent_spot

pub carries_leads : (plan : Plan) (form : Phase) (P : Disk → Type 0) (s t : Story) → ((e : Disk) → P e → Carries plan form (disk_of s) e) → Along P s t → Along (Leads (ToOutcomeOf (disk_of s))) s t
carries_leads plan form P s t to a =
    let v = (disk_of s).now intent_spot in
    along_weaken (λ e. P e × SameDesk (outcome e v) (outcome (disk_of s) v)) (Leads (ToOutcomeOf (disk_of s))) s t
    (λ e h. let c = to e h.0 in record {
      standing = c.standing;
      profile = c.profile;
      each = λ w held. subst (λ u. SameDesk (outcome e u) (outcome (disk_of s) v)) (sym c.intent ∙ alone_now plan form e c.alone ∙ sym (c.alone.only w held)) h.1;
    })
    (along_keeps P v s t (λ e h. let c = to e h in record { standing = c.standing; profile = c.profile; files = all_files (disk_of s) e c.files; held = inl (sym c.intent) }) a)
