-- While one value of the intent place gives way to another, the disk stands.
use Rattle.std.proofs.Common.{◌≡◌, ◌⊎◌, ℕ, List, refl, sym, ap, ◌∙◌, inl, inr, subst}
use Rattle.std.specs.declared.option.Option.{Option}
use Rattle.std.specs.declared.option.Option.TheVariants.{None, Some}
use Rattle.tree_fs.specs.Spot.{Spot}
use Rattle.tree_fs.specs.Disk.{Disk, Value, none, MayHold}
use Rattle.tree_fs.specs.Story.{Story, disk_of, Along}
use Rattle.tree_fs.proofs.Moments.{along_weaken}
use Rattle.move_plan.specs.Places.{Has}
use Rattle.intent_json.specs.declared.intent.Intent.{Intent}
use Rattle.intent_json.specs.declared.intent.Phase.TheVariants as phase
use Rattle.desk_model.specs.Desk.{Desk, IsNamed, in_plain, in_found, in_staged, in_asides, SameDesk, SameDeskBut}
use Rattle.desk_model.specs.Places.{intent_spot}
use Rattle.desk_model.specs.Outcome.{intent_by, outcome_by, outcome}
use Rattle.desk_model.specs.Standing.{NoneStands, IntentStands, Standing}
use Rattle.desk_model.specs.Stops.{Leads}
use Rattle.desk_model.proofs.SameDesks.{same_itself, same_sym}
use Rattle.intent_journal.specs.Forms.{Reads, BetweenForms, FormStands, ClearAgrees, BothStand, ToEither}
use Rattle.intent_journal.proofs.Besides.{same-off, none_kept, intent_kept, profile_kept, form_passes}
use Rattle.intent_journal.proofs.OffPlaces.{IsIntentOrTemp, intent-harmless, off-beside}

but_named : (free : Spot → Type 0) (k l : Desk) → SameDeskBut free k l → (n : ℕ) → IsNamed k n → IsNamed l n
but_named free k l h n (in_plain p is) = in_plain p (ap (λ f. f p) (sym h.plain) ∙ is)
but_named free k l h n (in_found p is) = in_found p (ap (λ f. f p) (sym h.found) ∙ is)
but_named free k l h n (in_staged p is) = in_staged p (ap (λ f. f p) (sym h.staged) ∙ is)
but_named free k l h n (in_asides p is) = in_asides p (ap (λ f. f p) (sym h.aside) ∙ is)

pub but_trans : (free : Spot → Type 0) (k l m : Desk) → SameDeskBut free k l → SameDeskBut free l m → SameDeskBut free k m
but_trans free k l m h j = record {
  plain = h.plain ∙ j.plain;
  manifest = h.manifest ∙ j.manifest;
  found = h.found ∙ j.found;
  staged = h.staged ∙ j.staged;
  aside = h.aside ∙ j.aside;
  profile = h.profile ∙ j.profile;
  folders = λ s out. let f = h.folders s out in let g = j.folders s out in (λ x. g.0 (f.0 x), λ x. f.1 (g.1 x));
  bytes = λ n named. h.bytes n named ∙ j.bytes n (but_named free k l h n named);
}

pub to_but : (free : Spot → Type 0) (k l : Desk) → SameDesk k l → SameDeskBut free k l
to_but free k l h = record {
  plain = h.plain;
  manifest = h.manifest;
  found = h.found;
  staged = h.staged;
  aside = h.aside;
  profile = h.profile;
  folders = λ s out. h.folders s (λ never. never);
  bytes = h.bytes;
}

-- a value is read as what it is said to be
reads_by : (bytes : ℕ → List ℕ) (v : Value) (o : Option Intent) → Reads bytes v o → intent_by bytes v ≡ o
reads_by bytes v None is = ap (intent_by bytes) is
reads_by bytes v (Some i) is = is

module _ (old new : Option Intent) (a e : Disk) (both : BothStand old new a) (between : BetweenForms old new a e) where
  -- what a value of the intent place is
  record Form (v : Value) : Type 0 where
    form : Option Intent
    which : (form ≡ old) ⊎ (form ≡ new)
    reads : Reads e.bytes v form
    stands : FormStands a form

  form_of : (v : Value) → MayHold e intent_spot v → Form v
  form_of v h = elim (between.each v h) [
    | inl is ↦ record { form = old; which = inl refl; reads = is; stands = both.old_stands }
    | inr is ↦ record { form = new; which = inr refl; reads = is; stands = both.new_stands }
  ]

  leads_to : (v : Value) (f : Form v) → SameDesk (outcome e v) (outcome_by a f.form)
  leads_to v f = subst (λ o. SameDesk (outcome_by e o) (outcome_by a f.form)) (sym (reads_by e.bytes v f.form f.reads))
      (same-off IsIntentOrTemp intent-harmless a e both.valid both.firm (off-beside a e between.beside) f.form (form_passes a f.form f.stands))

  plain_of : (o : Option Intent) → (o ≡ old) ⊎ (o ≡ new) → (outcome_by a o).plain ≡ (outcome_by a old).plain
  plain_of o (inl is) = ap (λ p. (outcome_by a p).plain) is
  plain_of o (inr is) = ap (λ p. (outcome_by a p).plain) is ∙ sym both.one_plain

  known_by : (v : Value) (o : Option Intent) → Reads e.bytes v o → (v ≡ none) ⊎ ((i : Intent) × (intent_by e.bytes v ≡ Some i))
  known_by v None is = inl is
  known_by v (Some i) is = inr (i, is)

  absent_by : (o : Option Intent) → Reads e.bytes none o → FormStands a o → NoneStands e
  absent_by None is h = none_kept IsIntentOrTemp intent-harmless a e both.valid both.firm (off-beside a e between.beside) h
  absent_by (Some i) is h = let t : None ≡ Some i = is in absurd (cc)

  stands_by : (i : Intent) (v : Value) (o : Option Intent) → Reads e.bytes v o → intent_by e.bytes v ≡ Some i → FormStands a o → IntentStands e i
  stands_by i v None gone is h = let t : None ≡ Some i = ap (intent_by e.bytes) (sym gone) ∙ is in absurd (cc)
  stands_by i v (Some j) reads is h = let t : Some j ≡ Some i = sym reads ∙ is in let same : j ≡ i = cc in subst (IntentStands e) same (intent_kept IsIntentOrTemp intent-harmless a e both.valid both.firm (off-beside a e between.beside) j h)

  clear_by : (i : Intent) → i.phase ≡ phase.Clear → (o p : Option Intent) → o ≡ Some i → (o ≡ old) ⊎ (o ≡ new) → (p ≡ old) ⊎ (p ≡ new) → SameDeskBut (Has i.plan.folders_off) (outcome_by a o) (outcome_by a p)
  clear_by i clear o p is (inl h) (inl k) = subst (λ q. SameDeskBut (Has i.plan.folders_off) (outcome_by a o) (outcome_by a q)) (h ∙ sym k) (to_but _ _ _ (same_itself (outcome_by a o)))
  clear_by i clear o p is (inr h) (inr k) = subst (λ q. SameDeskBut (Has i.plan.folders_off) (outcome_by a o) (outcome_by a q)) (h ∙ sym k) (to_but _ _ _ (same_itself (outcome_by a o)))
  clear_by i clear o p is (inl h) (inr k) = subst (λ q. SameDeskBut (Has i.plan.folders_off) (outcome_by a q) (outcome_by a p)) (sym is) (subst (λ q. SameDeskBut (Has i.plan.folders_off) (outcome_by a (Some i)) (outcome_by a q)) (sym k) (subst (λ q. ClearAgrees a q new) (sym h ∙ is) both.old_clear clear))
  clear_by i clear o p is (inr h) (inl k) = subst (λ q. SameDeskBut (Has i.plan.folders_off) (outcome_by a q) (outcome_by a p)) (sym is) (subst (λ q. SameDeskBut (Has i.plan.folders_off) (outcome_by a (Some i)) (outcome_by a q)) (sym k) (subst (λ q. ClearAgrees a q old) (sym h ∙ is) both.new_clear clear))

  one_by : (i : Intent) (v w : Value) → intent_by e.bytes v ≡ Some i → i.phase ≡ phase.Clear → Form v → Form w → SameDeskBut (Has i.plan.folders_off) (outcome e v) (outcome e w)
  one_by i v w is clear f g =
      let free = Has i.plan.folders_off in
      but_trans free (outcome e v) (outcome_by a f.form) (outcome e w) (to_but free _ _ (leads_to v f))
      (but_trans free (outcome_by a f.form) (outcome_by a g.form) (outcome e w) (clear_by i clear f.form g.form (sym (reads_by e.bytes v f.form f.reads) ∙ is) f.which g.which) (to_but free _ _ (same_sym _ _ (leads_to w g))))

  pub between_standing : Standing e
  between_standing = record {
    valid = between.beside.valid;
    firm = between.beside.firm both.firm;
    known = λ v h. let f = form_of v h in known_by v f.form f.reads;
    absent = λ h. let f = form_of none h in absent_by f.form f.reads f.stands;
    intents = λ i may. let f = form_of may.0 may.1 in stands_by i may.0 f.form f.reads may.2 f.stands;
    one_plain = λ v w hv hw.
        let f = form_of v hv in
        let g = form_of w hw in
        (leads_to v f).plain ∙ plain_of f.form f.which ∙ sym (plain_of g.form g.which) ∙ sym (leads_to w g).plain;
    one_outcome = λ v w i hv hw is clear. one_by i v w is clear (form_of v hv) (form_of w hw);
  }

  either_by : (v : Value) (f : Form v) → ToEither a old new (outcome e v)
  either_by v f = elim f.which [
    | inl is ↦ inl (subst (λ o. SameDesk (outcome e v) (outcome_by a o)) is (leads_to v f))
    | inr is ↦ inr (subst (λ o. SameDesk (outcome e v) (outcome_by a o)) is (leads_to v f))
  ]

  pub between_leads : Leads (ToEither a old new) e
  between_leads = record {
    standing = between_standing;
    profile = profile_kept IsIntentOrTemp intent-harmless a e both.valid both.firm (off-beside a e between.beside) both.profile;
    each = λ v h. either_by v (form_of v h);
  }

-- every disk along a change of the intent place leads where the old value leads or the new one
pub between_along : (old new : Option Intent) (s t : Story) → BothStand old new (disk_of s) → Along (BetweenForms old new (disk_of s)) s t → Along (Leads (ToEither (disk_of s) old new)) s t
between_along old new s t both a = along_weaken (BetweenForms old new (disk_of s)) (Leads (ToEither (disk_of s) old new)) s t (λ e h. between_leads old new (disk_of s) e both h) a
