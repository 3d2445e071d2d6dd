-- A change by others keeps Standing, where what another live intent takes off a clear form takes off too.
use Rattle.std.proofs.Common.{◌≡◌, ◌⊎◌, ◌↔◌, true, List, [], ◌∷◌, refl, sym, ap, ◌∙◌, inl, inr, subst}
use Rattle.std.specs.declared.option.Option.{Option}
use Rattle.std.specs.declared.option.Option.TheVariants.{None, Some}
use Rattle.tree_fs.specs.Spot.{Spot}
use Rattle.tree_fs.specs.Disk.{Disk, Value, MayHold}
use Rattle.tree_fs.proofs.Lists.{contains_none}
use Rattle.std.specs.List.{Contains}
use Rattle.manifest_json.specs.declared.manifest.Row.{Row}
use Rattle.move_plan.specs.Places.{Has}
use Rattle.intent_json.specs.declared.intent.Intent.{Intent}
use Rattle.desk_model.specs.Places.{Names, in_game, in_stage, in_aside, IsUsers, intent_spot}
use Rattle.desk_model.specs.Desk.{without_manifest, found, found_by, file_or_none, Desk, SameDeskBut}
use Rattle.desk_model.specs.Records.{manifest_of, rows_of, row_at}
use Rattle.desk_model.specs.Outcome.{intent_by, updated, recorded_or_none, IsThere, outcome, outcome_by}
use Rattle.desk_model.specs.Standing.{MayBe, Standing, OffAgrees}
use Rattle.desk_model.specs.Mid.{IsOfRow}
use Rattle.desk_model.specs.Others.{Stays, Others}
use Rattle.desk_model.proofs.Agreeing.{without-agree}
use Rattle.desk_model.proofs.Outcomes.{outcome-profile, outcome-bytes}
use Rattle.desk_model.proofs.OthersKeep.{held_before, intent_same, manifest_same, place_stays, update_stays, update_quiet, row_here, others-keep, others-one_plain}
use Rattle.intent_json.specs.declared.intent.Phase.TheVariants as phase
use Rattle.desk_model.specs.Mid as named

module _ (a b : Disk) (standing : Standing a) (change : Others a b) where
  -- a part of the outcome, place by place: as before where its place stays, and elsewhere the same for each value of the intent place
  record PartKept (part : Desk → Names → Value) (place : Names → Spot) (other : Names → Value) (o : Option Intent) : Type 0 where
    stays : (p : Names) → Stays a b (place p) → part (outcome_by b o) p ≡ part (outcome_by a o) p
    quiet : (p : Names) → Stays a b (place p) ⊎ (part (outcome_by b o) p ≡ other p)

  both_kept : (part : Desk → Names → Value) (place : Names → Spot) (other : Names → Value) (o p : Option Intent) → PartKept part place other o → PartKept part place other p
      → part (outcome_by a o) ≡ part (outcome_by a p) → part (outcome_by b o) ≡ part (outcome_by b p)
  both_kept part place other o p ko kp same = λ j n. at n j
    where
      by_a : (n : Names) → Stays a b (place n) → part (outcome_by b o) n ≡ part (outcome_by b p) n
      by_a n s = ko.stays n s ∙ ap (λ f. f n) same ∙ sym (kp.stays n s)

      at : (n : Names) → part (outcome_by b o) n ≡ part (outcome_by b p) n
      at n = elim (ko.quiet n) [ inl s ↦ by_a n s | inr is ↦ elim (kp.quiet n) [ inl s ↦ by_a n s | inr too ↦ is ∙ sym too ] ]

  abbrev staged_part : Desk → Names → Value
  staged_part k = k.staged

  staged_none : PartKept staged_part in_stage (λ p. without_manifest b.now (in_stage p)) None
  staged_none = record { stays = λ p s. without-agree b.now a.now (in_stage p) (λ ne. s.now); quiet = λ p. inr refl }

  staged_some : (intent : Intent) → MayBe a intent → PartKept staged_part in_stage (λ p. without_manifest b.now (in_stage p)) (Some intent)
  staged_some intent may = record {
    stays = λ p s. without-agree (updated intent.plan b.now) (updated intent.plan a.now) (in_stage p) (λ ne. update_stays a b standing change intent may (in_stage p) s);
    quiet = λ p. elim (update_quiet a b standing change intent may (in_stage p)) [ inl s ↦ inl s | inr q ↦ inr (without-agree (updated intent.plan b.now) b.now (in_stage p) (λ ne. q.0)) ];
  }

  abbrev aside_part : Desk → Names → Value
  aside_part k = k.aside

  -- while an intent is live all of `keep` stays
  aside_at : (live : Intent) → MayBe a live → (o : Option Intent) → ((intent : Intent) → o ≡ Some intent → MayBe a intent) → (p : Names) → (outcome_by b o).aside p ≡ (outcome_by a o).aside p
  aside_at live may None is [] = refl
  aside_at live may None is (n ∷ ns) = without-agree b.now a.now (in_aside (n ∷ ns)) (λ ne. (change.keep_stays (in_aside (n ∷ ns)) (inr refl) (inl (live, may))).now)
  aside_at live may (Some intent) is [] = refl
  aside_at live may (Some intent) is (n ∷ ns) =
      without-agree (updated intent.plan b.now) (updated intent.plan a.now) (in_aside (n ∷ ns)) (λ ne. update_stays a b standing change intent (is intent refl) (in_aside (n ∷ ns)) (change.keep_stays (in_aside (n ∷ ns)) (inr refl) (inl (live, may))))

  found_case : (rows : List Row) (stay : (x : Spot) → IsOfRow rows x → Stays a b x) (f g : Spot → Value) → ((x : Spot) → Stays a b x → f x ≡ g x) → (p : Names) (r : Option Row) → row_at rows p ≡ r → found_by r (f (in_game p)) ≡ found_by r (g (in_game p))
  found_case rows stay f g same p None e = refl
  found_case rows stay f g same p (Some r) e = ap file_or_none (same (in_game p) (row_here a b standing change rows stay f g same p r e))

  found_still : (rows : List Row) (stay : (x : Spot) → IsOfRow rows x → Stays a b x) (f g : Spot → Value) → ((x : Spot) → Stays a b x → f x ≡ g x) → (p : Names) → found rows f p ≡ found rows g p
  unfolding found
  found_still rows stay f g same p = found_case rows stay f g same p (row_at rows p) refl

  -- the files found stay, for all rows' places are those of a live intent
  found_at : (live : Intent) → MayBe a live → (o : Option Intent) → ((intent : Intent) → o ≡ Some intent → MayBe a intent) → (p : Names) → (outcome_by b o).found p ≡ (outcome_by a o).found p
  found_at live may None is p =
      ap (λ m. found (rows_of m) (without_manifest b.now) p) (manifest_same a b standing change)
      ∙ found_still (rows_of (manifest_of a)) (λ x row. change.live_stays live may x (inl (inr (inr row)))) (without_manifest b.now) (without_manifest a.now) (λ x s. without-agree b.now a.now x (λ ne. s.now)) p
  found_at live may (Some intent) is p =
      found_still (rows_of (recorded_or_none intent.plan.manifest)) (λ x row. change.live_stays intent (is intent refl) x (inl (inr (inl row))))
      (without_manifest (updated intent.plan b.now)) (without_manifest (updated intent.plan a.now))
      (λ x s. without-agree (updated intent.plan b.now) (updated intent.plan a.now) x (λ ne. update_stays a b standing change intent (is intent refl) x s)) p

  manifest_at : (o : Option Intent) → (outcome_by b o).manifest ≡ (outcome_by a o).manifest
  manifest_at None = manifest_same a b standing change
  manifest_at (Some intent) = refl

  -- folders that no list takes off
  folders_at : (clear : Intent) → MayBe a clear → clear.plan.folders ≡ [] → (o : Option Intent) → ((intent : Intent) → o ≡ Some intent → MayBe a intent)
      → ((intent : Intent) → o ≡ Some intent → (s : Spot) → Has intent.plan.folders_off s → Has clear.plan.folders_off s)
      → (s : Spot) → ¬ Has clear.plan.folders_off s → ((outcome_by a (Some clear)).folders s ↔ (outcome_by a o).folders s) → ((outcome_by b (Some clear)).folders s ↔ (outcome_by b o).folders s)
  folders_at clear may none_made None is off s out same =
      (λ h. (h.0, only_there h.1.0), λ h. (h.0, (inl h.1, λ taken. out taken.listed)))
    where
      only_there : IsThere b clear.plan s → b.folders s ≡ true
      only_there (inl f) = f
      only_there (inr made) = absurd (contains_none made.place (subst (λ ps. Contains ps made.place) none_made made.listed))
  folders_at clear may none_made (Some intent) is off s out same = (
    λ h. (h.0, (inl (only_there h.1.0), λ taken. out (off intent refl s taken.listed))),
    λ h. (h.0, (inl (from_other h.0 h.1.0), λ taken. out taken.listed)),
  )
    where
      only_there : IsThere b clear.plan s → b.folders s ≡ true
      only_there (inl f) = f
      only_there (inr made) = absurd (contains_none made.place (subst (λ ps. Contains ps made.place) none_made made.listed))

      was_there : IsThere a clear.plan s → a.folders s ≡ true
      was_there (inl f) = f
      was_there (inr made) = absurd (contains_none made.place (subst (λ ps. Contains ps made.place) none_made made.listed))

      from_other : IsUsers s.root → IsThere b intent.plan s → b.folders s ≡ true
      from_other users (inl f) = f
      from_other users (inr made) =
          let k = same.1 (users, (inr made, λ taken. out (off intent refl s taken.listed))) in
          (place_stays a b standing change intent (is intent refl) s (named.folder made)).folder ∙ was_there k.1.0

  -- the outcome of a clear form and that of another value
  clear_case : (clear : Intent) → MayBe a clear → clear.plan.folders ≡ [] → (o : Option Intent) → ((intent : Intent) → o ≡ Some intent → MayBe a intent)
      → ((intent : Intent) → o ≡ Some intent → (s : Spot) → Has intent.plan.folders_off s → Has clear.plan.folders_off s)
      → (plain : (outcome_by b (Some clear)).plain ≡ (outcome_by b o).plain)
      → (profile : (outcome_by b (Some clear)).profile ≡ (outcome_by b o).profile)
      → (bytes : (outcome_by b (Some clear)).bytes ≡ (outcome_by b o).bytes)
      → SameDeskBut (Has clear.plan.folders_off) (outcome_by a (Some clear)) (outcome_by a o) → SameDeskBut (Has clear.plan.folders_off) (outcome_by b (Some clear)) (outcome_by b o)
  clear_case clear may none_made o is off plain profile bytes same = record {
    plain = plain;
    manifest = manifest_at (Some clear) ∙ same.manifest ∙ sym (manifest_at o);
    found = λ j p. (found_at clear may (Some clear) its p ∙ ap (λ f. f p) same.found ∙ sym (found_at clear may o is p)) j;
    staged = both_kept staged_part in_stage _ (Some clear) o (staged_some clear may) (staged_of o is) same.staged;
    aside = λ j p. (aside_at clear may (Some clear) its p ∙ ap (λ f. f p) same.aside ∙ sym (aside_at clear may o is p)) j;
    profile = profile;
    folders = λ s out. folders_at clear may none_made o is off s out (same.folders s out);
    bytes = λ n named. ap (λ f. f n) bytes;
  }
    where
      its : (intent : Intent) → Some clear ≡ Some intent → MayBe a intent
      its intent e = let h : clear ≡ intent = cc in subst (MayBe a) h may

      staged_of : (q : Option Intent) → ((intent : Intent) → q ≡ Some intent → MayBe a intent) → PartKept staged_part in_stage (λ p. without_manifest b.now (in_stage p)) q
      staged_of None live = staged_none
      staged_of (Some intent) live = staged_some intent (live intent refl)

  -- a change by others keeps Standing
  pub others-standing : OffAgrees a → Standing b
  others-standing agrees =
      let kept = others-keep a b standing change in
      record {
        valid = change.valid;
        firm = kept.firm;
        known = kept.known;
        absent = kept.absent;
        intents = kept.intents;
        one_plain = kept.one_plain;
        one_outcome = one_outcome;
      }
    where
      one_outcome : (v w : Value) (intent : Intent) → MayHold b intent_spot v → MayHold b intent_spot w → intent_by b.bytes v ≡ Some intent → intent.phase ≡ phase.Clear → SameDeskBut (Has intent.plan.folders_off) (outcome b v) (outcome b w)
      one_outcome v w intent hv hw is clear =
          let av = held_before a b standing change v hv in
          let aw = held_before a b standing change w hw in
          let told : intent_by a.bytes v ≡ Some intent = sym (intent_same a b standing change v av) ∙ is in
          let same_w = intent_same a b standing change w aw in
          let may : MayBe a intent = (v, av, told) in
          let bare = ((standing.intents intent may).accepted.bare clear).folders in
          let free = Has intent.plan.folders_off in
          let others_may = λ (j : Intent) (e : intent_by a.bytes w ≡ Some j). let m : MayBe a j = (w, aw, e) in m in
          let before = subst (λ o. SameDeskBut free (outcome_by a o) (outcome a w)) told (standing.one_outcome v w intent av aw told clear) in
          let plain = ap (λ o. (outcome_by b o).plain) (sym is) ∙ others-one_plain a b standing change v w hv hw ∙ ap (λ o. (outcome_by b o).plain) same_w in
          let profile = ap (λ o. (outcome_by b o).profile) (sym is) ∙ (outcome-profile b v ∙ sym (outcome-profile b w)) ∙ ap (λ o. (outcome_by b o).profile) same_w in
          let bytes = ap (λ o. (outcome_by b o).bytes) (sym is) ∙ (outcome-bytes b v ∙ sym (outcome-bytes b w)) ∙ ap (λ o. (outcome_by b o).bytes) same_w in
          let after = clear_case intent may bare (intent_by a.bytes w) others_may (λ j e s off. agrees intent j may (others_may j e) clear s off) plain profile bytes before in
          let half = subst (λ o. SameDeskBut free (outcome_by b (Some intent)) (outcome_by b o)) (sym same_w) after in
          subst (λ o. SameDeskBut free (outcome_by b o) (outcome b w)) (sym is) half
