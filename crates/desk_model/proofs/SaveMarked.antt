-- The same worked case, stopped where the clear form's new entry is pending: the disk stands, and both
-- forms of the intent lead to one desk.
use Rattle.std.proofs.Common.{◌≡◌, ◌≢◌, ◌⊎◌, ℕ, ◌<◌, Bool, true, false, if◌then◌else◌, List, [], ◌∷◌, refl, sym, ap, ◌∙◌, inl, inr, subst, arith}
use Rattle.std.specs.declared.option.Option.TheVariants.{None, Some}
use Rattle.list_laws.proofs.Containing.{contains_none}
use Rattle.tree_fs.specs.Spot.{Spot, spot_eq, parent}
use Rattle.tree_fs.specs.Disk.{Disk, Value, none, file, odd, MayHold, IsIn, IsValid, IsSettled, HoldsOnly}
use Rattle.tree_fs.proofs.Spots.{same_or_other}
use Rattle.move_plan.specs.declared.plan.Plan.{Plan}
use Rattle.move_plan.specs.Places.{Has, IsDestination, IsClear}
use Rattle.move_plan.specs.Rules.{PassesRules}
use Rattle.intent_json.specs.declared.intent.Intent.{Intent}
use Rattle.intent_json.specs.declared.intent.Phase.TheVariants as phase
use Rattle.intent_json.specs.Forms.{bare_of}
use Rattle.intent_json.specs.Reads.{intent_value}
use Rattle.desk_model.specs.Places.{in_game, in_stage, intent_spot}
use Rattle.desk_model.specs.Desk.{Desk, desk_of, SameDeskBut, SameDesk}
use Rattle.desk_model.specs.Outcome.{intent_by, set_to, save_to, is_one_of, updated, updated_by, IsThere, planned, outcome_by, outcome}
use Rattle.desk_model.specs.Standing.{IsSettledFile, IsOpen, SetStands, ClearStands, IntentStands, Standing}
use Rattle.desk_model.proofs.Agreeing.{without-agree, Alike, No, desk_of-alike}
use Rattle.desk_model.proofs.SameDesks.{same_itself, same_trans, same_sym}
use Rattle.desk_model.proofs.SavedAndPurged.{OneOfThree, above, x_name, x_behind, x_staged, folders_there, the_manifest}
use Rattle.desk_model.proofs.SaveBegun.{game_place, backup_place, the_set, the_plan, the_intent, set_to_is, set_from_is, save_to_is, save_plan-passes, Place4, at_game, at_stage, at_backup, elsewhere, place4, test_off, test_on, not_intent, Folder4, stage_root, game_root, keep_root, mod_b, folder4, nested, above_intent, root_there}

-- saved and set, with no manifest yet
abbrev now_set : Spot → Value
now_set s = if spot_eq s (in_game x_name) then file 2 else if spot_eq s (in_stage x_staged) then file 2 else if spot_eq s (in_game x_behind) then file 1 else none

-- the intent's place has the clear form, file 6, and may have the set form, file 4, again
abbrev now_marked : Spot → Value
now_marked s = if spot_eq s intent_spot then file 6 else now_set s

abbrev pub marked : (ℕ → List ℕ) → Disk
marked bytes = record { folders = folders_there; now = now_marked; before = λ s. if spot_eq s intent_spot then file 4 ∷ [] else []; bytes = bytes; firm = λ n. true; fresh = 7 }

abbrev pub bare_plan : (ℕ → List ℕ) → Plan
bare_plan bytes = record { folders = []; saves = []; sets = []; manifest = Some (the_manifest bytes); clears = []; folders_off = [] }

abbrev pub the_clear : (ℕ → List ℕ) → Intent
the_clear bytes = record { phase = phase.Clear; plan = bare_plan bytes }

-- that is the clear form of the plan
pub bare_plan-is : (bytes : ℕ → List ℕ) → bare_of (the_plan bytes) ≡ bare_plan bytes
unfolding bare_of
bare_plan-is bytes = refl

bare_passes : (bytes : ℕ → List ℕ) → PassesRules (bare_plan bytes)
bare_passes bytes rule = tt

-- What the places may hold

held_is : (bytes : ℕ → List ℕ) (x : Spot) (v : Value) → spot_eq x intent_spot ≡ false → MayHold (marked bytes) x v → v ≡ now_set x
held_is bytes x v off (inl is) = is ∙ (λ i. if off i then file 6 else now_set x)
held_is bytes x v off (inr h) = absurd (by_test (spot_eq x intent_spot) off h)
  where
    by_test : (b : Bool) → b ≡ false → IsIn v (if b then file 4 ∷ [] else []) → ⊥
    by_test false e h = h
    by_test true e h = absurd (cc)

intent_held : (bytes : ℕ → List ℕ) (v : Value) → MayHold (marked bytes) intent_spot v → (v ≡ file 6) ⊎ (v ≡ file 4)
intent_held bytes v (inl is) = inl (is ∙ (λ i. if test_on intent_spot intent_spot refl i then file 6 else now_set intent_spot))
intent_held bytes v (inr h) = by_test (spot_eq intent_spot intent_spot) (test_on intent_spot intent_spot refl) h
  where
    by_test : (b : Bool) → b ≡ true → IsIn v (if b then file 4 ∷ [] else []) → (v ≡ file 6) ⊎ (v ≡ file 4)
    by_test true e (inl is) = inr is
    by_test true e (inr never) = absurd never
    by_test false e h = absurd (cc)

set_off : (x : Spot) → x ≢ in_game x_name → x ≢ in_stage x_staged → x ≢ in_game x_behind → now_set x ≡ none
set_off x one two three = λ i. if test_off x (in_game x_name) one i then file 2 else if test_off x (in_stage x_staged) two i then file 2 else if test_off x (in_game x_behind) three i then file 1 else none

-- Neither plan changes a value

off_stays : (bytes : ℕ → List ℕ) (x : Spot) → x ≢ in_game x_name → x ≢ in_stage x_staged → x ≢ in_game x_behind → updated (the_plan bytes) now_marked x ≡ now_marked x
unfolding updated set_to save_to is_one_of
off_stays bytes x one two three = λ i. updated_by now_marked (now_marked x) false (if test_off (in_game x_name) x (λ e. one (sym e)) i then Some the_set else None) (if test_off (in_game x_behind) x (λ e. three (sym e)) i then Some (game_place, backup_place) else None)

set_stays : (bytes : ℕ → List ℕ) (x : Spot) → Place4 x → updated (the_plan bytes) now_marked x ≡ now_marked x
unfolding updated set_to save_to is_one_of spot_eq
set_stays bytes x (at_game is) = subst (λ y. updated (the_plan bytes) now_marked y ≡ now_marked y) is refl
set_stays bytes x (at_stage is) = subst (λ y. updated (the_plan bytes) now_marked y ≡ now_marked y) is refl
set_stays bytes x (at_backup is) = subst (λ y. updated (the_plan bytes) now_marked y ≡ now_marked y) is refl
set_stays bytes x (elsewhere one two three) = off_stays bytes x one two three

bare_stays : (bytes : ℕ → List ℕ) (x : Spot) → updated (bare_plan bytes) now_marked x ≡ now_marked x
unfolding updated set_to save_to is_one_of
bare_stays bytes x = refl

module _ (bytes : ℕ → List ℕ) where
  there_is : (s : Spot) → IsThere (marked bytes) (the_plan bytes) s → folders_there s ≡ true
  there_is s (inl f) = f
  there_is s (inr made) = absurd (contains_none made.place made.listed)

  there_bare : (s : Spot) → IsThere (marked bytes) (bare_plan bytes) s → folders_there s ≡ true
  there_bare s (inl f) = f
  there_bare s (inr made) = absurd (contains_none made.place made.listed)

  abbrev led : Desk
  led = desk_of (planned (marked bytes) (bare_plan bytes))

  alike : Alike No (desk_of (planned (marked bytes) (the_plan bytes))) led
  alike = desk_of-alike (planned (marked bytes) (the_plan bytes)) (planned (marked bytes) (bare_plan bytes)) refl
      (λ x no_entry. without-agree (updated (the_plan bytes) now_marked) (updated (bare_plan bytes) now_marked) x (λ ne. set_stays bytes x (place4 x) ∙ sym (bare_stays bytes x)))
      (λ s users. (λ h. (inl (there_is s h.0), λ off. contains_none off.listed.place off.listed.listed), λ h. (inl (there_bare s h.0), λ off. contains_none off.listed.place off.listed.listed)))

  both_forms : SameDesk (desk_of (planned (marked bytes) (the_plan bytes))) led
  both_forms = record {
    plain = alike.plain;
    manifest = alike.manifest;
    found = alike.found;
    staged = alike.staged;
    aside = alike.aside;
    profile = refl;
    folders = alike.folders;
    bytes = λ n named. refl;
  }

-- The disk is one

bare : (q : Spot) → Folder4 q → now_marked q ≡ none
unfolding spot_eq
bare q (stage_root e) = subst (λ s. now_marked s ≡ none) e refl
bare q (game_root e) = subst (λ s. now_marked s ≡ none) e refl
bare q (keep_root e) = subst (λ s. now_marked s ≡ none) e refl
bare q (mod_b e) = subst (λ s. now_marked s ≡ none) e refl

above_place : (q : Spot) → Place4 q → (v : Value) → v ≡ now_set q → v ≢ none → folders_there (parent q) ≡ true
unfolding parent spot_eq
above_place q (at_game e) v is ne = subst (λ s. folders_there (parent s) ≡ true) e refl
above_place q (at_stage e) v is ne = subst (λ s. folders_there (parent s) ≡ true) e refl
above_place q (at_backup e) v is ne = subst (λ s. folders_there (parent s) ≡ true) e refl
above_place q (elsewhere one two three) v is ne = absurd (ne (is ∙ set_off q one two three))

below_seven : (n k : ℕ) → file n ≡ file k → k < 7 → n < 7
below_seven n k e lt = let is : n ≡ k = cc in subst (λ m. m < 7) (sym is) lt

number_at : (q : Spot) → Place4 q → (n : ℕ) → file n ≡ now_set q → n < 7
unfolding spot_eq
number_at q (at_game e) n is = below_seven n 2 (is ∙ sym (ap now_set e)) (omega arith)
number_at q (at_stage e) n is = below_seven n 2 (is ∙ sym (ap now_set e)) (omega arith)
number_at q (at_backup e) n is = below_seven n 1 (is ∙ sym (ap now_set e)) (omega arith)
number_at q (elsewhere one two three) n is = let t : file n ≡ none = is ∙ set_off q one two three in absurd (cc)

intent_number : (n : ℕ) → (file n ≡ file 6) ⊎ (file n ≡ file 4) → n < 7
intent_number n (inl e) = below_seven n 6 e (omega arith)
intent_number n (inr e) = below_seven n 4 e (omega arith)

module _ (bytes : ℕ → List ℕ) where
  marked_valid : IsValid (marked bytes)
  marked_valid = record {
    roots = root_there;
    nested = λ q is. nested q (folder4 q is);
    parents = λ q v h ne. elim (same_or_other q intent_spot) [
      | inl is ↦ subst (λ s. folders_there (parent s) ≡ true) (sym is) above_intent
      | inr other ↦ above_place q (place4 q) v (held_is bytes q v (test_off q intent_spot other) h) ne
    ];
    bare = λ q is. bare q (folder4 q is);
    numbers = λ q n h. elim (same_or_other q intent_spot) [
      | inl is ↦ intent_number n (intent_held bytes (file n) (subst (λ s. MayHold (marked bytes) s (file n)) is h))
      | inr other ↦ number_at q (place4 q) n (held_is bytes q (file n) (test_off q intent_spot other) h)
    ];
  }

  settled_but : (x : Spot) → spot_eq x intent_spot ≡ false → IsSettled (marked bytes) x
  settled_but x off v h = held_is bytes x v off h ∙ sym (λ i. if off i then file 6 else now_set x)

  game_only : HoldsOnly (marked bytes) (in_game x_name) (file 2)
  unfolding spot_eq
  game_only w h = held_is bytes (in_game x_name) w refl h

  stage_only : HoldsOnly (marked bytes) (in_stage x_staged) (file 2)
  unfolding spot_eq
  stage_only w h = held_is bytes (in_stage x_staged) w refl h

  backup_only : HoldsOnly (marked bytes) (in_game x_behind) (file 1)
  unfolding spot_eq
  backup_only w h = held_is bytes (in_game x_behind) w refl h

  game_open : IsOpen (marked bytes) (in_game x_name)
  unfolding spot_eq
  game_open = record { not_odd = λ h. let t : odd ≡ file 2 = game_only odd h in cc; no_folder = refl }

  backup_open : IsOpen (marked bytes) (in_game x_behind)
  unfolding spot_eq
  backup_open = record { not_odd = λ h. let t : odd ≡ file 1 = backup_only odd h in cc; no_folder = refl }

  open_at : (x : Spot) → IsDestination (the_plan bytes) x ⊎ IsClear (the_plan bytes) x → IsOpen (marked bytes) x
  open_at x (inl (inl is)) = subst (IsOpen (marked bytes)) (set_to_is bytes x is) game_open
  open_at x (inl (inr is)) = subst (IsOpen (marked bytes)) (save_to_is bytes x is) backup_open
  open_at x (inr clear) = absurd (contains_none clear.place clear.listed)

  one_of_three : (x : Spot) → IsDestination (the_plan bytes) x ⊎ Has [] x → OneOfThree x
  one_of_three x (inl (inl is)) = inl (sym (set_to_is bytes x is))
  one_of_three x (inl (inr is)) = inr (inl (sym (save_to_is bytes x is)))
  one_of_three x (inr made) = absurd (contains_none made.place made.listed)

  set_stands : SetStands (marked bytes) (the_plan bytes)
  set_stands = record {
    sources = λ x is. subst (IsSettledFile (marked bytes)) (set_from_is bytes x is) (record { number = 2; only = stage_only });
    open_places = open_at;
    made = λ x made. absurd (contains_none made.place made.listed);
    parents = λ x s is below. inr (above x s (one_of_three x is) below);
    steps = inr (λ x is. subst (IsSettledFile (marked bytes)) (save_to_is bytes x is) (record { number = 1; only = backup_only }));
    rest = λ x out no_entry. settled_but x (not_intent x no_entry);
  }

  clear_stands : ClearStands (marked bytes) (bare_plan bytes)
  clear_stands = record {
    open_places = λ x clear. absurd (contains_none clear.place clear.listed);
    rest = λ x out no_manifest no_entry. settled_but x (not_intent x no_entry);
  }

but_for : (free : Spot → Type 0) (k l : Desk) → SameDesk k l → SameDeskBut free k l
but_for free k l same = record {
  plain = same.plain;
  manifest = same.manifest;
  found = same.found;
  staged = same.staged;
  aside = same.aside;
  profile = same.profile;
  folders = λ s out. same.folders s (λ never. never);
  bytes = same.bytes;
}

module _ (bytes : ℕ → List ℕ) (is_set : intent_value (bytes 4) ≡ Some (the_intent bytes)) (is_clear : intent_value (bytes 6) ≡ Some (the_clear bytes)) where
  leads_to : (v : Value) → (v ≡ file 6) ⊎ (v ≡ file 4) → SameDesk (outcome (marked bytes) v) (led bytes)
  leads_to v (inl is) = subst (λ u. SameDesk (outcome (marked bytes) u) (led bytes)) (sym is) (subst (λ o. SameDesk (outcome_by (marked bytes) o) (led bytes)) (sym is_clear) (same_itself (led bytes)))
  leads_to v (inr is) = subst (λ u. SameDesk (outcome (marked bytes) u) (led bytes)) (sym is) (subst (λ o. SameDesk (outcome_by (marked bytes) o) (led bytes)) (sym is_set) (both_forms bytes))

  -- both forms lead to one desk
  pub save_marked-outcome : (v w : Value) → MayHold (marked bytes) intent_spot v → MayHold (marked bytes) intent_spot w → SameDesk (outcome (marked bytes) v) (outcome (marked bytes) w)
  save_marked-outcome v w hv hw =
      same_trans (outcome (marked bytes) v) (led bytes) (outcome (marked bytes) w) (leads_to v (intent_held bytes v hv))
      (same_sym (outcome (marked bytes) w) (led bytes) (leads_to w (intent_held bytes w hw)))

  set_intent : IntentStands (marked bytes) (the_intent bytes)
  set_intent = record {
    accepted = record { rules = save_plan-passes bytes; bare = λ e. absurd (cc) };
    set_form = λ e. set_stands bytes;
    clear_form = λ e. absurd (cc);
  }

  clear_intent : IntentStands (marked bytes) (the_clear bytes)
  clear_intent = record {
    accepted = record { rules = bare_passes bytes; bare = λ e. record { folders = refl; saves = refl; sets = refl } };
    set_form = λ e. absurd (cc);
    clear_form = λ e. clear_stands bytes;
  }

  intent_stands : (v : Value) (intent : Intent) → (v ≡ file 6) ⊎ (v ≡ file 4) → intent_by bytes v ≡ Some intent → IntentStands (marked bytes) intent
  intent_stands v intent (inl is) told =
      let h : Some (the_clear bytes) ≡ Some intent = sym is_clear ∙ ap (intent_by bytes) (sym is) ∙ told in
      let e : the_clear bytes ≡ intent = cc in subst (IntentStands (marked bytes)) e clear_intent
  intent_stands v intent (inr is) told =
      let h : Some (the_intent bytes) ≡ Some intent = sym is_set ∙ ap (intent_by bytes) (sym is) ∙ told in
      let e : the_intent bytes ≡ intent = cc in subst (IntentStands (marked bytes)) e set_intent

  no_none : (v : Value) → (v ≡ file 6) ⊎ (v ≡ file 4) → v ≢ none
  no_none v (inl is) gone = let t : file 6 ≡ none = sym is ∙ gone in cc
  no_none v (inr is) gone = let t : file 4 ≡ none = sym is ∙ gone in cc

  -- the disk stands, with both forms as values of the intent place
  pub save_marked-stands : Standing (marked bytes)
  save_marked-stands = record {
    valid = marked_valid bytes;
    firm = λ x n h soft. absurd (cc);
    known = λ v h. elim (intent_held bytes v h) [
      | inl is ↦ inr (the_clear bytes, ap (intent_by bytes) is ∙ is_clear)
      | inr is ↦ inr (the_intent bytes, ap (intent_by bytes) is ∙ is_set)
    ];
    absent = λ h. absurd (no_none none (intent_held bytes none h) refl);
    intents = λ intent may. intent_stands may.0 intent (intent_held bytes may.0 may.1) may.2;
    one_plain = λ v w hv hw. (save_marked-outcome v w hv hw).plain;
    one_outcome = λ v w intent hv hw is clear. but_for (Has intent.plan.folders_off) (outcome (marked bytes) v) (outcome (marked bytes) w) (save_marked-outcome v w hv hw);
  }
