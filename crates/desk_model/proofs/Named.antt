-- The files that an outcome names are firm: so images have one outcome, bytes and all.
use Rattle.std.proofs.Common.{◌≡◌, ◌⊎◌, ℕ, Bool, true, false, if◌then◌else◌, [], ◌∷◌, refl, sym, ap, ◌∙◌, inl, inr}
use Rattle.std.specs.Prelude.{IfSome}
use Rattle.std.specs.declared.option.Option.{Option}
use Rattle.std.specs.declared.option.Option.TheVariants.{None, Some}
use Rattle.rel_paths.specs.Names.{backup_names}
use Rattle.tree_fs.specs.declared.place.Place.{Place}
use Rattle.tree_fs.specs.Spot.{Spot, spot_of}
use Rattle.tree_fs.specs.Disk.{Disk, Value, none, file, odd, MayHold, Image, IsSettled}
use Rattle.tree_fs.proofs.Spots.{spot_eq_tells}
use Rattle.manifest_json.specs.declared.manifest.Row.{Row}
use Rattle.move_plan.specs.declared.plan.SetRow.{SetRow}
use Rattle.move_plan.specs.declared.plan.Plan.{Plan}
use Rattle.move_plan.specs.Rules.{IsFree, AvoidsControls, PassesRules}
use Rattle.move_plan.proofs.Entries.{OfEach, rule_2}
use Rattle.intent_json.specs.declared.intent.Intent.{Intent}
use Rattle.desk_model.specs.Places.{Names, in_game, in_stage, in_aside, manifest_spot, profile_spot, intent_spot, IsTemp, IsKeepEntry}
use Rattle.desk_model.specs.Desk.{without_manifest, file_or_none, plain, plain_by, found, found_by, aside_of, View, view, Desk, desk_of, IsNamed, in_plain, in_found, in_staged, in_asides, SameDesk}
use Rattle.desk_model.specs.Records.{text_by, profile_text, rows_of, row_at, row_behind}
use Rattle.desk_model.specs.Outcome.{intent_by, set_to, save_to, is_one_of, file_at, own_or, updated, updated_by, planned, outcome_by, outcome}
use Rattle.desk_model.specs.Standing.{Standing}
use Rattle.desk_model.proofs.Spots.{not_keep, aside-not_keep, temp-keep, profile-not_temp}
use Rattle.desk_model.proofs.Lookups.{set_to-some, save_to-some}
use Rattle.desk_model.proofs.Agreeing.{Alike, No}
use Rattle.tree_fs.specs.Frames.{Fewer}
use Rattle.tree_fs.proofs.Fewer.{image-fewer, settled-now}
use Rattle.desk_model.proofs.Fewer.{FirmBut, firm_file}
use Rattle.desk_model.proofs.Outcomes.{outcome-alike, outcome-profile, outcome-bytes}
use Rattle.rel_paths.specs.declared.control.Control.TheVariants as control

file_is : (v : Value) (n : ℕ) → file_or_none v ≡ file n → v ≡ file n
file_is none n e = absurd (cc)
file_is odd n e = absurd (cc)
file_is (file m) n e = e

without_is : (f : Spot → Value) (x : Spot) (n : ℕ) → without_manifest f x ≡ file n → f x ≡ file n
unfolding without_manifest
without_is f x n e = elim (spot_eq_tells x manifest_spot) [
  | inl s ↦ let t : none ≡ file n = sym (λ i. if s.0 i then none else f x) ∙ e in absurd (cc)
  | inr s ↦ sym (λ i. if s.0 i then none else f x) ∙ e
]

plain_is : (a b : Option Row) (here behind : Value) (n : ℕ) → plain_by a b here behind ≡ file n → (here ≡ file n) ⊎ (behind ≡ file n)
plain_is (Some r) b here behind n e = by_shadow r.shadowed e
  where
    by_shadow : (s : Bool) → (if s then file_or_none behind else none) ≡ file n → (here ≡ file n) ⊎ (behind ≡ file n)
    by_shadow true is = inr (file_is behind n is)
    by_shadow false is = absurd (cc)
plain_is None (Some r) here behind n e = absurd (cc)
plain_is None None here behind n e = inl e

-- the files at places other than the direct entries of `keep` are firm
abbrev FirmAt : Disk → (Spot → Value) → Type 0
FirmAt d f = (x : Spot) (n : ℕ) → ¬ IsKeepEntry x → f x ≡ file n → d.firm n ≡ true

module _ (d : Disk) (v : View) (firm : FirmAt d v.values) where
  from_plain : (p : Names) (n : ℕ) → plain (rows_of v.manifest) v.values p ≡ file n → d.firm n ≡ true
  unfolding plain
  from_plain p n e = elim (plain_is (row_at (rows_of v.manifest) p) (row_behind (rows_of v.manifest) p) (v.values (in_game p)) (v.values (in_game (backup_names p))) n e) [
    | inl here ↦ firm (in_game p) n (not_keep (in_game p) tt) here
    | inr behind ↦ firm (in_game (backup_names p)) n (not_keep (in_game (backup_names p)) tt) behind
  ]

  from_found : (p : Names) (n : ℕ) → found (rows_of v.manifest) v.values p ≡ file n → d.firm n ≡ true
  unfolding found
  from_found p n e = by_row (row_at (rows_of v.manifest) p) e
    where
      by_row : (o : Option Row) → found_by o (v.values (in_game p)) ≡ file n → d.firm n ≡ true
      by_row None is = absurd (cc)
      by_row (Some r) is = firm (in_game p) n (not_keep (in_game p) tt) (file_is (v.values (in_game p)) n is)

  from_aside : (p : Names) (n : ℕ) → aside_of v.values p ≡ file n → d.firm n ≡ true
  from_aside [] n e = absurd (cc)
  from_aside (m ∷ ms) n e = firm (in_aside (m ∷ ms)) n (aside-not_keep m ms) e

  pub desk_of-firm : (n : ℕ) → IsNamed (desk_of v) n → d.firm n ≡ true
  desk_of-firm n (in_plain p e) = from_plain p n e
  desk_of-firm n (in_found p e) = from_found p n e
  desk_of-firm n (in_staged p e) = firm (in_stage p) n (not_keep (in_stage p) tt) e
  desk_of-firm n (in_asides p e) = from_aside p n e

free-not_temp : (x : Spot) → IsFree x → ¬ IsTemp x
free-not_temp x free (inl e) = free.not_control control.IntentTemp e
free-not_temp x free (inr (inl e)) = free.not_control control.ManifestTemp e
free-not_temp x free (inr (inr e)) = free.not_control control.ProfileTemp e

module _ (d : Disk) (firm : FirmBut d) where
  at_place : (x : Spot) (n : ℕ) → ¬ IsTemp x → d.now x ≡ file n → d.firm n ≡ true
  at_place x n no_temp e = firm_file d x n firm no_temp (inl (sym e))

  no_temp_here : (x : Spot) → ¬ IsKeepEntry x → ¬ IsTemp x
  no_temp_here x no_entry temp = no_entry (temp-keep x temp)

  at_source : (o : Option Place) (n : ℕ) → IfSome o (λ p. IsFree (spot_of p)) → file_at d.now o ≡ file n → d.firm n ≡ true
  at_source None n free e = absurd (cc)
  at_source (Some p) n free e = at_place (spot_of p) n (free-not_temp (spot_of p) free) (file_is (d.now (spot_of p)) n e)

  at_save : (x from : Spot) (n : ℕ) → ¬ IsTemp x → ¬ IsTemp from → (v : Value) → d.now x ≡ v → own_or v (file_or_none (d.now from)) ≡ file n → d.firm n ≡ true
  at_save x from n tx tf (file m) is e = at_place x n tx (is ∙ e)
  at_save x from n tx tf none is e = at_place from n tf (file_is (d.now from) n e)
  at_save x from n tx tf odd is e = at_place from n tf (file_is (d.now from) n e)

  updated_case : (plan : Plan) → OfEach AvoidsControls plan → (x : Spot) (n : ℕ) → ¬ IsTemp x → (c : Bool) (s : Option SetRow) (f : Option (Place × Place))
      → set_to plan.sets x ≡ s → save_to plan.saves x ≡ f → updated_by d.now (d.now x) c s f ≡ file n → d.firm n ≡ true
  updated_case plan free x n tx true s f es ef e = absurd (cc)
  updated_case plan free x n tx false (Some row) f es ef e = let rule = free.sets row (set_to-some plan.sets x row es).0 in at_source row.from n rule.1 e
  updated_case plan free x n tx false None (Some s) es ef e =
      let rule = free.saves s (save_to-some plan.saves x s ef).0 in
      at_save x (spot_of s.0) n tx (free-not_temp (spot_of s.0) rule.0) (d.now x) refl e
  updated_case plan free x n tx false None None es ef e = at_place x n tx e

  updated-firm : (plan : Plan) → PassesRules plan → (x : Spot) (n : ℕ) → ¬ IsTemp x → updated plan d.now x ≡ file n → d.firm n ≡ true
  unfolding updated
  updated-firm plan passes x n tx e = updated_case plan (rule_2 plan passes) x n tx (is_one_of plan.clears x) (set_to plan.sets x) (save_to plan.saves x) refl refl e

  pub disk-firm : FirmAt d (without_manifest d.now)
  disk-firm x n no_entry e = at_place x n (no_temp_here x no_entry) (without_is d.now x n e)

  pub planned-firm : (plan : Plan) → PassesRules plan → FirmAt d (without_manifest (updated plan d.now))
  planned-firm plan passes x n no_entry e = updated-firm plan passes x n (no_temp_here x no_entry) (without_is (updated plan d.now) x n e)

named_by : (d : Disk) → Standing d → (v : Value) → MayHold d intent_spot v → (n : ℕ) → (o : Option Intent) → intent_by d.bytes v ≡ o → IsNamed (outcome_by d o) n → d.firm n ≡ true
named_by d standing v h n None is named = desk_of-firm d (view d) (disk-firm d standing.firm) n named
named_by d standing v h n (Some intent) is named = desk_of-firm d (planned d intent.plan) (planned-firm d standing.firm intent.plan (standing.intents intent (v, h, is)).accepted.rules) n named

-- each file that an outcome names is firm
pub named-firm : (d : Disk) → Standing d → (v : Value) → MayHold d intent_spot v → (n : ℕ) → IsNamed (outcome d v) n → d.firm n ≡ true
named-firm d standing v h n named = named_by d standing v h n (intent_by d.bytes v) refl named

-- the same parts name the same files
alike-named : (k l : Desk) → Alike No k l → (n : ℕ) → IsNamed k n → IsNamed l n
alike-named k l a n (in_plain p e) = in_plain p (ap (λ f. f p) (sym a.plain) ∙ e)
alike-named k l a n (in_found p e) = in_found p (ap (λ f. f p) (sym a.found) ∙ e)
alike-named k l a n (in_staged p e) = in_staged p (ap (λ f. f p) (sym a.staged) ∙ e)
alike-named k l a n (in_asides p e) = in_asides p (ap (λ f. f p) (sym a.aside) ∙ e)

module _ (e d : Disk) (less : Fewer e d) (standing : Standing d) where
  text_same : (v : Value) → MayHold d profile_spot v → text_by e.bytes v ≡ text_by d.bytes v
  text_same none h = refl
  text_same odd h = refl
  text_same (file n) h = ap Some (less.files n (firm_file d profile_spot n standing.firm profile-not_temp h)).1

  profile_same : IsSettled d profile_spot → profile_text e ≡ profile_text d
  profile_same settled = ap (text_by e.bytes) (settled-now e d less profile_spot settled) ∙ text_same (d.now profile_spot) (inl refl)

  -- where the profile's place is settled, a value of the intent place has one outcome on all disks that hold fewer values
  pub outcome-fewer : IsSettled d profile_spot → (v : Value) → MayHold d intent_spot v → SameDesk (outcome e v) (outcome d v)
  outcome-fewer settled v h =
      let a = outcome-alike e d less standing v h in
      record {
        plain = a.plain;
        manifest = a.manifest;
        found = a.found;
        staged = a.staged;
        aside = a.aside;
        profile = outcome-profile e v ∙ profile_same settled ∙ sym (outcome-profile d v);
        folders = a.folders;
        bytes = λ n named.
            let firm = named-firm d standing v h n (alike-named (outcome e v) (outcome d v) a n named) in
            ap (λ b. b n) (outcome-bytes e v) ∙ (less.files n firm).1 ∙ sym (ap (λ b. b n) (outcome-bytes d v));
      }

-- so it has on all images
pub image-outcome : (d left : Disk) → Standing d → IsSettled d profile_spot → Image d left → SameDesk (outcome left (left.now intent_spot)) (outcome d (left.now intent_spot))
image-outcome d left standing settled image =
    let less = image-fewer d left standing.valid image in
    outcome-fewer left d less standing settled (left.now intent_spot) (less.within intent_spot (left.now intent_spot) (inl refl))
