-- What is read without a fault keeps what a profile keeps.
use Rattle.std.proofs.Common.{◌≡◌, ℕ, ◌+◌, Bool, true, false, not, nat_eq, List, [], ◌∷◌, Option, None, Some, is_none, map, take, codes, if◌then◌else◌, inl, arith, refl, ap, sym, subst, ◌∙◌}
use Rattle.std.specs.List.{AllByRecursion, IsDistinct, list_any}
use Rattle.std.specs.Map.{keys_of, values_of}
use Rattle.std.specs.Option.{option_or, IfSome}
use Rattle.std.specs.Cmp.Lexicographic.{pointwise}
use Rattle.rel_paths.specs.declared.error.PathError.{PathError}
use Rattle.list_laws.proofs.Alls.{all_map}
use Rattle.rel_paths.specs.Names.{IsModId, id_fault}
use Rattle.toml.specs.Data.{Data, string, integer, float, boolean, datetime, array, table, Members, get_member}
use Rattle.profile_toml.specs.declared.error.ProfileError.{ProfileError}
use Rattle.profile_toml.specs.declared.error.ProfileError.TheVariants.{BadPath, SameMod, SameType, NoType}
use Rattle.profile_toml.specs.Faults.{fault_if, first_fault}
use Rattle.profile_toml.specs.Kept.{Fits, FitsRule, FitsMod, is_type}
use Rattle.profile_toml.specs.KeyPaths.{keyed, indexed}
use Rattle.profile_toml.specs.Mods.{mod_fault, mod_value, entry_value, entry_fault, enabled_fault, bad_type, bad_release, mods_fault, mods_value}
use Rattle.profile_toml.specs.Overrides.{override_entry, override_value}
use Rattle.profile_toml.specs.Plain.{plain_mod, default_value}
use Rattle.profile_toml.specs.Records.{ModData, TypeData, AreAtTheirPaths, type_ids}
use Rattle.profile_toml.specs.Rules.{rule_value, rules_fault, rules_value}
use Rattle.profile_toml.specs.Tables.{OfMod, OfRule, known_keys, member_from_2}
use Rattle.profile_toml.specs.Texts.{members_in, list_of, items_at, id_in, text_in, text_at, text_fault, optional_fault, bad_id, bad_base}
use Rattle.profile_toml.specs.Types.{type_fault, type_value, type_entry, types_fault, types_value}
use Rattle.profile_toml.proofs.Members.{HaveNone-without}

or_none : (a b : Option ProfileError) → option_or a b ≡ None → (a ≡ None) × (b ≡ None)
or_none None b h = (refl, h)
or_none (Some e) b h = cc

-- each item of a list without a fault
all_from_none : {A : Type 0} (P : A → Type 0) (f : ℕ → A → Option ProfileError) (n : ℕ) (xs : List A) → ((k : ℕ) (x : A) → f k x ≡ None → P x) → first_fault f n xs ≡ None → AllByRecursion P xs
all_from_none P f n [] each h = tt
all_from_none P f n (x ∷ xs) each h =
    let parts = or_none (f n x) (first_fault f (n + 1) xs) h in
    (each n x parts.0, all_from_none P f (n + 1) xs each parts.1)

-- ---- mods

fits_rule : (version : ℕ) (d : Data) → FitsRule version (rule_value version d)
fits_rule version d = record {
  range = λ one. ap (λ v. text_in (member_from_2 v (codes "range") (members_in d))) one;
  extra = HaveNone-without (known_keys version OfRule) (members_in d);
}

fits_rules : (version : ℕ) (ds : List Data) → AllByRecursion (FitsRule version) (map (rule_value version) ds)
fits_rules version [] = tt
fits_rules version (d ∷ ds) = (fits_rule version d, fits_rules version ds)

known_type : (b : Bool) (t : List ℕ) → fault_if (not b) (NoType t) ≡ None → b ≡ true
known_type true t h = refl
known_type false t h = cc

typed : (ids : List (List ℕ)) (at : List ℕ) (d : Option Data) → optional_fault (bad_type ids) at d ≡ None → IfSome (text_in d) (λ t. is_type ids t ≡ true)
typed ids at None h = tt
typed ids at (Some (string t)) h = known_type (is_type ids t) t h
typed ids at (Some (integer z)) h = tt
typed ids at (Some (float x)) h = tt
typed ids at (Some (boolean b)) h = tt
typed ids at (Some (datetime dt)) h = tt
typed ids at (Some (array ds)) h = tt
typed ids at (Some (table ms)) h = tt

fits_table : (version : ℕ) (ids : List (List ℕ)) (at : List ℕ) (ms : Members) → entry_fault version ids at ms ≡ None → FitsMod version ids (entry_value version ms)
fits_table version ids at ms h =
    let past_enabled = or_none (enabled_fault (keyed at (codes "enabled")) (get_member (codes "enabled") ms)) (option_or (optional_fault bad_release (keyed at (codes "release")) (member_from_2 version (codes "release") ms)) (option_or (optional_fault (bad_type ids) (keyed at (codes "type")) (member_from_2 version (codes "type") ms)) (rules_fault version (keyed at (codes "rules")) (get_member (codes "rules") ms)))) h in
    let past_release = or_none (optional_fault bad_release (keyed at (codes "release")) (member_from_2 version (codes "release") ms)) (option_or (optional_fault (bad_type ids) (keyed at (codes "type")) (member_from_2 version (codes "type") ms)) (rules_fault version (keyed at (codes "rules")) (get_member (codes "rules") ms))) past_enabled.1 in
    let past_type = or_none (optional_fault (bad_type ids) (keyed at (codes "type")) (member_from_2 version (codes "type") ms)) (rules_fault version (keyed at (codes "rules")) (get_member (codes "rules") ms)) past_release.1 in
    record {
      release = λ one. ap (λ v. text_in (member_from_2 v (codes "release") ms)) one;
      mod_type = typed ids (keyed at (codes "type")) (member_from_2 version (codes "type") ms) past_type.0;
      rules = fits_rules version (items_at (get_member (codes "rules") ms));
      extra = HaveNone-without (known_keys version OfMod) ms;
    }

fits_mod : (version : ℕ) (ids earlier : List (List ℕ)) (at : List ℕ) (d : Data) → mod_fault version ids earlier at d ≡ None → FitsMod version ids (entry_value version (members_in d))
fits_mod version ids earlier at (table ms) h =
    let id = get_member (codes "id") ms in
    let same = fault_if (list_any (pointwise nat_eq (text_at id)) earlier) (SameMod (text_at id)) in
    let past_id = or_none (text_fault bad_id (keyed at (codes "id")) id) (option_or same (entry_fault version ids at ms)) h in
    fits_table version ids at ms (or_none same (entry_fault version ids at ms) past_id.1).1
fits_mod version ids earlier at (string s) h = cc
fits_mod version ids earlier at (integer z) h = cc
fits_mod version ids earlier at (float x) h = cc
fits_mod version ids earlier at (boolean b) h = cc
fits_mod version ids earlier at (datetime dt) h = cc
fits_mod version ids earlier at (array ds) h = cc

pub fits_mods : (version : ℕ) (ids : List (List ℕ)) (d : Option Data) → mods_fault version ids d ≡ None → AllByRecursion (λ m. FitsMod version ids m.1) (mods_value version d)
fits_mods version ids None h = tt
fits_mods version ids (Some (array ds)) h =
    all_map (λ m. FitsMod version ids m.1) (mod_value version) (list_of ds)
    (all_from_none (λ d. FitsMod version ids (entry_value version (members_in d))) (λ n d. mod_fault version ids (map id_in (take n (list_of ds))) (indexed (codes "mods") n) d) 0 (list_of ds)
    (λ n d none. fits_mod version ids (map id_in (take n (list_of ds))) (indexed (codes "mods") n) d none) h)
fits_mods version ids (Some (string s)) h = cc
fits_mods version ids (Some (integer z)) h = cc
fits_mods version ids (Some (float x)) h = cc
fits_mods version ids (Some (boolean b)) h = cc
fits_mods version ids (Some (datetime dt)) h = cc
fits_mods version ids (Some (table ms)) h = cc

-- ---- types

good_id : (f : Option PathError) (t : List ℕ) → fault_if (not (is_none f)) (BadPath t) ≡ None → f ≡ None
good_id None t h = refl
good_id (Some e) t h = cc

good_text : (at : List ℕ) (d : Option Data) → text_fault bad_id at d ≡ None → IsModId (text_at d)
good_text at None h = cc
good_text at (Some (string t)) h = good_id (id_fault t) t h
good_text at (Some (integer z)) h = cc
good_text at (Some (float x)) h = cc
good_text at (Some (boolean b)) h = cc
good_text at (Some (datetime dt)) h = cc
good_text at (Some (array ds)) h = cc
good_text at (Some (table ms)) h = cc

id_of_type : (earlier : List (List ℕ)) (at : List ℕ) (d : Data) → type_fault earlier at d ≡ None → IsModId (id_in d)
id_of_type earlier at (table ms) h =
    let id = get_member (codes "id") ms in
    good_text (keyed at (codes "id")) id (or_none (text_fault bad_id (keyed at (codes "id")) id) (option_or (fault_if (list_any (pointwise nat_eq (text_at id)) earlier) (SameType (text_at id))) (text_fault bad_base (keyed at (codes "base")) (get_member (codes "base") ms))) h).0
id_of_type earlier at (string s) h = cc
id_of_type earlier at (integer z) h = cc
id_of_type earlier at (float x) h = cc
id_of_type earlier at (boolean b) h = cc
id_of_type earlier at (datetime dt) h = cc
id_of_type earlier at (array ds) h = cc

keys_are : (ds : List Data) → keys_of (map type_entry ds) ≡ map id_in ds
keys_are [] = refl
keys_are (d ∷ ds) = ap (λ l. id_in d ∷ l) (keys_are ds)

-- the keys of the types are ids
pub types_have_ids : (d : Option Data) → types_fault d ≡ None → AllByRecursion IsModId (keys_of (map type_entry (items_at d)))
types_have_ids None h = tt
types_have_ids (Some (array ds)) h =
    subst (AllByRecursion IsModId) (sym (keys_are (list_of ds)))
    (all_map IsModId id_in (list_of ds)
    (all_from_none (λ d. IsModId (id_in d)) (λ n d. type_fault (map id_in (take n (list_of ds))) (indexed (codes "types") n) d) 0 (list_of ds)
    (λ n d none. id_of_type (map id_in (take n (list_of ds))) (indexed (codes "types") n) d none) h))
types_have_ids (Some (string s)) h = cc
types_have_ids (Some (integer z)) h = cc
types_have_ids (Some (float x)) h = cc
types_have_ids (Some (boolean b)) h = cc
types_have_ids (Some (datetime dt)) h = cc
types_have_ids (Some (table ms)) h = cc

-- the types without their keys, and their ids
pub types_made : (ds : List Data) → values_of (map type_entry ds) ≡ map type_value ds
types_made [] = refl
types_made (d ∷ ds) = ap (λ l. type_value d ∷ l) (types_made ds)

pub type_ids_made : (ds : List Data) → keys_of (map type_entry ds) ≡ type_ids (map type_value ds)
type_ids_made [] = refl
type_ids_made (d ∷ ds) = ap (λ l. id_in d ∷ l) (type_ids_made ds)

-- ---- overrides

-- the overrides without their keys, which are their paths
pub overrides_made : (ds : List Data) → map (λ e. e.1) (map override_entry ds) ≡ map override_value ds
overrides_made [] = refl
overrides_made (d ∷ ds) = ap (λ l. override_value d ∷ l) (overrides_made ds)

pub at_their_paths : (ds : List Data) → AreAtTheirPaths (map override_entry ds)
at_their_paths [] = tt
at_their_paths (d ∷ ds) = (refl, at_their_paths ds)

-- ---- the default profile

plain_mods : (ids : List (List ℕ)) → AllByRecursion (λ (m : List ℕ × ModData). FitsMod 1 [] m.1) (map (λ id. (id, plain_mod true)) ids)
plain_mods [] = tt
plain_mods (id ∷ ids) = (record { release = λ one. refl; mod_type = tt; rules = tt; extra = (refl, (refl, (refl, tt))) }, plain_mods ids)

pub fits_default : (ids : List (List ℕ)) → Fits (default_value ids)
unfolding IsDistinct
fits_default ids = record {
  version = inl refl;
  types = λ one. refl;
  ids = tt;
  mods = plain_mods ids;
  extra = record { others = (refl, (refl, (refl, tt))); shallow = omega arith; no_floats = refl };
}
