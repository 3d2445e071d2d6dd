-- What a loop has printed so far, and what a whole printed profile reads as.
use Rattle.std.proofs.Common.{◌≡◌, ◌≤◌, ℕ, suc, Bool, true, false, nat_lt, nat_eq, if◌then◌else◌, List, [], ◌∷◌, ◌++◌, Option, None, Some, Ok, is_some, unwrap_or, codes, pos, map, refl, ap, sym, subst, ◌∙◌, append_assoc, append-nil, arith}
use Rattle.std.proofs.lemmas.Bool.Decides.{nat_tests}
use Rattle.std.specs.List.{IsDistinct}
use Rattle.std.specs.Map.{keys_of, values_of}
use Rattle.std.specs.Option.{option_or, IfSome}
use Rattle.std.specs.Cmp.Lexicographic.{pointwise}
use Rattle.toml.specs.Data.{Data, integer, array, Members, get_member}
use Rattle.toml.specs.View.{view, items_of}
use Rattle.toml.specs.declared.value.Value.{Value}
use Rattle.profile_toml.specs.declared.error.ProfileError.TheVariants.{Deep, Float, Shape}
use Rattle.profile_toml.specs.Documents.{puts, mod_data, override_data, type_data, types_data, profile_keys, profile_members}
use Rattle.profile_toml.specs.Faults.{fault_if}
use Rattle.profile_toml.specs.Kept.{IsVersion, IsProfile}
use Rattle.profile_toml.specs.Levels.{members_levels}
use Rattle.profile_toml.specs.Mods.{mods_fault, mods_value, mod_value}
use Rattle.profile_toml.specs.Mods as mods
use Rattle.profile_toml.specs.Overrides.{overrides_fault, overrides_value, override_value}
use Rattle.profile_toml.specs.Overrides as overrides
use Rattle.profile_toml.specs.Profiles.{document_of, version_at, types_in, fold_fault, parts_fault, parts_value, versioned_fault, document_fault, document_value, bytes_fault, profile_or, profile_of}
use Rattle.profile_toml.specs.Records.{OverrideData, ProfileData, AreAtTheirPaths, type_ids}
use Rattle.profile_toml.specs.Sound.{IsSound, AreSound}
use Rattle.profile_toml.specs.Tables.{Document, member_from_2}
use Rattle.profile_toml.specs.Types.{types_fault, types_value, type_value}
use Rattle.profile_toml.specs.Types as types
use Rattle.profile_toml.specs.Unknown.{unknown_in, AreUnknown}
use Rattle.profile_toml.proofs.Documents.{by_version, list_of-items_of, IsSound-array, AreSound-unknown, types_back, types_none, AllSound-types, mods_back, mods_none, AllSound-mods, overrides_back, overrides_none, AllSound-overrides}
use Rattle.std.proofs.lemmas.List.{map-append}
use Rattle.profile_toml.proofs.PutLists.{get-past, without-puts, AreSound-puts}
use Rattle.profile_toml.proofs.Puts.{get-put}

-- one more value printed
pub printed_more : {X : Type 0} (printed : X → Data) (items : List Value) (v : Value) (x : X) (rest before : List X) (whole : List Data) → view v ≡ printed x → before ≡ x ∷ rest
    → map view items ++ map printed before ≡ whole → map view (items ++ v ∷ []) ++ map printed rest ≡ whole
printed_more printed items v x rest before whole is step h =
    ap (λ l. l ++ map printed rest) (map-append view items (v ∷ [])) ∙ append_assoc (map view items) (view v ∷ []) (map printed rest)
    ∙ (λ i. map view items ++ is i ∷ map printed rest) ∙ ap (λ l. map view items ++ map printed l) (sym step) ∙ h

-- all printed
pub printed_all : {X : Type 0} (printed : X → Data) (items : List Value) (rest : List X) (whole : List Data) → rest ≡ [] → map view items ++ map printed rest ≡ whole → map view items ≡ whole
printed_all printed items rest whole none h = sym (append-nil (map view items)) ∙ ap (λ l. map view items ++ map printed l) (sym none) ∙ h

pub paths_are : (es : List (List ℕ × OverrideData)) → AreAtTheirPaths es → keys_of es ≡ map (λ o. o.path) (values_of es)
paths_are [] h = refl
paths_are (e ∷ es) h = λ i. h.0 i ∷ paths_are es h.1 i

deep_enough_from : (n : ℕ) → n ≤ 63 → nat_lt 64 (suc n) ≡ false
deep_enough_from n h = grind (arith, nat_tests)

-- the version that is printed
version_back : (version : ℕ) → IsVersion version → version_at (Some (integer (pos version))) ≡ Some version
version_back = by_version (λ v. version_at (Some (integer (pos v))) ≡ Some v) refl refl

module _ (p : ProfileData) (kept : IsProfile p) where
  abbrev ms : Members
  ms = profile_members p

  abbrev version_entry : List ℕ × Option Data
  version_entry = (codes "version", Some (integer (pos p.version)))

  abbrev types_entry : List ℕ × Option Data
  types_entry = (codes "types", types_data p.version p.types)

  abbrev mods_entry : List ℕ × Option Data
  mods_entry = (codes "mods", Some (array (items_of (map mod_data p.mods))))

  abbrev overrides_entry : List ℕ × Option Data
  overrides_entry = (codes "overrides", Some (array (items_of (map override_data p.overrides))))

  version_there : get_member (codes "version") ms ≡ Some (integer (pos p.version))
  version_there = get-put (codes "version") (integer (pos p.version)) (puts (types_entry ∷ mods_entry ∷ overrides_entry ∷ []) p.extra)

  mods_there : get_member (codes "mods") ms ≡ Some (array (items_of (map mod_data p.mods)))
  mods_there =
      get-past (codes "mods") (version_entry ∷ types_entry ∷ []) (puts (mods_entry ∷ overrides_entry ∷ []) p.extra) (refl, (refl, tt))
      ∙ get-put (codes "mods") (array (items_of (map mod_data p.mods))) (puts (overrides_entry ∷ []) p.extra)

  overrides_there : get_member (codes "overrides") ms ≡ Some (array (items_of (map override_data p.overrides)))
  overrides_there =
      get-past (codes "overrides") (version_entry ∷ types_entry ∷ mods_entry ∷ []) (puts (overrides_entry ∷ []) p.extra) (refl, (refl, (refl, tt)))
      ∙ get-put (codes "overrides") (array (items_of (map override_data p.overrides))) p.extra

  pub AreSound-profile : AreSound 63 ms
  AreSound-profile =
      AreSound-puts 63 (profile_keys p) p.extra
      (record { shallow = omega arith; no_floats = refl }, (tt, (types_sound p.version, (IsSound-array 62 (map mod_data p.mods) (AllSound-mods p.mods kept.mods), (IsSound-array 62 (map override_data p.overrides) (AllSound-overrides p.overrides kept.overrides), tt)))))
      (AreSound-unknown p.version Document p.extra kept.fits.extra)
    where
      types_by : (b : Bool) → IfSome (if b then None else Some (array (items_of (map type_data p.types)))) (IsSound 63)
      types_by true = tt
      types_by false = IsSound-array 62 (map type_data p.types) (AllSound-types p.types kept.types)

      types_sound : (v : ℕ) → IfSome (types_data v p.types) (IsSound 63)
      types_sound v = types_by (nat_eq v 1)

-- what goes by the version
module _ (mods over : Data) (p : ProfileData) where
  abbrev keys_at : ℕ → List (List ℕ × Option Data)
  keys_at v = (codes "version", Some (integer (pos v))) ∷ (codes "fold", None) ∷ (codes "types", types_data v p.types) ∷ (codes "mods", Some mods) ∷ (codes "overrides", Some over) ∷ []

  abbrev keys_1 : List (List ℕ × Option Data)
  keys_1 = (codes "version", Some (integer (pos 1))) ∷ (codes "mods", Some mods) ∷ (codes "overrides", Some over) ∷ []

  no_fold : (version : ℕ) → IsVersion version → AreUnknown version Document p.extra → member_from_2 version (codes "fold") (puts (keys_at version) p.extra) ≡ None
  no_fold = by_version (λ v. AreUnknown v Document p.extra → member_from_2 v (codes "fold") (puts (keys_at v) p.extra) ≡ None)
      (λ unknown. refl)
      (λ unknown. get-past (codes "fold") ((codes "version", Some (integer (pos 2))) ∷ (codes "types", types_data 2 p.types) ∷ (codes "mods", Some mods) ∷ (codes "overrides", Some over) ∷ []) p.extra (refl, (refl, (refl, (refl, tt)))) ∙ unknown.others.1.0)

  types_there : (version : ℕ) → IsVersion version → types_in version (puts (keys_at version) p.extra) ≡ types_data version p.types
  types_there = by_version (λ v. types_in v (puts (keys_at v) p.extra) ≡ types_data v p.types)
      refl
      (get-past (codes "types") ((codes "version", Some (integer (pos 2))) ∷ []) (puts ((codes "types", types_data 2 p.types) ∷ (codes "mods", Some mods) ∷ (codes "overrides", Some over) ∷ []) p.extra) (refl, tt)
      ∙ get-put (codes "types") (array (items_of (map type_data p.types))) (puts ((codes "mods", Some mods) ∷ (codes "overrides", Some over) ∷ []) p.extra))

  extra_back : (version : ℕ) → IsVersion version → AreUnknown version Document p.extra → unknown_in version Document (puts (keys_at version) p.extra) ≡ p.extra
  extra_back = by_version (λ v. AreUnknown v Document p.extra → unknown_in v Document (puts (keys_at v) p.extra) ≡ p.extra)
      (λ unknown. without-puts keys_1 p.extra ((refl, (refl, tt)), ((refl, tt), (tt, tt))) unknown.others)
      (λ unknown. without-puts (keys_at 2) p.extra ((refl, (refl, (refl, (refl, tt)))), ((refl, (refl, (refl, tt))), ((refl, (refl, tt)), ((refl, tt), (tt, tt))))) unknown.others)

module _ (p : ProfileData) (kept : IsProfile p) where
  types_are_good : (version : ℕ) → IsVersion version → types_fault (types_data version p.types) ≡ None
  types_are_good = by_version (λ v. types_fault (types_data v p.types) ≡ None)
      refl
      (ap types.list_fault (list_of-items_of (map type_data p.types)) ∙ types_none p.types kept.types kept.fits.ids)

  types_are_back : (version : ℕ) → IsVersion version → (version ≡ 1 → p.types ≡ []) → types_value (types_data version p.types) ≡ p.types
  types_are_back = by_version (λ v. (v ≡ 1 → p.types ≡ []) → types_value (types_data v p.types) ≡ p.types)
      (λ old. sym (old refl))
      (λ old. ap (map type_value) (list_of-items_of (map type_data p.types)) ∙ types_back p.types kept.types)

  abbrev mods_data : Data
  mods_data = array (items_of (map mod_data p.mods))

  abbrev overrides_data : Data
  overrides_data = array (items_of (map override_data p.overrides))

  types_is : types_in p.version (profile_members p) ≡ types_data p.version p.types
  types_is = types_there mods_data overrides_data p p.version kept.fits.version

  parts_fault-data : parts_fault p.version (profile_members p) ≡ None
  parts_fault-data =
      let v = p.version in
      let known = kept.fits.version in
      let ids : type_ids (types_value (types_in v (profile_members p))) ≡ type_ids p.types = ap (λ d. type_ids (types_value d)) types_is ∙ ap type_ids (types_are_back v known kept.fits.types) in
      let mods_good = ap (mods.list_fault v (type_ids p.types)) (list_of-items_of (map mod_data p.mods)) ∙ mods_none v (type_ids p.types) known (λ one. ap type_ids (kept.fits.types one)) p.mods kept.mods kept.fits.mods kept.ids in
      let overrides_good = ap overrides.list_fault (list_of-items_of (map override_data p.overrides)) ∙ overrides_none p.overrides kept.overrides kept.paths in
      (λ i. option_or (types_fault (types_is i)) (option_or (mods_fault v (ids i) (mods_there p kept i)) (overrides_fault (overrides_there p kept i))))
      ∙ (λ i. option_or (types_are_good v known i) (option_or (mods_good i) (overrides_good i)))

  versioned_fault-data : versioned_fault (Some p.version) (profile_members p) ≡ None
  versioned_fault-data =
      let fold = no_fold mods_data overrides_data p p.version kept.fits.version kept.fits.extra in
      λ i. option_or (fault_if (is_some (fold i)) (Shape (codes "fold"))) (parts_fault-data i)

  version_is : version_at (get_member (codes "version") (profile_members p)) ≡ Some p.version
  version_is = ap version_at (version_there p kept) ∙ version_back p.version kept.fits.version

  pub document_fault-data : document_fault (profile_members p) ≡ None
  document_fault-data =
      let sound = AreSound-profile p kept in
      let flat : nat_lt 64 (suc (members_levels (profile_members p))) ≡ false = deep_enough_from (members_levels (profile_members p)) sound.shallow in
      (λ i. option_or (fault_if (flat i) Deep) (option_or (fault_if (sound.no_floats i) Float) (versioned_fault (version_is i) (profile_members p))))
      ∙ versioned_fault-data

  parts_value-data : parts_value p.version (profile_members p) ≡ p
  parts_value-data =
      let v = p.version in
      let known = kept.fits.version in
      let mods_are = ap (mods_value v) (mods_there p kept) ∙ ap (map (mod_value v)) (list_of-items_of (map mod_data p.mods)) ∙ mods_back v (type_ids p.types) known (λ one. ap type_ids (kept.fits.types one)) p.mods kept.mods kept.fits.mods in
      let overrides_are = ap overrides_value (overrides_there p kept) ∙ ap (map override_value) (list_of-items_of (map override_data p.overrides)) ∙ overrides_back p.overrides kept.overrides in
      let types_are = ap types_value types_is ∙ types_are_back v known kept.fits.types in
      let extra = extra_back mods_data overrides_data p v known kept.fits.extra in
      λ i. record { version = v; mods = mods_are i; overrides = overrides_are i; types = types_are i; extra = extra i }

  pub document_value-data : document_value (profile_members p) ≡ p
  document_value-data = ap (λ o. parts_value (unwrap_or o 1) (profile_members p)) version_is ∙ parts_value-data

pub printed_reads : (bytes : List ℕ) (p : ProfileData) → IsProfile p → document_of bytes ≡ Some (profile_members p) → profile_of bytes ≡ Ok p
unfolding profile_of
printed_reads bytes p kept h =
    ap (λ d. profile_or (bytes_fault d) d) h ∙ ap (λ f. profile_or f (Some (profile_members p))) (document_fault-data p kept) ∙ ap Ok (document_value-data p kept)
