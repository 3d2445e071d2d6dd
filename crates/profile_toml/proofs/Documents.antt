-- What the printed tables of rules, types, mods and overrides read as.
use Rattle.std.proofs.Common.{◌≡◌, ◌≤◌, ◌⊎◌, ◌+◌, ℕ, suc, Bool, true, false, not, nat_eq, List, [], ◌∷◌, Option, None, Some, option_map, codes, map, inl, inr, refl, ap, sym, subst, ◌∙◌, arith}
use Rattle.std.specs.List.{AllByRecursion, IsDistinct, list_any}
use Rattle.std.specs.Map.{keys_of}
use Rattle.std.specs.Option.{option_or, IfSome}
use Rattle.std.specs.Cmp.Lexicographic.{pointwise}
use Rattle.list_laws.proofs.Alls.{all_both}
use Rattle.rel_paths.specs.Names.{IsModId, IsUserPath, IsBase}
use Rattle.toml.specs.Data.{Data, string, boolean, array, table, Members, get_member}
use Rattle.toml.specs.View.{items_of}
use Rattle.profile_toml.specs.declared.rule.RuleKind.{RuleKind}
use Rattle.profile_toml.specs.declared.rule.RuleKind.TheVariants.{Before, After, Requires, Conflicts, Recommends}
use Rattle.profile_toml.specs.declared.error.ProfileError.{ProfileError}
use Rattle.profile_toml.specs.declared.error.ProfileError.TheVariants.{SameMod, SameOverride, SameType}
use Rattle.profile_toml.specs.Documents.{puts, rule_keys, rule_data, rules_data, type_keys, type_data, mod_keys, mod_data, override_keys, override_data}
use Rattle.profile_toml.specs.Faults.{first_fault, fault_if}
use Rattle.profile_toml.specs.Floats.{has_float, items_have_float}
use Rattle.profile_toml.specs.Kept.{IsVersion, IsRule, IsMod, IsOverride, IsType, FitsRule, FitsMod, is_type}
use Rattle.profile_toml.specs.KeyPaths.{keyed, indexed}
use Rattle.profile_toml.specs.Levels.{levels, items_levels}
use Rattle.profile_toml.specs.Mods.{enabled_fault, enabled_at, bad_release, bad_type, mod_fault, mod_value}
use Rattle.profile_toml.specs.Mods as mods
use Rattle.profile_toml.specs.Overrides.{override_fault, override_value, path_in}
use Rattle.profile_toml.specs.Overrides as overrides
use Rattle.profile_toml.specs.Records.{RuleData, ModData, OverrideData, TypeData}
use Rattle.profile_toml.specs.Releases.{is_release, is_range}
use Rattle.profile_toml.specs.Rules.{word_of, kind_of, kind_at, bad_kind, bad_range, rule_fault, rule_value, rules_fault, rules_value, list_fault}
use Rattle.profile_toml.specs.Sound.{IsSound, AreSound}
use Rattle.profile_toml.specs.Tables.{Table, OfType, OfMod, OfRule, OfOverride, room, member_from_2}
use Rattle.profile_toml.specs.Texts.{list_of, text_in, text_at, text_fault, optional_fault, id_in, bad_id, bad_path, bad_base}
use Rattle.profile_toml.specs.Types.{type_fault, type_value}
use Rattle.profile_toml.specs.Types as types
use Rattle.profile_toml.specs.Unknown.{unknown_in, AreUnknown}
use Rattle.profile_toml.proofs.Distinct.{none_at_all}
use Rattle.profile_toml.proofs.PutLists.{get-past, get-there, without-puts, AreSound-puts}
use Rattle.profile_toml.proofs.Puts.{get-put}

-- what holds with both versions
pub by_version : (P : ℕ → Type 0) → P 1 → P 2 → (version : ℕ) → IsVersion version → P version
by_version P one two version (inl is) = subst P (sym is) one
by_version P one two version (inr is) = subst P (sym is) two

pub kind_of-word : (k : RuleKind) → kind_of (word_of k) ≡ Some k
unfolding kind_of
kind_of-word Before = refl
kind_of-word After = refl
kind_of-word Requires = refl
kind_of-word Conflicts = refl
kind_of-word Recommends = refl

pub list_of-items_of : (ds : List Data) → list_of (items_of ds) ≡ ds
list_of-items_of [] = refl
list_of-items_of (d ∷ ds) = ap (λ l. d ∷ l) (list_of-items_of ds)

good_id : (at id : List ℕ) → IsModId id → text_fault bad_id at (Some (string id)) ≡ None
good_id at id h = rw h refl

good_path : (at path : List ℕ) → IsUserPath path → text_fault bad_path at (Some (string path)) ≡ None
good_path at path h = rw h refl

good_base : (at path : List ℕ) → IsBase path → text_fault bad_base at (Some (string path)) ≡ None
good_base at path h = rw h refl

good_kind : (at : List ℕ) (k : RuleKind) → text_fault bad_kind at (Some (string (word_of k))) ≡ None
good_kind at k = rw (kind_of-word k) refl

-- a text that may be missing
good_optional : (bad : List ℕ → Option ProfileError) (at : List ℕ) (o : Option (List ℕ)) → IfSome o (λ t. bad t ≡ None) → optional_fault bad at (option_map string o) ≡ None
good_optional bad at None h = refl
good_optional bad at (Some t) h = h

text_back : (o : Option (List ℕ)) → text_in (option_map string o) ≡ o
text_back None = refl
text_back (Some t) = refl

good_if : (P Q : List ℕ → Type 0) (o : Option (List ℕ)) → ((t : List ℕ) → P t → Q t) → IfSome o P → IfSome o Q
good_if P Q None f h = tt
good_if P Q (Some t) f h = f t h

no_fault : (b : Bool) (e : ProfileError) → b ≡ true → fault_if (not b) e ≡ None
no_fault b e h = rw h refl

-- the items of an array that is made of a list are sound where each is
IsSound-items : (most : ℕ) (ds : List Data) → AllByRecursion (IsSound most) ds → (items_levels (items_of ds) ≤ most) × (items_have_float (items_of ds) ≡ false)
IsSound-items most [] h = (omega arith, refl)
IsSound-items most (d ∷ ds) h =
    let rest = IsSound-items most ds h.1 in
    let here : levels d ≤ most = h.0.shallow in
    let low : items_levels (items_of ds) ≤ most = rest.0 in
    (omega (arith, here, low), rw (h.0.no_floats, rest.1) refl)

pub IsSound-array : (most : ℕ) (ds : List Data) → AllByRecursion (IsSound most) ds → IsSound (suc most) (array (items_of ds))
IsSound-array most ds h =
    let parts = IsSound-items most ds h in
    let low : items_levels (items_of ds) ≤ most = parts.0 in
    record { shallow = omega (arith, low); no_floats = parts.1 }

IsSound-table : (most : ℕ) (ms : Members) → AreSound most ms → IsSound (suc most) (table ms)
IsSound-table most ms h = record { shallow = omega (arith, h.shallow); no_floats = h.no_floats }

IsSound-string : (most : ℕ) (s : List ℕ) → 1 ≤ most → IsSound most (string s)
IsSound-string most s h = record { shallow = h; no_floats = refl }

sound_optional : (most : ℕ) (o : Option (List ℕ)) → 1 ≤ most → IfSome (option_map string o) (IsSound most)
sound_optional most None h = tt
sound_optional most (Some s) h = IsSound-string most s h

pub AreSound-unknown : (version : ℕ) (at : Table) (ms : Members) → AreUnknown version at ms → AreSound (room at) ms
AreSound-unknown version at ms h = record { shallow = h.shallow; no_floats = h.no_floats }

-- ---- rules

module _ (r : RuleData) where
  abbrev rule_table : Members
  rule_table = puts (rule_keys r) r.extra

  kind_there : get_member (codes "kind") rule_table ≡ Some (string (word_of r.kind))
  kind_there = get-put (codes "kind") (string (word_of r.kind)) (puts ((codes "ref", Some (string r.refers)) ∷ (codes "range", option_map string r.range) ∷ []) r.extra)

  ref_there : get_member (codes "ref") rule_table ≡ Some (string r.refers)
  ref_there =
      get-past (codes "ref") ((codes "kind", Some (string (word_of r.kind))) ∷ []) (puts ((codes "ref", Some (string r.refers)) ∷ (codes "range", option_map string r.range) ∷ []) r.extra) (refl, tt)
      ∙ get-put (codes "ref") (string r.refers) (puts ((codes "range", option_map string r.range) ∷ []) r.extra)

  range_there_2 : FitsRule 2 r → get_member (codes "range") rule_table ≡ option_map string r.range
  range_there_2 fits =
      get-past (codes "range") ((codes "kind", Some (string (word_of r.kind))) ∷ (codes "ref", Some (string r.refers)) ∷ []) (puts ((codes "range", option_map string r.range) ∷ []) r.extra) (refl, (refl, tt))
      ∙ get-there (codes "range") (option_map string r.range) r.extra fits.extra.1.1.0

  range_there : (version : ℕ) → IsVersion version → FitsRule version r → member_from_2 version (codes "range") rule_table ≡ option_map string r.range
  range_there =
      by_version (λ v. FitsRule v r → member_from_2 v (codes "range") rule_table ≡ option_map string r.range)
      (λ fits. sym (ap (option_map string) (fits.range refl))) range_there_2

  abbrev first_keys : List (List ℕ × Option Data)
  first_keys = (codes "kind", Some (string (word_of r.kind))) ∷ (codes "ref", Some (string r.refers)) ∷ []

  rule_extra_1 : FitsRule 1 r → unknown_in 1 OfRule rule_table ≡ r.extra
  rule_extra_1 fits =
      ap (λ o. unknown_in 1 OfRule (puts ((codes "kind", Some (string (word_of r.kind))) ∷ (codes "ref", Some (string r.refers)) ∷ (codes "range", option_map string o) ∷ []) r.extra)) (fits.range refl)
      ∙ without-puts first_keys r.extra ((refl, tt), (tt, tt)) fits.extra

  rule_extra_2 : FitsRule 2 r → unknown_in 2 OfRule rule_table ≡ r.extra
  rule_extra_2 fits = without-puts (rule_keys r) r.extra ((refl, (refl, tt)), ((refl, tt), (tt, tt))) fits.extra

  rule_extra : (version : ℕ) → IsVersion version → FitsRule version r → unknown_in version OfRule rule_table ≡ r.extra
  rule_extra = by_version (λ v. FitsRule v r → unknown_in v OfRule rule_table ≡ r.extra) rule_extra_1 rule_extra_2

  module _ (version : ℕ) (known : IsVersion version) (kept : IsRule r) (fits : FitsRule version r) where
    pub rule_fault-data : (at : List ℕ) → rule_fault version at (rule_data r) ≡ None
    rule_fault-data at =
        let range = range_there version known fits in
        let good = good_optional bad_range (keyed at (codes "range")) r.range (good_if (λ t. is_range t ≡ true) (λ t. bad_range t ≡ None) r.range (λ t h. rw h refl) kept.range) in
        (λ i. option_or (text_fault bad_kind (keyed at (codes "kind")) (kind_there i)) (option_or (text_fault bad_id (keyed at (codes "ref")) (ref_there i)) (optional_fault bad_range (keyed at (codes "range")) (range i))))
        ∙ (λ i. option_or (good_kind (keyed at (codes "kind")) r.kind i) (option_or (good_id (keyed at (codes "ref")) r.refers kept.refers i) (good i)))

    pub rule_value-data : rule_value version (rule_data r) ≡ r
    rule_value-data =
        let kind : kind_at (Some (string (word_of r.kind))) ≡ r.kind = rw (kind_of-word r.kind) refl in
        λ i. record {
          kind = (ap kind_at kind_there ∙ kind) i;
          refers = ap text_at ref_there i;
          range = (ap text_in (range_there version known fits) ∙ text_back r.range) i;
          extra = rule_extra version known fits i;
        }

  pub IsSound-rule : IsRule r → IsSound 60 (rule_data r)
  IsSound-rule kept =
      IsSound-table 59 rule_table (AreSound-puts 59 (rule_keys r) r.extra
      (IsSound-string 59 (word_of r.kind) (omega arith), (IsSound-string 59 r.refers (omega arith), (sound_optional 59 r.range (omega arith), tt)))
      (AreSound-unknown 1 OfRule r.extra kept.extra))

module _ (version : ℕ) (known : IsVersion version) where
  rules_none : (at : List ℕ) (n : ℕ) (rs : List RuleData) → AllByRecursion IsRule rs → AllByRecursion (FitsRule version) rs → first_fault (λ j d. rule_fault version (indexed at j) d) n (map rule_data rs) ≡ None
  rules_none at n [] h g = refl
  rules_none at n (r ∷ rs) h g =
      ap (λ f. option_or f (first_fault (λ j d. rule_fault version (indexed at j) d) (n + 1) (map rule_data rs))) (rule_fault-data r version known h.0 g.0 (indexed at n)) ∙ rules_none at (n + 1) rs h.1 g.1

  rules_back : (rs : List RuleData) → AllByRecursion IsRule rs → AllByRecursion (FitsRule version) rs → map (rule_value version) (map rule_data rs) ≡ rs
  rules_back [] h g = refl
  rules_back (r ∷ rs) h g = λ i. rule_value-data r version known h.0 g.0 i ∷ rules_back rs h.1 g.1 i

  rules_fault-data : (at : List ℕ) (rs : List RuleData) → AllByRecursion IsRule rs → AllByRecursion (FitsRule version) rs → rules_fault version at (Some (rules_data rs)) ≡ None
  rules_fault-data at rs h g = ap (list_fault version at) (list_of-items_of (map rule_data rs)) ∙ rules_none at 0 rs h g

  rules_value-data : (rs : List RuleData) → AllByRecursion IsRule rs → AllByRecursion (FitsRule version) rs → rules_value version (Some (rules_data rs)) ≡ rs
  rules_value-data rs h g = ap (map (rule_value version)) (list_of-items_of (map rule_data rs)) ∙ rules_back rs h g

AllSound-rules : (rs : List RuleData) → AllByRecursion IsRule rs → AllByRecursion (IsSound 60) (map rule_data rs)
AllSound-rules [] h = tt
AllSound-rules (r ∷ rs) h = (IsSound-rule r h.0, AllSound-rules rs h.1)

-- ---- types

module _ (t : TypeData) where
  abbrev type_table : Members
  type_table = puts (type_keys t) t.extra

  type_id_there : get_member (codes "id") type_table ≡ Some (string t.id)
  type_id_there = get-put (codes "id") (string t.id) (puts ((codes "base", Some (string t.base)) ∷ []) t.extra)

  base_there : get_member (codes "base") type_table ≡ Some (string t.base)
  base_there =
      get-past (codes "base") ((codes "id", Some (string t.id)) ∷ []) (puts ((codes "base", Some (string t.base)) ∷ []) t.extra) (refl, tt)
      ∙ get-put (codes "base") (string t.base) t.extra

  type_id_in : id_in (type_data t) ≡ t.id
  type_id_in = ap text_at type_id_there

  module _ (kept : IsType t) where
    type_extra : unknown_in 2 OfType type_table ≡ t.extra
    type_extra = without-puts (type_keys t) t.extra ((refl, tt), (tt, tt)) kept.extra.others

    type_fault-data : (earlier : List (List ℕ)) (at : List ℕ) → list_any (pointwise nat_eq t.id) earlier ≡ false → type_fault earlier at (type_data t) ≡ None
    type_fault-data earlier at new =
        (λ i. option_or (text_fault bad_id (keyed at (codes "id")) (type_id_there i))
        (option_or (fault_if (list_any (pointwise nat_eq (text_at (type_id_there i))) earlier) (SameType (text_at (type_id_there i))))
        (text_fault bad_base (keyed at (codes "base")) (base_there i))))
        ∙ (λ i. option_or (good_id (keyed at (codes "id")) t.id kept.id i) (option_or (fault_if (new i) (SameType t.id)) (good_base (keyed at (codes "base")) t.base kept.base i)))

    type_value-data : type_value (type_data t) ≡ t
    type_value-data = λ i. record { id = text_at (type_id_there i); base = text_at (base_there i); extra = type_extra i }

    IsSound-type : IsSound 62 (type_data t)
    IsSound-type =
        IsSound-table 61 type_table (AreSound-puts 61 (type_keys t) t.extra (IsSound-string 61 t.id (omega arith), (IsSound-string 61 t.base (omega arith), tt)) (AreSound-unknown 2 OfType t.extra kept.extra))

pub types_back : (ts : List TypeData) → AllByRecursion IsType ts → map type_value (map type_data ts) ≡ ts
types_back [] h = refl
types_back (t ∷ ts) h = λ i. type_value-data t h.0 i ∷ types_back ts h.1 i

pub AllSound-types : (ts : List TypeData) → AllByRecursion IsType ts → AllByRecursion (IsSound 62) (map type_data ts)
AllSound-types [] h = tt
AllSound-types (t ∷ ts) h = (IsSound-type t h.0, AllSound-types ts h.1)

pub types_none : (ts : List TypeData) → AllByRecursion IsType ts → IsDistinct (pointwise nat_eq) (map (λ t. t.id) ts) → types.list_fault (map type_data ts) ≡ None
types_none ts h distinct =
    none_at_all type_data (λ t. t.id) id_in type_id_in IsType (λ earlier n d. type_fault earlier (indexed (codes "types") n) d)
    (λ t earlier n kept new. type_fault-data t kept earlier (indexed (codes "types") n) new) ts h distinct

-- ---- mods

module _ (m : List ℕ × ModData) where
  abbrev mod_table : Members
  mod_table = puts (mod_keys m) m.1.extra

  abbrev id_entry : List ℕ × Option Data
  id_entry = (codes "id", Some (string m.0))

  abbrev enabled_entry : List ℕ × Option Data
  enabled_entry = (codes "enabled", Some (boolean m.1.enabled))

  abbrev release_entry : List ℕ × Option Data
  release_entry = (codes "release", option_map string m.1.release)

  abbrev type_entry : List ℕ × Option Data
  type_entry = (codes "type", option_map string m.1.mod_type)

  abbrev rules_entry : List ℕ × Option Data
  rules_entry = (codes "rules", Some (rules_data m.1.rules))

  id_there : get_member (codes "id") mod_table ≡ Some (string m.0)
  id_there = get-put (codes "id") (string m.0) (puts (enabled_entry ∷ release_entry ∷ type_entry ∷ rules_entry ∷ []) m.1.extra)

  enabled_there : get_member (codes "enabled") mod_table ≡ Some (boolean m.1.enabled)
  enabled_there =
      get-past (codes "enabled") (id_entry ∷ []) (puts (enabled_entry ∷ release_entry ∷ type_entry ∷ rules_entry ∷ []) m.1.extra) (refl, tt)
      ∙ get-put (codes "enabled") (boolean m.1.enabled) (puts (release_entry ∷ type_entry ∷ rules_entry ∷ []) m.1.extra)

  rules_there : get_member (codes "rules") mod_table ≡ Some (rules_data m.1.rules)
  rules_there =
      get-past (codes "rules") (id_entry ∷ enabled_entry ∷ release_entry ∷ type_entry ∷ []) (puts (rules_entry ∷ []) m.1.extra) (refl, (refl, (refl, (refl, tt))))
      ∙ get-put (codes "rules") (rules_data m.1.rules) m.1.extra

  pub id_in-data : id_in (mod_data m) ≡ m.0
  id_in-data = ap text_at id_there

  release_there : (version : ℕ) (ids : List (List ℕ)) → IsVersion version → FitsMod version ids m.1 → member_from_2 version (codes "release") mod_table ≡ option_map string m.1.release
  release_there version ids known =
      by_version (λ v. FitsMod v ids m.1 → member_from_2 v (codes "release") mod_table ≡ option_map string m.1.release)
      (λ fits. sym (ap (option_map string) (fits.release refl)))
      (λ fits. get-past (codes "release") (id_entry ∷ enabled_entry ∷ []) (puts (release_entry ∷ type_entry ∷ rules_entry ∷ []) m.1.extra) (refl, (refl, tt))
      ∙ get-there (codes "release") (option_map string m.1.release) (puts (type_entry ∷ rules_entry ∷ []) m.1.extra) (get-past (codes "release") (type_entry ∷ rules_entry ∷ []) m.1.extra (refl, (refl, tt)) ∙ fits.extra.1.1.0))
      version known

  type_there : (version : ℕ) (ids : List (List ℕ)) → IsVersion version → (version ≡ 1 → m.1.mod_type ≡ None) → FitsMod version ids m.1 → member_from_2 version (codes "type") mod_table ≡ option_map string m.1.mod_type
  type_there version ids known =
      by_version (λ v. (v ≡ 1 → m.1.mod_type ≡ None) → FitsMod v ids m.1 → member_from_2 v (codes "type") mod_table ≡ option_map string m.1.mod_type)
      (λ old fits. sym (ap (option_map string) (old refl)))
      (λ old fits. get-past (codes "type") (id_entry ∷ enabled_entry ∷ release_entry ∷ []) (puts (type_entry ∷ rules_entry ∷ []) m.1.extra) (refl, (refl, (refl, tt)))
      ∙ get-there (codes "type") (option_map string m.1.mod_type) (puts (rules_entry ∷ []) m.1.extra) (get-past (codes "type") (rules_entry ∷ []) m.1.extra (refl, tt) ∙ fits.extra.1.1.1.0))
      version known

  mod_extra : (version : ℕ) (ids : List (List ℕ)) → IsVersion version → (version ≡ 1 → m.1.mod_type ≡ None) → FitsMod version ids m.1 → unknown_in version OfMod mod_table ≡ m.1.extra
  mod_extra version ids known =
      by_version (λ v. (v ≡ 1 → m.1.mod_type ≡ None) → FitsMod v ids m.1 → unknown_in v OfMod mod_table ≡ m.1.extra)
      (λ old fits. (λ i. unknown_in 1 OfMod (puts (id_entry ∷ enabled_entry ∷ (codes "release", option_map string (fits.release refl i)) ∷ (codes "type", option_map string (old refl i)) ∷ rules_entry ∷ []) m.1.extra))
      ∙ without-puts (id_entry ∷ enabled_entry ∷ rules_entry ∷ []) m.1.extra ((refl, (refl, tt)), ((refl, tt), (tt, tt))) fits.extra)
      (λ old fits. without-puts (mod_keys m) m.1.extra ((refl, (refl, (refl, (refl, tt)))), ((refl, (refl, (refl, tt))), ((refl, (refl, tt)), ((refl, tt), (tt, tt))))) fits.extra)
      version known

  module _ (version : ℕ) (ids : List (List ℕ)) (known : IsVersion version) (old : version ≡ 1 → m.1.mod_type ≡ None) (kept : IsMod m) (fits : FitsMod version ids m.1) where
    pub mod_fault-data : (earlier : List (List ℕ)) (at : List ℕ) → list_any (pointwise nat_eq m.0) earlier ≡ false → mod_fault version ids earlier at (mod_data m) ≡ None
    mod_fault-data earlier at new =
        let release = release_there version ids known fits in
        let kind = type_there version ids known old fits in
        let good_release = good_optional bad_release (keyed at (codes "release")) m.1.release (good_if (λ t. is_release t ≡ true) (λ t. bad_release t ≡ None) m.1.release (λ t h. rw h refl) kept.release) in
        let good_type = good_optional (bad_type ids) (keyed at (codes "type")) m.1.mod_type (good_if (λ t. is_type ids t ≡ true) (λ t. bad_type ids t ≡ None) m.1.mod_type (λ t h. rw h refl) fits.mod_type) in
        (λ i. option_or (text_fault bad_id (keyed at (codes "id")) (id_there i))
        (option_or (fault_if (list_any (pointwise nat_eq (text_at (id_there i))) earlier) (SameMod (text_at (id_there i))))
        (option_or (enabled_fault (keyed at (codes "enabled")) (enabled_there i))
        (option_or (optional_fault bad_release (keyed at (codes "release")) (release i))
        (option_or (optional_fault (bad_type ids) (keyed at (codes "type")) (kind i))
        (rules_fault version (keyed at (codes "rules")) (rules_there i)))))))
        ∙ (λ i. option_or (good_id (keyed at (codes "id")) m.0 kept.id i) (option_or (fault_if (new i) (SameMod m.0)) (option_or (good_release i) (option_or (good_type i) (rules_fault-data version known (keyed at (codes "rules")) m.1.rules kept.rules fits.rules i)))))

    pub mod_value-data : mod_value version (mod_data m) ≡ m
    mod_value-data = λ i. (
      text_at (id_there i),
      record {
        enabled = enabled_at (enabled_there i);
        rules = (ap (rules_value version) rules_there ∙ rules_value-data version known m.1.rules kept.rules fits.rules) i;
        release = (ap text_in (release_there version ids known fits) ∙ text_back m.1.release) i;
        mod_type = (ap text_in (type_there version ids known old fits) ∙ text_back m.1.mod_type) i;
        extra = mod_extra version ids known old fits i;
      },
    )

  pub IsSound-mod : IsMod m → IsSound 62 (mod_data m)
  IsSound-mod kept =
      let enabled_sound : IsSound 61 (boolean m.1.enabled) = record { shallow = omega arith; no_floats = refl } in
      IsSound-table 61 mod_table (AreSound-puts 61 (mod_keys m) m.1.extra
      (IsSound-string 61 m.0 (omega arith), (enabled_sound, (sound_optional 61 m.1.release (omega arith), (sound_optional 61 m.1.mod_type (omega arith), (IsSound-array 60 (map rule_data m.1.rules) (AllSound-rules m.1.rules kept.rules), tt)))))
      (AreSound-unknown 1 OfMod m.1.extra kept.extra))

none_of_no_types : (o : Option (List ℕ)) → IfSome o (λ t. is_type [] t ≡ true) → o ≡ None
none_of_no_types None h = refl
none_of_no_types (Some t) h = cc

module _ (version : ℕ) (ids : List (List ℕ)) (known : IsVersion version) (old : version ≡ 1 → ids ≡ []) where
  -- with version 1 no mod has a type
  no_type : (m : ModData) → FitsMod version ids m → version ≡ 1 → m.mod_type ≡ None
  no_type m fits one = none_of_no_types m.mod_type (subst (λ ks. IfSome m.mod_type (λ t. is_type ks t ≡ true)) (old one) fits.mod_type)

  pub mods_back : (ms : List (List ℕ × ModData)) → AllByRecursion IsMod ms → AllByRecursion (λ m. FitsMod version ids m.1) ms → map (mod_value version) (map mod_data ms) ≡ ms
  mods_back [] h g = refl
  mods_back (m ∷ ms) h g = λ i. mod_value-data m version ids known (no_type m.1 g.0) h.0 g.0 i ∷ mods_back ms h.1 g.1 i

  pub mods_none : (ms : List (List ℕ × ModData)) → AllByRecursion IsMod ms → AllByRecursion (λ m. FitsMod version ids m.1) ms → IsDistinct (pointwise nat_eq) (keys_of ms) → mods.list_fault version ids (map mod_data ms) ≡ None
  mods_none ms h g distinct =
      none_at_all mod_data (λ m. m.0) id_in id_in-data (λ m. IsMod m × FitsMod version ids m.1) (λ earlier n d. mod_fault version ids earlier (indexed (codes "mods") n) d)
      (λ m earlier n kept new. mod_fault-data m version ids known (no_type m.1 kept.1) kept.0 kept.1 earlier (indexed (codes "mods") n) new) ms (all_both IsMod (λ m. FitsMod version ids m.1) (λ m. IsMod m × FitsMod version ids m.1) ms (λ m p q. (p, q)) h g) distinct

pub AllSound-mods : (ms : List (List ℕ × ModData)) → AllByRecursion IsMod ms → AllByRecursion (IsSound 62) (map mod_data ms)
AllSound-mods [] h = tt
AllSound-mods (m ∷ ms) h = (IsSound-mod m h.0, AllSound-mods ms h.1)

-- ---- overrides

module _ (o : OverrideData) where
  abbrev override_table : Members
  override_table = puts (override_keys o) o.extra

  path_there : get_member (codes "path") override_table ≡ Some (string o.path)
  path_there = get-put (codes "path") (string o.path) (puts ((codes "mod", Some (string o.mod_id)) ∷ []) o.extra)

  mod_there : get_member (codes "mod") override_table ≡ Some (string o.mod_id)
  mod_there =
      get-past (codes "mod") ((codes "path", Some (string o.path)) ∷ []) (puts ((codes "mod", Some (string o.mod_id)) ∷ []) o.extra) (refl, tt)
      ∙ get-put (codes "mod") (string o.mod_id) o.extra

  pub path_in-data : path_in (override_data o) ≡ o.path
  path_in-data = ap text_at path_there

  module _ (kept : IsOverride o) where
    override_extra : unknown_in 1 OfOverride override_table ≡ o.extra
    override_extra = without-puts (override_keys o) o.extra ((refl, tt), (tt, tt)) kept.extra.others

    pub override_fault-data : (earlier : List (List ℕ)) (at : List ℕ) → list_any (pointwise nat_eq o.path) earlier ≡ false → override_fault earlier at (override_data o) ≡ None
    override_fault-data earlier at new =
        (λ i. option_or (text_fault bad_path (keyed at (codes "path")) (path_there i))
        (option_or (fault_if (list_any (pointwise nat_eq (text_at (path_there i))) earlier) (SameOverride (text_at (path_there i))))
        (text_fault bad_id (keyed at (codes "mod")) (mod_there i))))
        ∙ (λ i. option_or (good_path (keyed at (codes "path")) o.path kept.path i) (option_or (fault_if (new i) (SameOverride o.path)) (good_id (keyed at (codes "mod")) o.mod_id kept.mod_id i)))

    pub override_value-data : override_value (override_data o) ≡ o
    override_value-data = λ i. record { path = text_at (path_there i); mod_id = text_at (mod_there i); extra = override_extra i }

    pub IsSound-override : IsSound 62 (override_data o)
    IsSound-override =
        IsSound-table 61 override_table (AreSound-puts 61 (override_keys o) o.extra (IsSound-string 61 o.path (omega arith), (IsSound-string 61 o.mod_id (omega arith), tt)) (AreSound-unknown 1 OfOverride o.extra kept.extra))

pub overrides_back : (os : List OverrideData) → AllByRecursion IsOverride os → map override_value (map override_data os) ≡ os
overrides_back [] h = refl
overrides_back (o ∷ os) h = λ i. override_value-data o h.0 i ∷ overrides_back os h.1 i

pub AllSound-overrides : (os : List OverrideData) → AllByRecursion IsOverride os → AllByRecursion (IsSound 62) (map override_data os)
AllSound-overrides [] h = tt
AllSound-overrides (o ∷ os) h = (IsSound-override o h.0, AllSound-overrides os h.1)

pub overrides_none : (os : List OverrideData) → AllByRecursion IsOverride os → IsDistinct (pointwise nat_eq) (map (λ o. o.path) os) → overrides.list_fault (map override_data os) ≡ None
overrides_none os h distinct =
    none_at_all override_data (λ o. o.path) path_in path_in-data IsOverride (λ earlier n d. override_fault earlier (indexed (codes "overrides") n) d)
    (λ o earlier n kept new. override_fault-data o kept earlier (indexed (codes "overrides") n) new) os h distinct
