-- What each profile keeps: facts on its value that its type has.
use Rattle.std.specs.Prelude.{◌≡◌, ◌⊎◌, ℕ, List, [], Bool, true, None, IfSome, nat_eq, map}
use Rattle.std.specs.List.{AllByRecursion, IsDistinct, list_any}
use Rattle.std.specs.Map.{keys_of}
use Rattle.std.specs.Cmp.Lexicographic.{pointwise}
use Rattle.rel_paths.specs.Names.{IsModId, IsUserPath, IsBase}
use Rattle.profile_toml.specs.Tables.{known_keys, Document, OfType, OfMod, OfRule, OfOverride}
use Rattle.profile_toml.specs.Unknown.{HaveNone, AreUnknown}
use Rattle.profile_toml.specs.Records.{RuleData, ModData, OverrideData, TypeData, ProfileData, type_ids}
use Rattle.profile_toml.specs.Releases.{is_release, is_range}

-- the versions that a profile may have
abbrev pub IsVersion : ℕ → Type 0
IsVersion version = (version ≡ 1) ⊎ (version ≡ 2)

-- whether a text is the id of one of the types
abbrev pub is_type : List (List ℕ) → List ℕ → Bool
is_type ids text = list_any (pointwise nat_eq text) ids

-- what the rules of a profile of this version keep
pub record FitsRule (version : ℕ) (r : RuleData) : Type 0 where
  pub range : version ≡ 1 → r.range ≡ None
  pub extra : HaveNone (known_keys version OfRule) r.extra

-- what the mods of a profile of this version, with types of these ids, keep
pub record FitsMod (version : ℕ) (ids : List (List ℕ)) (m : ModData) : Type 0 where
  pub release : version ≡ 1 → m.release ≡ None
  pub mod_type : IfSome m.mod_type (λ text. is_type ids text ≡ true)
  pub rules : AllByRecursion (FitsRule version) m.rules
  pub extra : HaveNone (known_keys version OfMod) m.extra

-- what a profile keeps: with version 1 there are no types, and so no mod's type
pub record Fits (p : ProfileData) : Type 0 where
  pub version : IsVersion p.version
  pub types : p.version ≡ 1 → p.types ≡ []
  pub ids : IsDistinct (pointwise nat_eq) (type_ids p.types)
  pub mods : AllByRecursion (λ m. FitsMod p.version (type_ids p.types) m.1) p.mods
  pub extra : AreUnknown p.version Document p.extra

-- what each rule, mod, override and type keeps by itself
pub record IsRule (r : RuleData) : Type 0 where
  pub refers : IsModId r.refers
  pub range : IfSome r.range (λ text. is_range text ≡ true)
  pub extra : AreUnknown 1 OfRule r.extra

pub record IsMod (m : List ℕ × ModData) : Type 0 where
  pub id : IsModId m.0
  pub rules : AllByRecursion IsRule m.1.rules
  pub release : IfSome m.1.release (λ text. is_release text ≡ true)
  pub extra : AreUnknown 1 OfMod m.1.extra

pub record IsOverride (o : OverrideData) : Type 0 where
  pub path : IsUserPath o.path
  pub mod_id : IsModId o.mod_id
  pub extra : AreUnknown 1 OfOverride o.extra

pub record IsType (t : TypeData) : Type 0 where
  pub id : IsModId t.id
  pub base : IsBase t.base
  pub extra : AreUnknown 2 OfType t.extra

-- what a profile keeps with all its parts
pub record IsProfile (p : ProfileData) : Type 0 where
  pub mods : AllByRecursion IsMod p.mods
  pub ids : IsDistinct (pointwise nat_eq) (keys_of p.mods)
  pub overrides : AllByRecursion IsOverride p.overrides
  pub paths : IsDistinct (pointwise nat_eq) (map (λ o. o.path) p.overrides)
  pub types : AllByRecursion IsType p.types
  pub fits : Fits p
