-- What contracts see of a profile and its parts. In each, `extra` has the unknown members of the
-- table.
use Rattle.std.specs.Prelude.{◌≡◌, ℕ, List, Bool, Option, refl, map}
use Rattle.std.specs.List.{AllByRecursion}
use Rattle.std.specs.Coded.{Coded, code_by, coded×, coded_ℕ, coded_bool, coded_list, coded_option}
use Rattle.toml.specs.Data.{Members}
use Rattle.profile_toml.specs.declared.rule.RuleKind.{RuleKind}
use Rattle.profile_toml.specs.contracts.rule.RuleKind as kind
use Rattle.profile_toml.specs.Stored.{coded_members}

abbrev pub text_code : Coded (List ℕ)
text_code = coded_list coded_ℕ

-- `range` is the text of a range of versions
pub record RuleData : Type 0 where
  pub kind : RuleKind
  pub refers : List ℕ
  pub range : Option (List ℕ)
  pub extra : Members

-- `release` is the text of a version, and `mod_type` the id of a type
pub record ModData : Type 0 where
  pub enabled : Bool
  pub rules : List RuleData
  pub release : Option (List ℕ)
  pub mod_type : Option (List ℕ)
  pub extra : Members

pub record OverrideData : Type 0 where
  pub path : List ℕ
  pub mod_id : List ℕ
  pub extra : Members

pub record TypeData : Type 0 where
  pub id : List ℕ
  pub base : List ℕ
  pub extra : Members

-- the mods with their ids, in order, and the overrides and the types in order
pub record ProfileData : Type 0 where
  pub version : ℕ
  pub mods : List (List ℕ × ModData)
  pub overrides : List OverrideData
  pub types : List TypeData
  pub extra : Members

abbrev pub rule_code : Coded RuleData
rule_code =
    code_by (RuleKind × (List ℕ × (Option (List ℕ) × Members)))
    (coded× kind.the_row.coded (coded× text_code (coded× (coded_option text_code) coded_members)))
    (λ r. (r.kind, (r.refers, (r.range, r.extra))))
    (λ p. record { kind = p.0; refers = p.1.0; range = p.1.1.0; extra = p.1.1.1 })
    (λ _. refl)

abbrev pub mod_code : Coded ModData
mod_code =
    code_by (Bool × (List RuleData × (Option (List ℕ) × (Option (List ℕ) × Members))))
    (coded× coded_bool (coded× (coded_list rule_code)
    (coded× (coded_option text_code) (coded× (coded_option text_code) coded_members))))
    (λ m. (m.enabled, (m.rules, (m.release, (m.mod_type, m.extra)))))
    (λ p. record {
      enabled = p.0;
      rules = p.1.0;
      release = p.1.1.0;
      mod_type = p.1.1.1.0;
      extra = p.1.1.1.1;
    })
    (λ _. refl)

abbrev pub override_code : Coded OverrideData
override_code =
    code_by (List ℕ × (List ℕ × Members)) (coded× text_code (coded× text_code coded_members))
    (λ o. (o.path, (o.mod_id, o.extra)))
    (λ p. record { path = p.0; mod_id = p.1.0; extra = p.1.1 })
    (λ _. refl)

abbrev pub type_code : Coded TypeData
type_code =
    code_by (List ℕ × (List ℕ × Members)) (coded× text_code (coded× text_code coded_members))
    (λ t. (t.id, (t.base, t.extra)))
    (λ p. record { id = p.0; base = p.1.0; extra = p.1.1 })
    (λ _. refl)

abbrev pub profile_code : Coded ProfileData
profile_code =
    code_by (ℕ × (List (List ℕ × ModData) × (List OverrideData × (List TypeData × Members))))
    (coded× coded_ℕ (coded× (coded_list (coded× text_code mod_code))
    (coded× (coded_list override_code) (coded× (coded_list type_code) coded_members))))
    (λ p. (p.version, (p.mods, (p.overrides, (p.types, p.extra)))))
    (λ q. record {
      version = q.0;
      mods = q.1.0;
      overrides = q.1.1.0;
      types = q.1.1.1.0;
      extra = q.1.1.1.1;
    })
    (λ _. refl)

-- the types' ids, in order
abbrev pub type_ids : List TypeData → List (List ℕ)
type_ids types = map (λ t. t.id) types

-- each override stands at its own path
abbrev pub AreAtTheirPaths : List (List ℕ × OverrideData) → Type 0
AreAtTheirPaths = AllByRecursion (λ e. e.0 ≡ e.1.path)

-- each type stands at its own id
abbrev pub AreAtTheirIds : List (List ℕ × TypeData) → Type 0
AreAtTheirIds = AllByRecursion (λ e. e.0 ≡ e.1.id)
