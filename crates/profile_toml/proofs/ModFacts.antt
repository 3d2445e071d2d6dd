-- What the parts of a mod's table say of the mod.
use Rattle.std.proofs.Common.{◌≡◌, ℕ, Bool, true, false, nat_eq, if◌then◌else◌, List, [], ◌∷◌, ◌++◌, Option, None, Some, codes, refl, ap, sym, ◌∙◌}
use Rattle.std.specs.Option.{option_or}
use Rattle.toml.specs.Data.{Members, get_member, same_key}
use Rattle.profile_toml.specs.declared.error.ProfileError.{ProfileError}
use Rattle.profile_toml.specs.KeyPaths.{keyed}
use Rattle.profile_toml.specs.Mods.{enabled_fault, enabled_at, bad_release, bad_type, entry_fault, entry_value}
use Rattle.profile_toml.specs.Rules.{rules_fault, rules_value}
use Rattle.profile_toml.specs.Tables.{OfMod, from_2, member_from_2}
use Rattle.profile_toml.specs.Texts.{text_in, optional_fault}
use Rattle.profile_toml.specs.Unknown.{without_key, without, unknown_in}
use Rattle.profile_toml.proofs.Chains.{or_past}
use Rattle.profile_toml.proofs.Members.{get-gone, without_key-none}

-- the faults in their order
module _ (version : ℕ) (ids : List (List ℕ)) (at : List ℕ) (ms : Members) where
  abbrev pub of_enabled : Option ProfileError
  of_enabled = enabled_fault (keyed at (codes "enabled")) (get_member (codes "enabled") ms)

  abbrev pub of_release : Option ProfileError
  of_release = optional_fault bad_release (keyed at (codes "release")) (member_from_2 version (codes "release") ms)

  abbrev pub of_type : Option ProfileError
  of_type = optional_fault (bad_type ids) (keyed at (codes "type")) (member_from_2 version (codes "type") ms)

  abbrev pub of_rules : Option ProfileError
  of_rules = rules_fault version (keyed at (codes "rules")) (get_member (codes "rules") ms)

  module _ (enabled : of_enabled ≡ None) where
    pub past_enabled : entry_fault version ids at ms ≡ option_or of_release (option_or of_type of_rules)
    past_enabled = or_past of_enabled (option_or of_release (option_or of_type of_rules)) enabled

    module _ (release : of_release ≡ None) where
      pub past_release : entry_fault version ids at ms ≡ option_or of_type of_rules
      past_release = past_enabled ∙ or_past of_release (option_or of_type of_rules) release

      pub past_type : of_type ≡ None → entry_fault version ids at ms ≡ of_rules
      past_type h = past_release ∙ or_past of_type of_rules h

-- a mod's table without its id
module _ (version : ℕ) (ids : List (List ℕ)) (at : List ℕ) (ms left : Members) (others : (k : List ℕ) → same_key (codes "id") k ≡ false → get_member k left ≡ get_member k ms) where
  pub entry_fault_left : entry_fault version ids at left ≡ entry_fault version ids at ms
  entry_fault_left =
      let enabled = others (codes "enabled") refl in
      let release = others (codes "release") refl in
      let kind = others (codes "type") refl in
      let rules = others (codes "rules") refl in
      λ i. option_or (enabled_fault (keyed at (codes "enabled")) (enabled i))
      (option_or (optional_fault bad_release (keyed at (codes "release")) (if nat_eq version 1 then None else release i))
      (option_or (optional_fault (bad_type ids) (keyed at (codes "type")) (if nat_eq version 1 then None else kind i))
      (rules_fault version (keyed at (codes "rules")) (rules i))))

  pub entry_value_left : left ≡ without_key (codes "id") ms → entry_value version left ≡ entry_value version ms
  entry_value_left left_is =
      let enabled = others (codes "enabled") refl in
      let release = others (codes "release") refl in
      let kind = others (codes "type") refl in
      let rules = others (codes "rules") refl in
      let gone : get_member (codes "id") left ≡ None = ap (get_member (codes "id")) left_is ∙ get-gone (codes "id") ms in
      let again : without_key (codes "id") left ≡ without_key (codes "id") ms = without_key-none (codes "id") left gone ∙ left_is in
      λ i. record {
        enabled = enabled_at (enabled i);
        rules = rules_value version (rules i);
        release = text_in (if nat_eq version 1 then None else release i);
        mod_type = text_in (if nat_eq version 1 then None else kind i);
        extra = without (codes "enabled" ∷ from_2 version (codes "release" ∷ codes "type" ∷ []) ++ codes "rules" ∷ []) (again i);
      }

taken_by : (b : Bool) (ms : Members) → without_key (codes "rules") (without (if b then [] else codes "type" ∷ []) (without (if b then [] else codes "release" ∷ []) ms))
    ≡ without ((if b then [] else codes "release" ∷ codes "type" ∷ []) ++ codes "rules" ∷ []) ms
taken_by true ms = refl
taken_by false ms = refl

-- the unknown members, where the id is taken out already
pub mod_keys_taken : (version : ℕ) (ms : Members) → get_member (codes "id") ms ≡ None
    → without_key (codes "rules") (without (from_2 version (codes "type" ∷ [])) (without (from_2 version (codes "release" ∷ [])) (without_key (codes "enabled") ms))) ≡ unknown_in version OfMod ms
mod_keys_taken version ms h =
    ap (λ m. without_key (codes "rules") (without (from_2 version (codes "type" ∷ [])) (without (from_2 version (codes "release" ∷ [])) (without_key (codes "enabled") m)))) (sym (without_key-none (codes "id") ms h))
    ∙ taken_by (nat_eq version 1) (without_key (codes "enabled") (without_key (codes "id") ms))
