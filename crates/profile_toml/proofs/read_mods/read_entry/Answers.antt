use Rattle.std.proofs.Common.{◌≡◌, None, codes, [], ◌∷◌, option_map, refl, ap, sym, subst, ◌∙◌}
use Rattle.std.specs.Map.{keys_of}
use Rattle.std.specs.Option.{option_or}
use Rattle.toml.specs.Data.{get_member}
use Rattle.toml.specs.View.{view, table_view}
use Rattle.profile_toml.specs.declared.key_path.TablePath.TheVariants.{Mod}
use Rattle.profile_toml.specs.KeyPaths.{keyed, path_of}
use Rattle.profile_toml.specs.Rules.{rules_fault, rules_value}
use Rattle.profile_toml.specs.Mods.{enabled_fault, enabled_at, bad_release, bad_type}
use Rattle.profile_toml.specs.Sound.{AreSound}
use Rattle.profile_toml.specs.Tables.{OfMod, from_2, member_from_2}
use Rattle.profile_toml.specs.Texts.{text_in, optional_fault}
use Rattle.profile_toml.specs.Unknown.{without_key, without, unknown_in, AreUnknown}
use Rattle.profile_toml.proofs.Chains.{Reads-err, or_at}
use Rattle.profile_toml.proofs.Members.{AreSound-without_key, AreSound-from_2, AreUnknown-in, IsSound-taken, without_key-none, member_from_2-is, unknown_to_1}
use Rattle.profile_toml.proofs.ModFacts.{of_enabled, of_release, of_type, of_rules, past_enabled, past_release, past_type, mod_keys_taken}
use Rattle.profile_toml.proofs.read_mods.read_entry.Goals as goal

pub read_rules-requires : goal.read_rules-requires
read_rules-requires c =
    let version = c.args.version in
    IsSound-taken 61 (codes "rules") _ c.take-2.result c.take-2.ensures.value
    (subst (AreSound 61) (sym c.take_from_2-2.ensures.left) (AreSound-from_2 61 version (codes "type") _
    (subst (AreSound 61) (sym c.take_from_2.ensures.left) (AreSound-from_2 61 version (codes "release") _
    (subst (AreSound 61) (sym c.take.ensures.left) (AreSound-without_key 61 (codes "enabled") (table_view c.args.table) c.requires.sound))))))

pub returns-in_err-enabled : goal.returns-in_err-enabled
returns-in_err-enabled c =
    let at = path_of (Mod c.args.index) in
    let version = c.args.version in
    let ids = keys_of c.args.types.now.entries in
    let ms = table_view c.args.table in
    Reads-err _ _ _ c.in_err-enabled.field-0.0 c.from_residual.ensures.1
    (λ n. or_at (of_enabled version ids at ms) (option_or (of_release version ids at ms) (option_or (of_type version ids at ms) (of_rules version ids at ms))) _
    (ap (enabled_fault (keyed at (codes "enabled"))) (sym c.take.ensures.value) ∙ c.in_err-enabled.ensures n))

pub returns-in_err-release : goal.returns-in_err-release
returns-in_err-release c =
    let at = path_of (Mod c.args.index) in
    let version = c.args.version in
    let ids = keys_of c.args.types.now.entries in
    let ms = table_view c.args.table in
    let enabled : of_enabled version ids at ms ≡ None = ap (enabled_fault (keyed at (codes "enabled"))) (sym c.take.ensures.value) ∙ c.in_ok-enabled.ensures.0 in
    let release_is : option_map view c.take_from_2.result ≡ member_from_2 version (codes "release") ms = c.take_from_2.ensures.value ∙ member_from_2-is version (codes "release") (table_view c.take.new.table) ms (c.take.ensures.others (codes "release") refl) in
    Reads-err _ _ _ c.in_err-release.field-0.0 c.from_residual-in_err-release.ensures.1
    (λ n. past_enabled version ids at ms enabled ∙ or_at (of_release version ids at ms) (option_or (of_type version ids at ms) (of_rules version ids at ms)) _
    (ap (optional_fault bad_release (keyed at (codes "release"))) (sym release_is) ∙ c.in_err-release.ensures n))

pub returns-in_err-mod_type : goal.returns-in_err-mod_type
returns-in_err-mod_type c =
    let at = path_of (Mod c.args.index) in
    let version = c.args.version in
    let ids = keys_of c.args.types.now.entries in
    let ms = table_view c.args.table in
    let enabled : of_enabled version ids at ms ≡ None = ap (enabled_fault (keyed at (codes "enabled"))) (sym c.take.ensures.value) ∙ c.in_ok-enabled.ensures.0 in
    let release_is : option_map view c.take_from_2.result ≡ member_from_2 version (codes "release") ms = c.take_from_2.ensures.value ∙ member_from_2-is version (codes "release") (table_view c.take.new.table) ms (c.take.ensures.others (codes "release") refl) in
    let release : of_release version ids at ms ≡ None = ap (optional_fault bad_release (keyed at (codes "release"))) (sym release_is) ∙ c.in_ok-release.ensures.0 in
    let type_is : option_map view c.take_from_2-2.result ≡ member_from_2 version (codes "type") ms =
    c.take_from_2-2.ensures.value ∙ member_from_2-is version (codes "type") (table_view c.take_from_2.new.table) ms (c.take_from_2.ensures.others (codes "type") refl ∙ c.take.ensures.others (codes "type") refl) in
    Reads-err _ _ _ c.in_err-mod_type.field-0.0 c.from_residual-in_err-mod_type.ensures.1
    (λ n. past_release version ids at ms enabled release ∙ or_at (of_type version ids at ms) (of_rules version ids at ms) _
    (ap (optional_fault (bad_type ids) (keyed at (codes "type"))) (sym type_is) ∙ c.in_err-mod_type.ensures n))

pub returns-in_err-rules : goal.returns-in_err-rules
returns-in_err-rules c =
    let at = path_of (Mod c.args.index) in
    let version = c.args.version in
    let ids = keys_of c.args.types.now.entries in
    let ms = table_view c.args.table in
    let enabled : of_enabled version ids at ms ≡ None = ap (enabled_fault (keyed at (codes "enabled"))) (sym c.take.ensures.value) ∙ c.in_ok-enabled.ensures.0 in
    let release_is : option_map view c.take_from_2.result ≡ member_from_2 version (codes "release") ms = c.take_from_2.ensures.value ∙ member_from_2-is version (codes "release") (table_view c.take.new.table) ms (c.take.ensures.others (codes "release") refl) in
    let release : of_release version ids at ms ≡ None = ap (optional_fault bad_release (keyed at (codes "release"))) (sym release_is) ∙ c.in_ok-release.ensures.0 in
    let type_is : option_map view c.take_from_2-2.result ≡ member_from_2 version (codes "type") ms =
    c.take_from_2-2.ensures.value ∙ member_from_2-is version (codes "type") (table_view c.take_from_2.new.table) ms (c.take_from_2.ensures.others (codes "type") refl ∙ c.take.ensures.others (codes "type") refl) in
    let type_none : of_type version ids at ms ≡ None = ap (optional_fault (bad_type ids) (keyed at (codes "type"))) (sym type_is) ∙ c.in_ok-mod_type.ensures.0 in
    let rules_is : option_map view c.take-2.result ≡ get_member (codes "rules") ms =
    c.take-2.ensures.value ∙ c.take_from_2-2.ensures.others (codes "rules") refl ∙ c.take_from_2.ensures.others (codes "rules") refl ∙ c.take.ensures.others (codes "rules") refl in
    Reads-err _ _ _ c.in_err-rules.field-0.0 c.from_residual-in_err-rules.ensures.1
    (λ n. past_type version ids at ms enabled release type_none ∙ ap (rules_fault version (keyed at (codes "rules"))) (sym rules_is) ∙ c.in_err-rules.ensures n)

pub invariant_of-result : goal.invariant_of-result
invariant_of-result c =
    let version = c.args.version in
    let ms = table_view c.args.table in
    let extra : c.of.result ≡ unknown_in version OfMod ms = c.of.ensures ∙ c.take-2.ensures.left ∙ ap (without_key (codes "rules")) (c.take_from_2-2.ensures.left
    ∙ ap (without (from_2 version (codes "type" ∷ []))) (c.take_from_2.ensures.left ∙ ap (without (from_2 version (codes "release" ∷ []))) c.take.ensures.left)) ∙ mod_keys_taken version ms c.requires.no_id in
    subst (AreUnknown 1 OfMod) (sym extra) (unknown_to_1 version OfMod (unknown_in version OfMod ms) (AreUnknown-in version OfMod ms c.requires.sound))

pub returns : goal.returns
returns c =
    let at = path_of (Mod c.args.index) in
    let version = c.args.version in
    let ids = keys_of c.args.types.now.entries in
    let ms = table_view c.args.table in
    let enabled : of_enabled version ids at ms ≡ None = ap (enabled_fault (keyed at (codes "enabled"))) (sym c.take.ensures.value) ∙ c.in_ok-enabled.ensures.0 in
    let release_is : option_map view c.take_from_2.result ≡ member_from_2 version (codes "release") ms = c.take_from_2.ensures.value ∙ member_from_2-is version (codes "release") (table_view c.take.new.table) ms (c.take.ensures.others (codes "release") refl) in
    let release : of_release version ids at ms ≡ None = ap (optional_fault bad_release (keyed at (codes "release"))) (sym release_is) ∙ c.in_ok-release.ensures.0 in
    let type_is : option_map view c.take_from_2-2.result ≡ member_from_2 version (codes "type") ms =
    c.take_from_2-2.ensures.value ∙ member_from_2-is version (codes "type") (table_view c.take_from_2.new.table) ms (c.take_from_2.ensures.others (codes "type") refl ∙ c.take.ensures.others (codes "type") refl) in
    let type_none : of_type version ids at ms ≡ None = ap (optional_fault (bad_type ids) (keyed at (codes "type"))) (sym type_is) ∙ c.in_ok-mod_type.ensures.0 in
    let rules_is : option_map view c.take-2.result ≡ get_member (codes "rules") ms =
    c.take-2.ensures.value ∙ c.take_from_2-2.ensures.others (codes "rules") refl ∙ c.take_from_2.ensures.others (codes "rules") refl ∙ c.take.ensures.others (codes "rules") refl in
    let extra : c.of.result ≡ unknown_in version OfMod ms = c.of.ensures ∙ c.take-2.ensures.left ∙ ap (without_key (codes "rules")) (c.take_from_2-2.ensures.left
    ∙ ap (without (from_2 version (codes "type" ∷ []))) (c.take_from_2.ensures.left ∙ ap (without (from_2 version (codes "release" ∷ []))) c.take.ensures.left)) ∙ mod_keys_taken version ms c.requires.no_id in (
      past_type version ids at ms enabled release type_none ∙ ap (rules_fault version (keyed at (codes "rules"))) (sym rules_is) ∙ c.in_ok-rules.ensures.0,
      λ i. record {
        enabled = (c.in_ok-enabled.ensures.1 ∙ ap enabled_at c.take.ensures.value) i;
        rules = (c.in_ok-rules.ensures.1 ∙ ap (rules_value version) rules_is) i;
        release = (c.in_ok-release.ensures.1 ∙ ap text_in release_is) i;
        mod_type = (c.in_ok-mod_type.ensures.1 ∙ ap text_in type_is) i;
        extra = extra i;
      },
    )
