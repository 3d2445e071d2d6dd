use Rattle.std.proofs.Common.{◌≡◌, List, None, codes, map, nat_eq, option_map, refl, ap, sym, subst, ◌∙◌}
use Rattle.std.specs.List.{AllByRecursion, IsDistinct}
use Rattle.std.specs.Map.{keys_of, values_of}
use Rattle.std.specs.Option.{option_or}
use Rattle.std.specs.Cmp.Lexicographic.{pointwise}
use Rattle.rel_paths.specs.Names.{IsModId}
use Rattle.toml.specs.Data.{get_member}
use Rattle.toml.specs.View.{view, table_view}
use Rattle.profile_toml.specs.Kept.{FitsMod}
use Rattle.profile_toml.specs.Mods.{mods_fault, mods_value}
use Rattle.profile_toml.specs.Overrides.{overrides_fault, overrides_value, override_entry}
use Rattle.profile_toml.specs.Profiles.{types_in}
use Rattle.profile_toml.specs.Records.{AreAtTheirPaths, type_ids}
use Rattle.profile_toml.specs.Sound.{AreSound}
use Rattle.profile_toml.specs.Tables.{Document, from_2}
use Rattle.profile_toml.specs.Texts.{items_at}
use Rattle.profile_toml.specs.Types.{types_fault, types_value, type_entry}
use Rattle.profile_toml.specs.Unknown.{without_key, without, unknown_in, AreUnknown}
use Rattle.profile_toml.proofs.Chains.{Reads-err, or_at, or_past}
use Rattle.profile_toml.proofs.DocumentFacts.{document_keys_taken}
use Rattle.profile_toml.proofs.KeptFacts.{fits_mods, types_have_ids, types_made, type_ids_made, overrides_made, at_their_paths}
use Rattle.profile_toml.proofs.Members.{AreSound-without_key, AreSound-from_2, AreUnknown-in, IsSound-taken, IsSound-taken_from_2}
use Rattle.profile_toml.proofs.read.read_parts.Goals as goal

pub read_types-requires : goal.read_types-requires
read_types-requires c =
    IsSound-taken_from_2 63 c.args.version (codes "types") (table_view c.args.table) c.take_from_2.result c.take_from_2.ensures.value c.requires.sound

pub returns-in_err-types : goal.returns-in_err-types
returns-in_err-types c =
    let version = c.args.version in
    let ms = table_view c.args.table in
    let rest = option_or (mods_fault version (type_ids (types_value (types_in version ms))) (get_member (codes "mods") ms)) (overrides_fault (get_member (codes "overrides") ms)) in
    Reads-err _ _ _ c.in_err-types.field-0.0 c.from_residual.ensures.1
    (λ n. or_at (types_fault (types_in version ms)) rest _ (ap types_fault (sym c.take_from_2.ensures.value) ∙ c.in_err-types.ensures n))

pub read_mods-requires-clause-sound : goal.read_mods-requires-clause-sound
read_mods-requires-clause-sound c =
    IsSound-taken 63 (codes "mods") (table_view c.take_from_2.new.table) c.take.result c.take.ensures.value
    (subst (AreSound 63) (sym c.take_from_2.ensures.left) (AreSound-from_2 63 c.args.version (codes "types") (table_view c.args.table) c.requires.sound))

pub read_mods-requires-clause-ids : goal.read_mods-requires-clause-ids
read_mods-requires-clause-ids c =
    subst (λ es. AllByRecursion IsModId (keys_of es)) (sym c.in_ok-types.ensures.1) (types_have_ids (option_map view c.take_from_2.result) c.in_ok-types.ensures.0)

pub returns-in_err-mods : goal.returns-in_err-mods
returns-in_err-mods c =
    let version = c.args.version in
    let ms = table_view c.args.table in
    let types = c.take_from_2.ensures.value in
    let mods = c.take.ensures.value ∙ c.take_from_2.ensures.others (codes "mods") refl in
    let ids : keys_of c.in_ok-types.types.entries ≡ type_ids (types_value (types_in version ms)) = ap keys_of c.in_ok-types.ensures.1 ∙ type_ids_made (items_at (option_map view c.take_from_2.result)) ∙ ap (λ d. type_ids (types_value d)) types in
    let of_mods = mods_fault version (type_ids (types_value (types_in version ms))) (get_member (codes "mods") ms) in
    let of_overrides = overrides_fault (get_member (codes "overrides") ms) in
    Reads-err _ _ _ c.in_err-mods.field-0.0 c.from_residual-in_err-mods.ensures.1
    (λ n. or_past (types_fault (types_in version ms)) (option_or of_mods of_overrides) (ap types_fault (sym types) ∙ c.in_ok-types.ensures.0)
    ∙ or_at of_mods of_overrides _ ((λ i. mods_fault version (sym ids i) (sym mods i)) ∙ c.in_err-mods.ensures n))

pub read_overrides-requires : goal.read_overrides-requires
read_overrides-requires c =
    IsSound-taken 63 (codes "overrides") (table_view c.take.new.table) c.take-2.result c.take-2.ensures.value
    (subst (AreSound 63) (sym c.take.ensures.left) (AreSound-without_key 63 (codes "mods") _
    (subst (AreSound 63) (sym c.take_from_2.ensures.left) (AreSound-from_2 63 c.args.version (codes "types") (table_view c.args.table) c.requires.sound))))

pub returns-in_err-overrides : goal.returns-in_err-overrides
returns-in_err-overrides c =
    let version = c.args.version in
    let ms = table_view c.args.table in
    let types = c.take_from_2.ensures.value in
    let mods = c.take.ensures.value ∙ c.take_from_2.ensures.others (codes "mods") refl in
    let overrides = c.take-2.ensures.value ∙ c.take.ensures.others (codes "overrides") refl ∙ c.take_from_2.ensures.others (codes "overrides") refl in
    let ids : keys_of c.in_ok-types.types.entries ≡ type_ids (types_value (types_in version ms)) = ap keys_of c.in_ok-types.ensures.1 ∙ type_ids_made (items_at (option_map view c.take_from_2.result)) ∙ ap (λ d. type_ids (types_value d)) types in
    let of_mods = mods_fault version (type_ids (types_value (types_in version ms))) (get_member (codes "mods") ms) in
    let of_overrides = overrides_fault (get_member (codes "overrides") ms) in
    Reads-err _ _ _ c.in_err-overrides.field-0.0 c.from_residual-in_err-overrides.ensures.1
    (λ n. or_past (types_fault (types_in version ms)) (option_or of_mods of_overrides) (ap types_fault (sym types) ∙ c.in_ok-types.ensures.0)
    ∙ or_past of_mods of_overrides ((λ i. mods_fault version (sym ids i) (sym mods i)) ∙ c.in_ok-mods.ensures.0)
    ∙ ap overrides_fault (sym overrides) ∙ c.in_err-overrides.ensures n)

pub invariant_of-result : goal.invariant_of-result
invariant_of-result c =
    let version = c.args.version in
    let ms = table_view c.args.table in
    let types = c.take_from_2.ensures.value in
    let d = option_map view c.take_from_2.result in
    let list : c.in_ok-types-2.types.items ≡ types_value d = c.in_ok-types-2.ensures.items ∙ ap values_of c.in_ok-types.ensures.1 ∙ types_made (items_at d) in
    let ids : keys_of c.in_ok-types.types.entries ≡ type_ids c.in_ok-types-2.types.items = ap keys_of c.in_ok-types.ensures.1 ∙ type_ids_made (items_at d) ∙ ap type_ids (sym list) in
    let extra : c.of.result ≡ unknown_in version Document ms =
    c.of.ensures ∙ c.take-2.ensures.left ∙ ap (without_key (codes "overrides")) (c.take.ensures.left ∙ ap (without_key (codes "mods")) c.take_from_2.ensures.left) ∙ document_keys_taken version ms c.requires.no_version c.requires.no_fold in (
      subst AreAtTheirPaths (sym c.in_ok-overrides.ensures.1) (at_their_paths (items_at (option_map view c.take-2.result))),
      record {
        version = c.requires.known;
        types = λ one. list ∙ ap types_value types ∙ ap (λ w. types_value (types_in w ms)) one;
        ids = subst (IsDistinct (pointwise nat_eq)) ids c.in_ok-types-2.ensures.ids;
        mods = subst (λ es. AllByRecursion (λ m. FitsMod version (type_ids c.in_ok-types-2.types.items) m.1) es) (sym c.in_ok-mods.ensures.1)
            (subst (λ ks. AllByRecursion (λ m. FitsMod version ks m.1) (mods_value version (option_map view c.take.result))) ids (fits_mods version (keys_of c.in_ok-types.types.entries) (option_map view c.take.result) c.in_ok-mods.ensures.0));
        extra = subst (AreUnknown version Document) (sym extra) (AreUnknown-in version Document ms c.requires.sound);
      },
    )

pub returns : goal.returns
returns c =
    let version = c.args.version in
    let ms = table_view c.args.table in
    let types = c.take_from_2.ensures.value in
    let mods = c.take.ensures.value ∙ c.take_from_2.ensures.others (codes "mods") refl in
    let overrides = c.take-2.ensures.value ∙ c.take.ensures.others (codes "overrides") refl ∙ c.take_from_2.ensures.others (codes "overrides") refl in
    let d = option_map view c.take_from_2.result in
    let list : c.in_ok-types-2.types.items ≡ types_value d = c.in_ok-types-2.ensures.items ∙ ap values_of c.in_ok-types.ensures.1 ∙ types_made (items_at d) in
    let ids : keys_of c.in_ok-types.types.entries ≡ type_ids (types_value (types_in version ms)) = ap keys_of c.in_ok-types.ensures.1 ∙ type_ids_made (items_at d) ∙ ap (λ x. type_ids (types_value x)) types in
    let of_mods = mods_fault version (type_ids (types_value (types_in version ms))) (get_member (codes "mods") ms) in
    let of_overrides = overrides_fault (get_member (codes "overrides") ms) in
    let extra : c.of.result ≡ unknown_in version Document ms =
    c.of.ensures ∙ c.take-2.ensures.left ∙ ap (without_key (codes "overrides")) (c.take.ensures.left ∙ ap (without_key (codes "mods")) c.take_from_2.ensures.left) ∙ document_keys_taken version ms c.requires.no_version c.requires.no_fold in (
      or_past (types_fault (types_in version ms)) (option_or of_mods of_overrides) (ap types_fault (sym types) ∙ c.in_ok-types.ensures.0)
          ∙ or_past of_mods of_overrides ((λ i. mods_fault version (sym ids i) (sym mods i)) ∙ c.in_ok-mods.ensures.0)
          ∙ ap overrides_fault (sym overrides) ∙ c.in_ok-overrides.ensures.0,
      λ i. record {
        version = version;
        mods = (c.in_ok-mods.ensures.1 ∙ ap (mods_value version) mods) i;
        overrides = (ap (map (λ e. e.1)) (c.in_ok-overrides.ensures.1 ∙ ap (λ x. map override_entry (items_at x)) overrides) ∙ overrides_made (items_at (get_member (codes "overrides") ms))) i;
        types = (list ∙ ap types_value types) i;
        extra = extra i;
      },
    )
