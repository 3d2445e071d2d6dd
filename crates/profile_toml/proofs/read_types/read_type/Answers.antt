use Rattle.std.proofs.Common.{◌≡◌, ◌∷◌, ◌++◌, [], ℕ, List, Option, None, true, false, codes, length, nat_eq, option_map, ap, refl, sym, subst, ◌∙◌}
use Rattle.std.specs.List.{list_any}
use Rattle.std.specs.Map.{keys_of}
use Rattle.std.specs.Cmp.Lexicographic.{pointwise}
use Rattle.toml.specs.Data.{table, get_member}
use Rattle.toml.specs.View.{view, table_view}
use Rattle.profile_toml.specs.declared.error.ProfileError.TheVariants.{SameType}
use Rattle.profile_toml.specs.declared.key_path.TablePath.TheVariants.{ModType}
use Rattle.profile_toml.specs.KeyPaths.{keyed, path_of}
use Rattle.profile_toml.specs.Sound.{IsSound}
use Rattle.profile_toml.specs.Tables.{OfType}
use Rattle.profile_toml.specs.Texts.{text_fault, text_at, bad_id, bad_base}
use Rattle.profile_toml.specs.Types.{type_fault, type_entry}
use Rattle.profile_toml.specs.Unknown.{without_key, unknown_in, AreUnknown}
use Rattle.profile_toml.proofs.Chains.{ReadsMore-err, keyed_same, keyed_new}
use Rattle.list_laws.proofs.Lookups.{found-any}
use Rattle.profile_toml.proofs.Members.{AreSound-table, AreUnknown-in}
use Rattle.profile_toml.proofs.Shapes.{table_is}
use Rattle.profile_toml.proofs.read_types.read_type.Goals as goal

pub returns-then-contains_key : goal.returns-then-contains_key
returns-then-contains_key c =
    let es = c.args.types.now.entries in
    let at = path_of (ModType (length es)) in
    let ms = table_view c.in-Some.table in
    let is : view c.args.value ≡ table ms = table_is (view c.args.value) ms (sym c.in-Some.ensures) in
    let id = c.in_ok-id.id in
    let d = get_member (codes "id") ms in
    let none : text_fault bad_id (keyed at (codes "id")) d ≡ None = (λ i. text_fault bad_id (keyed (path_of (ModType (sym c.len-index.ensures.len i))) (codes "id")) (sym c.take.ensures.value i)) ∙ c.in_ok-id.ensures.0 in
    let id_is : id ≡ text_at d = c.in_ok-id.ensures.1 ∙ ap text_at c.take.ensures.value in
    let there : list_any (pointwise nat_eq id) (keys_of es) ≡ true = sym (found-any (pointwise nat_eq id) es) ∙ sym c.contains_key.ensures ∙ c.if-contains_key.true in
    λ n. ap (type_fault (keys_of es) at) is ∙ keyed_same bad_id (keyed at (codes "id")) d SameType (keys_of es) (text_fault bad_base (keyed at (codes "base")) (get_member (codes "base") ms)) id none id_is there

pub returns-in_err-base : goal.returns-in_err-base
returns-in_err-base c =
    let es = c.args.types.now.entries in
    let at = path_of (ModType (length es)) in
    let ms = table_view c.in-Some.table in
    let is : view c.args.value ≡ table ms = table_is (view c.args.value) ms (sym c.in-Some.ensures) in
    let id = c.in_ok-id.id in
    let d = get_member (codes "id") ms in
    let none : text_fault bad_id (keyed at (codes "id")) d ≡ None = (λ i. text_fault bad_id (keyed (path_of (ModType (sym c.len-index.ensures.len i))) (codes "id")) (sym c.take.ensures.value i)) ∙ c.in_ok-id.ensures.0 in
    let id_is : id ≡ text_at d = c.in_ok-id.ensures.1 ∙ ap text_at c.take.ensures.value in
    let new : list_any (pointwise nat_eq id) (keys_of es) ≡ false = sym (found-any (pointwise nat_eq id) es) ∙ sym c.contains_key.ensures ∙ c.if-contains_key.false in
    let base : option_map view c.take-2.result ≡ get_member (codes "base") ms = c.take-2.ensures.value ∙ c.take.ensures.others (codes "base") refl in
    ReadsMore-err _ _ _ _ _ c.in_err-base.field-0.0 c.from_residual-in_err-base.ensures.1
    (λ n. ap (type_fault (keys_of es) at) is ∙ keyed_new bad_id (keyed at (codes "id")) d SameType (keys_of es) (text_fault bad_base (keyed at (codes "base")) (get_member (codes "base") ms)) id none id_is new
    ∙ (λ i. text_fault bad_base (keyed (path_of (ModType (sym c.len-index.ensures.len i))) (codes "base")) (sym base i)) ∙ c.in_err-base.ensures.reads n)

pub invariant_of-entry : goal.invariant_of-entry
invariant_of-entry c =
    let ms = table_view c.in-Some.table in
    let is : view c.args.value ≡ table ms = table_is (view c.args.value) ms (sym c.in-Some.ensures) in
    let extra : c.of.result ≡ unknown_in 2 OfType ms = c.of.ensures ∙ c.take-2.ensures.left ∙ ap (without_key (codes "base")) c.take.ensures.left in
    (c.in_ok-base.ensures.base, subst (AreUnknown 2 OfType) (sym extra) (AreUnknown-in 2 OfType ms (AreSound-table 61 ms (subst (IsSound 62) is c.requires))))

pub returns : goal.returns
returns c =
    let es = c.args.types.now.entries in
    let at = path_of (ModType (length es)) in
    let ms = table_view c.in-Some.table in
    let is : view c.args.value ≡ table ms = table_is (view c.args.value) ms (sym c.in-Some.ensures) in
    let id = c.in_ok-id.id in
    let d = get_member (codes "id") ms in
    let none : text_fault bad_id (keyed at (codes "id")) d ≡ None = (λ i. text_fault bad_id (keyed (path_of (ModType (sym c.len-index.ensures.len i))) (codes "id")) (sym c.take.ensures.value i)) ∙ c.in_ok-id.ensures.0 in
    let id_is : id ≡ text_at d = c.in_ok-id.ensures.1 ∙ ap text_at c.take.ensures.value in
    let new : list_any (pointwise nat_eq id) (keys_of es) ≡ false = sym (found-any (pointwise nat_eq id) es) ∙ sym c.contains_key.ensures ∙ c.if-contains_key.false in
    let base : option_map view c.take-2.result ≡ get_member (codes "base") ms = c.take-2.ensures.value ∙ c.take.ensures.others (codes "base") refl in
    let extra : c.of.result ≡ unknown_in 2 OfType ms = c.of.ensures ∙ c.take-2.ensures.left ∙ ap (without_key (codes "base")) c.take.ensures.left in (
      ap (type_fault (keys_of es) at) is ∙ keyed_new bad_id (keyed at (codes "id")) d SameType (keys_of es) (text_fault bad_base (keyed at (codes "base")) (get_member (codes "base") ms)) id none id_is new
          ∙ (λ i. text_fault bad_base (keyed (path_of (ModType (sym c.len-index.ensures.len i))) (codes "base")) (sym base i)) ∙ c.in_ok-base.ensures.reads.0,
      c.in_ok-add_type.ensures
          ∙ ap (λ e. es ++ e ∷ []) ((λ i. ((c.in_ok-key.ensures ∙ id_is) i, record { id = id_is i; base = (c.in_ok-base.ensures.reads.1 ∙ ap text_at base) i; extra = extra i })) ∙ ap type_entry (sym is)),
    )
