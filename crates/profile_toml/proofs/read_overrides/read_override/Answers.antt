use Rattle.std.proofs.Common.{◌≡◌, ◌∷◌, ◌++◌, [], ℕ, List, Option, None, true, false, codes, length, nat_eq, option_map, ap, refl, sym, subst, ◌∙◌}
use Rattle.std.specs.List.{list_any}
use Rattle.std.specs.Map.{keys_of}
use Rattle.std.specs.Cmp.Lexicographic.{pointwise}
use Rattle.toml.specs.Data.{table, get_member}
use Rattle.toml.specs.View.{view, table_view}
use Rattle.profile_toml.specs.declared.error.ProfileError.TheVariants.{SameOverride}
use Rattle.profile_toml.specs.declared.key_path.TablePath.TheVariants.{Override}
use Rattle.profile_toml.specs.KeyPaths.{keyed, path_of}
use Rattle.profile_toml.specs.Sound.{IsSound}
use Rattle.profile_toml.specs.Tables.{OfOverride}
use Rattle.profile_toml.specs.Texts.{text_fault, text_at, bad_path, bad_id}
use Rattle.profile_toml.specs.Overrides.{override_fault, override_entry}
use Rattle.profile_toml.specs.Unknown.{without_key, unknown_in, AreUnknown}
use Rattle.profile_toml.proofs.Chains.{ReadsMore-err, keyed_same, keyed_new}
use Rattle.list_laws.proofs.Lookups.{found-any}
use Rattle.profile_toml.proofs.Members.{AreSound-table, AreUnknown-in}
use Rattle.profile_toml.proofs.Shapes.{table_is}
use Rattle.profile_toml.proofs.read_overrides.read_override.Goals as goal

pub returns-then-contains_key : goal.returns-then-contains_key
returns-then-contains_key c =
    let es = c.args.overrides.now.entries in
    let at = path_of (Override (length es)) in
    let ms = table_view c.in-Some.table in
    let is : view c.args.value ≡ table ms = table_is (view c.args.value) ms (sym c.in-Some.ensures) in
    let id = c.in_ok-path.path in
    let d = get_member (codes "path") ms in
    let none : text_fault bad_path (keyed at (codes "path")) d ≡ None = (λ i. text_fault bad_path (keyed (path_of (Override (sym c.len-index.ensures.len i))) (codes "path")) (sym c.take.ensures.value i)) ∙ c.in_ok-path.ensures.reads.0 in
    let id_is : id ≡ text_at d = c.in_ok-path.ensures.reads.1 ∙ ap text_at c.take.ensures.value in
    let there : list_any (pointwise nat_eq id) (keys_of es) ≡ true = sym (found-any (pointwise nat_eq id) es) ∙ sym c.contains_key.ensures ∙ c.if-contains_key.true in
    λ n. ap (override_fault (keys_of es) at) is ∙ keyed_same bad_path (keyed at (codes "path")) d SameOverride (keys_of es) (text_fault bad_id (keyed at (codes "mod")) (get_member (codes "mod") ms)) id none id_is there

pub returns-in_err-mod_id : goal.returns-in_err-mod_id
returns-in_err-mod_id c =
    let es = c.args.overrides.now.entries in
    let at = path_of (Override (length es)) in
    let ms = table_view c.in-Some.table in
    let is : view c.args.value ≡ table ms = table_is (view c.args.value) ms (sym c.in-Some.ensures) in
    let id = c.in_ok-path.path in
    let d = get_member (codes "path") ms in
    let none : text_fault bad_path (keyed at (codes "path")) d ≡ None = (λ i. text_fault bad_path (keyed (path_of (Override (sym c.len-index.ensures.len i))) (codes "path")) (sym c.take.ensures.value i)) ∙ c.in_ok-path.ensures.reads.0 in
    let id_is : id ≡ text_at d = c.in_ok-path.ensures.reads.1 ∙ ap text_at c.take.ensures.value in
    let new : list_any (pointwise nat_eq id) (keys_of es) ≡ false = sym (found-any (pointwise nat_eq id) es) ∙ sym c.contains_key.ensures ∙ c.if-contains_key.false in
    let base : option_map view c.take-2.result ≡ get_member (codes "mod") ms = c.take-2.ensures.value ∙ c.take.ensures.others (codes "mod") refl in
    ReadsMore-err _ _ _ _ _ c.in_err-mod_id.field-0.0 c.from_residual-in_err-mod_id.ensures.1
    (λ n. ap (override_fault (keys_of es) at) is ∙ keyed_new bad_path (keyed at (codes "path")) d SameOverride (keys_of es) (text_fault bad_id (keyed at (codes "mod")) (get_member (codes "mod") ms)) id none id_is new
    ∙ (λ i. text_fault bad_id (keyed (path_of (Override (sym c.len-index.ensures.len i))) (codes "mod")) (sym base i)) ∙ c.in_err-mod_id.ensures n)

pub invariant_of-entry : goal.invariant_of-entry
invariant_of-entry c =
    let ms = table_view c.in-Some.table in
    let is : view c.args.value ≡ table ms = table_is (view c.args.value) ms (sym c.in-Some.ensures) in
    let extra : c.of.result ≡ unknown_in 1 OfOverride ms = c.of.ensures ∙ c.take-2.ensures.left ∙ ap (without_key (codes "mod")) c.take.ensures.left in
    (c.in_ok-path.ensures.user, subst (AreUnknown 1 OfOverride) (sym extra) (AreUnknown-in 1 OfOverride ms (AreSound-table 61 ms (subst (IsSound 62) is c.requires))))

pub returns : goal.returns
returns c =
    let es = c.args.overrides.now.entries in
    let at = path_of (Override (length es)) in
    let ms = table_view c.in-Some.table in
    let is : view c.args.value ≡ table ms = table_is (view c.args.value) ms (sym c.in-Some.ensures) in
    let id = c.in_ok-path.path in
    let d = get_member (codes "path") ms in
    let none : text_fault bad_path (keyed at (codes "path")) d ≡ None = (λ i. text_fault bad_path (keyed (path_of (Override (sym c.len-index.ensures.len i))) (codes "path")) (sym c.take.ensures.value i)) ∙ c.in_ok-path.ensures.reads.0 in
    let id_is : id ≡ text_at d = c.in_ok-path.ensures.reads.1 ∙ ap text_at c.take.ensures.value in
    let new : list_any (pointwise nat_eq id) (keys_of es) ≡ false = sym (found-any (pointwise nat_eq id) es) ∙ sym c.contains_key.ensures ∙ c.if-contains_key.false in
    let base : option_map view c.take-2.result ≡ get_member (codes "mod") ms = c.take-2.ensures.value ∙ c.take.ensures.others (codes "mod") refl in
    let extra : c.of.result ≡ unknown_in 1 OfOverride ms = c.of.ensures ∙ c.take-2.ensures.left ∙ ap (without_key (codes "mod")) c.take.ensures.left in (
      ap (override_fault (keys_of es) at) is ∙ keyed_new bad_path (keyed at (codes "path")) d SameOverride (keys_of es) (text_fault bad_id (keyed at (codes "mod")) (get_member (codes "mod") ms)) id none id_is new
          ∙ (λ i. text_fault bad_id (keyed (path_of (Override (sym c.len-index.ensures.len i))) (codes "mod")) (sym base i)) ∙ c.in_ok-mod_id.ensures.0,
      c.in_ok-add_override.ensures
          ∙ ap (λ e. es ++ e ∷ []) ((λ i. ((c.in_ok-key.ensures ∙ id_is) i, record { path = id_is i; mod_id = (c.in_ok-mod_id.ensures.1 ∙ ap text_at base) i; extra = extra i })) ∙ ap override_entry (sym is)),
    )
