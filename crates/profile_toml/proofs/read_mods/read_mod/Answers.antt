use Rattle.std.proofs.Common.{◌≡◌, ◌∷◌, ◌++◌, [], ℕ, List, None, true, false, codes, length, nat_eq, ap, refl, sym, subst, ◌∙◌}
use Rattle.std.specs.List.{list_any}
use Rattle.std.specs.Map.{keys_of}
use Rattle.std.specs.Cmp.Lexicographic.{pointwise}
use Rattle.toml.specs.Data.{table, get_member}
use Rattle.toml.specs.View.{view, table_view}
use Rattle.profile_toml.specs.declared.error.ProfileError.TheVariants.{SameMod}
use Rattle.profile_toml.specs.declared.key_path.TablePath.TheVariants.{Mod}
use Rattle.profile_toml.specs.KeyPaths.{keyed, path_of}
use Rattle.profile_toml.specs.Mods.{mod_fault, mod_value, entry_fault}
use Rattle.profile_toml.specs.Sound.{IsSound, AreSound}
use Rattle.profile_toml.specs.Texts.{text_fault, text_at, bad_id}
use Rattle.profile_toml.proofs.Chains.{ReadsMore-err, keyed_same, keyed_new}
use Rattle.list_laws.proofs.Lookups.{found-any}
use Rattle.profile_toml.proofs.Members.{AreSound-table, AreSound-without_key, get-gone}
use Rattle.profile_toml.proofs.ModFacts.{entry_fault_left, entry_value_left}
use Rattle.profile_toml.proofs.Shapes.{table_is}
use Rattle.profile_toml.proofs.read_mods.read_mod.Goals as goal

pub returns-then-contains_key : goal.returns-then-contains_key
returns-then-contains_key c =
    let version = c.args.version in
    let ids = keys_of c.args.types.now.entries in
    let es = c.args.mods.now.entries in
    let at = path_of (Mod (length es)) in
    let ms = table_view c.in-Some.table in
    let is : view c.args.value ≡ table ms = table_is (view c.args.value) ms (sym c.in-Some.ensures) in
    let id = c.in_ok-id.id in
    let d = get_member (codes "id") ms in
    let none : text_fault bad_id (keyed at (codes "id")) d ≡ None = (λ i. text_fault bad_id (keyed (path_of (Mod (sym c.len-index.ensures.len i))) (codes "id")) (sym c.take.ensures.value i)) ∙ c.in_ok-id.ensures.0 in
    let id_is : id ≡ text_at d = c.in_ok-id.ensures.1 ∙ ap text_at c.take.ensures.value in
    let there : list_any (pointwise nat_eq id) (keys_of es) ≡ true = sym (found-any (pointwise nat_eq id) es) ∙ sym c.contains_key.ensures ∙ c.if-contains_key.true in
    λ n. ap (mod_fault version ids (keys_of es) at) is ∙ keyed_same bad_id (keyed at (codes "id")) d SameMod (keys_of es) (entry_fault version ids at ms) id none id_is there

pub read_entry-requires-clause-sound : goal.read_entry-requires-clause-sound
read_entry-requires-clause-sound c =
    let ms = table_view c.in-Some.table in
    let is : view c.args.value ≡ table ms = table_is (view c.args.value) ms (sym c.in-Some.ensures) in
    subst (AreSound 61) (sym c.take.ensures.left) (AreSound-without_key 61 (codes "id") ms (AreSound-table 61 ms (subst (IsSound 62) is c.requires.sound)))

pub read_entry-requires-clause-no_id : goal.read_entry-requires-clause-no_id
read_entry-requires-clause-no_id c = ap (get_member (codes "id")) c.take.ensures.left ∙ get-gone (codes "id") (table_view c.in-Some.table)

pub returns-in_err-entry : goal.returns-in_err-entry
returns-in_err-entry c =
    let version = c.args.version in
    let ids = keys_of c.args.types.now.entries in
    let es = c.args.mods.now.entries in
    let at = path_of (Mod (length es)) in
    let ms = table_view c.in-Some.table in
    let left = table_view c.take.new.table in
    let is : view c.args.value ≡ table ms = table_is (view c.args.value) ms (sym c.in-Some.ensures) in
    let id = c.in_ok-id.id in
    let d = get_member (codes "id") ms in
    let none : text_fault bad_id (keyed at (codes "id")) d ≡ None = (λ i. text_fault bad_id (keyed (path_of (Mod (sym c.len-index.ensures.len i))) (codes "id")) (sym c.take.ensures.value i)) ∙ c.in_ok-id.ensures.0 in
    let id_is : id ≡ text_at d = c.in_ok-id.ensures.1 ∙ ap text_at c.take.ensures.value in
    let new : list_any (pointwise nat_eq id) (keys_of es) ≡ false = sym (found-any (pointwise nat_eq id) es) ∙ sym c.contains_key.ensures ∙ c.if-contains_key.false in
    ReadsMore-err _ _ _ _ _ c.in_err-entry.field-0.0 c.from_residual-in_err-entry.ensures.1
    (λ n. ap (mod_fault version ids (keys_of es) at) is ∙ keyed_new bad_id (keyed at (codes "id")) d SameMod (keys_of es) (entry_fault version ids at ms) id none id_is new
    ∙ sym (entry_fault_left version ids at ms left c.take.ensures.others) ∙ ap (λ k. entry_fault version ids (path_of (Mod k)) left) (sym c.len-index.ensures.len) ∙ c.in_err-entry.ensures n)

pub returns : goal.returns
returns c =
    let version = c.args.version in
    let ids = keys_of c.args.types.now.entries in
    let es = c.args.mods.now.entries in
    let at = path_of (Mod (length es)) in
    let ms = table_view c.in-Some.table in
    let left = table_view c.take.new.table in
    let is : view c.args.value ≡ table ms = table_is (view c.args.value) ms (sym c.in-Some.ensures) in
    let id = c.in_ok-id.id in
    let d = get_member (codes "id") ms in
    let none : text_fault bad_id (keyed at (codes "id")) d ≡ None = (λ i. text_fault bad_id (keyed (path_of (Mod (sym c.len-index.ensures.len i))) (codes "id")) (sym c.take.ensures.value i)) ∙ c.in_ok-id.ensures.0 in
    let id_is : id ≡ text_at d = c.in_ok-id.ensures.1 ∙ ap text_at c.take.ensures.value in
    let new : list_any (pointwise nat_eq id) (keys_of es) ≡ false = sym (found-any (pointwise nat_eq id) es) ∙ sym c.contains_key.ensures ∙ c.if-contains_key.false in (
      ap (mod_fault version ids (keys_of es) at) is ∙ keyed_new bad_id (keyed at (codes "id")) d SameMod (keys_of es) (entry_fault version ids at ms) id none id_is new
          ∙ sym (entry_fault_left version ids at ms left c.take.ensures.others) ∙ ap (λ k. entry_fault version ids (path_of (Mod k)) left) (sym c.len-index.ensures.len) ∙ c.in_ok-entry.ensures.0,
      c.in_ok-add_mod.ensures
          ∙ ap (λ e. es ++ e ∷ []) ((λ i. (id_is i, (c.in_ok-entry.ensures.1 ∙ entry_value_left version ids at ms left c.take.ensures.others c.take.ensures.left) i)) ∙ ap (mod_value version) (sym is)),
    )
