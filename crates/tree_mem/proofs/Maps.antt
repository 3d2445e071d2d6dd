-- Maps with texts as keys, and their keys as names.
use Rattle.std.proofs.Common.{◌≡◌, ◌≢◌, ℕ, Bool, true, false, cond, List, [], ◌∷◌, refl, sym, ◌∙◌, OnOk, OnErr}
use Rattle.std.specs.List.{list_all}
use Rattle.std.specs.BTreeMap.{BTreeMap, UpdatesBy, insert_entry, get_by_text}
use Rattle.std.specs.Map.{remove_entry}
use Rattle.std.specs.Cmp.Lexicographic.{slice_cmp}
use Rattle.std.specs.Ordering.{nat_cmp, match_ordering}
use Rattle.std.specs.Str.{bytes_eq}
use Rattle.std.specs.String.{string_bytes, string_cmp}
use Rattle.std.specs.declared.alloc.Global.{Global}
use Rattle.std.specs.declared.cmp.Ordering.TheVariants.{Less, Equal, Greater}
use Rattle.std.specs.declared.option.Option.{Option}
use Rattle.std.specs.declared.result.Result.{Result}
use Rattle.std.specs.declared.result.Result.TheVariants.{Ok, Err}
use Rattle.std.specs.declared.string.String.{String}
use Rattle.std.proofs.lemmas.Bool.{false_from_ne_true}
use Rattle.std.proofs.lemmas.Map.{update_other}
use Rattle.std.proofs.lemmas.Map.Text.{btree_map_updates_text}
use Rattle.std.proofs.lemmas.Slice.Eq.{bytes_eq-Decides}
use Rattle.tree_fs.specs.EntryName.{is_entry_name, IsName}
use Rattle.tree_mem.specs.Keys.{AreNames, Changes}
use Rattle.tree_mem.proofs.Names.{both, joint}

pub apart : (a b : List ℕ) → b ≢ a → bytes_eq a b ≡ false
apart a b ne = false_from_ne_true (bytes_eq a b) (λ t. ne (sym ((bytes_eq-Decides a b).0 t)))

pub Changes-from_update : {X : Type 0} (m n : BTreeMap (String Global) X) (name : List ℕ) (value : Option X)
    → UpdatesBy string_cmp (λ k. slice_cmp nat_cmp name (string_bytes k)) m n value → Changes m n name value
Changes-from_update m n name value u = record {
  here = u.1;
  others = λ other ne. btree_map_updates_text name m n value u other ∙ update_other bytes_eq (get_by_text m) name value other (apart name other ne);
}

AreNames-insert : {X : Type 0} (es : List (String Global × X)) (k : String Global) (v : X) → IsName (string_bytes k) → AreNames es → AreNames (insert_entry string_cmp es k v)
AreNames-insert [] k v h hs = joint (is_entry_name (string_bytes k)) true h refl
AreNames-insert (e ∷ es) k v h hs =
    let parts = both (is_entry_name (string_bytes e.0)) (list_all (λ f. is_entry_name (string_bytes f.0)) es) hs in
    elim (string_cmp k e.0) as (λ o. AreNames (match_ordering o ((k, v) ∷ e ∷ es) ((e.0, v) ∷ es) (e ∷ insert_entry string_cmp es k v))) [
      | Less ↦ joint _ _ h hs
      | Equal ↦ joint _ _ parts.0 parts.1
      | Greater ↦ joint _ _ parts.0 (AreNames-insert es k v h parts.1)
    ]

pub AreNames-after : {X A E : Type 0} (r : Result A E) (old new : List (String Global × X)) (k : String Global) (v : X) → OnOk r (new ≡ insert_entry string_cmp old k v) → OnErr r (new ≡ old)
    → IsName (string_bytes k) → AreNames old → AreNames new
AreNames-after (Ok a) old new k v ok err h hs = rw ok (AreNames-insert old k v h hs)
AreNames-after (Err e) old new k v ok err h hs = rw err hs

pub AreNames-remove : {X : Type 0} (test : String Global → Bool) (es : List (String Global × X)) → AreNames es → AreNames (remove_entry test es)
AreNames-remove test [] hs = refl
AreNames-remove test (e ∷ es) hs =
    let parts = both (is_entry_name (string_bytes e.0)) (list_all (λ f. is_entry_name (string_bytes f.0)) es) hs in
    elim (test e.0) as (λ b. AreNames (cond b es (e ∷ remove_entry test es))) [ true ↦ parts.1 | false ↦ joint _ _ parts.0 (AreNames-remove test es parts.1) ]
