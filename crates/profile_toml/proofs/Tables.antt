-- A table's map and its members.
use Rattle.std.proofs.Common.{◌≡◌, ℕ, Bool, true, false, cond, List, [], ◌∷◌, String, Global, Option, None, Some, string_bytes, nat_cmp, refl, ap, sym, ◌∙◌, inl, inr}
use Rattle.std.proofs.lemmas.Bool.{cases_Bool}
use Rattle.std.specs.Map.{lookup, remove_entry}
use Rattle.std.specs.BTreeMap.{is_at}
use Rattle.std.specs.Cmp.Lexicographic.{slice_cmp}
use Rattle.toml.specs.Data.{Members, no_members, member, same_key}
use Rattle.toml.specs.View.{view, members_view}
use Rattle.toml.specs.declared.value.Value.{Value}
use Rattle.toml.proofs.Views.{Entry}
use Rattle.profile_toml.specs.Unknown.{without_key}

abbrev pub at_key : List ℕ → String Global → Bool
at_key key = is_at (λ k. slice_cmp nat_cmp key (string_bytes k))

some_none : {A : Type 0} (x : A) → Some x ≡ None → ⊥
some_none x q = cc

absent_at : (key : List ℕ) (e : Entry) (es : List Entry) (b : Bool) → at_key key e.0 ≡ b → lookup (at_key key) (e ∷ es) ≡ None
    → (lookup (at_key key) es ≡ None → without_key key (members_view es) ≡ members_view es) → without_key key (members_view (e ∷ es)) ≡ members_view (e ∷ es)
absent_at key e es true p h rest = absurd (some_none e.1 (rw p at h))
absent_at key e es false p h rest = rw p (ap (member (string_bytes e.0) (view e.1)) (rest (rw p at h)))

-- a key that the map has not
pub absent : (key : List ℕ) (es : List Entry) → lookup (at_key key) es ≡ None → without_key key (members_view es) ≡ members_view es
absent key [] h = refl
absent key (e ∷ es) h = absent_at key e es (at_key key e.0) refl h (absent key es)

removed_at : (key : List ℕ) (e : Entry) (es : List Entry) (b : Bool) → at_key key e.0 ≡ b → lookup (at_key key) (remove_entry (at_key key) (e ∷ es)) ≡ None
    → (lookup (at_key key) (remove_entry (at_key key) es) ≡ None → members_view (remove_entry (at_key key) es) ≡ without_key key (members_view es))
    → members_view (remove_entry (at_key key) (e ∷ es)) ≡ without_key key (members_view (e ∷ es))
removed_at key e es true p h rest = rw p (sym (absent key es (rw p at h)))
removed_at key e es false p h rest =
    let left : lookup (at_key key) (e ∷ remove_entry (at_key key) es) ≡ None = rw p at h in
    rw p (ap (member (string_bytes e.0) (view e.1)) (rest (rw p at left)))

-- a key taken out of the map
pub members_view-remove : (key : List ℕ) (es : List Entry) → lookup (at_key key) (remove_entry (at_key key) es) ≡ None → members_view (remove_entry (at_key key) es) ≡ without_key key (members_view es)
members_view-remove key [] h = refl
members_view-remove key (e ∷ es) h = removed_at key e es (at_key key e.0) refl h (members_view-remove key es)
