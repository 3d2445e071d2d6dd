-- Overrides that stand at their own paths.
use Rattle.std.proofs.Common.{◌≡◌, ℕ, List, [], ◌∷◌, ◌++◌, Bool, true, false, cond, Option, None, Some, refl, sym, ap, subst, ◌∙◌}
use Rattle.std.specs.Map.{lookup, set_value, remove_entry, values_of}
use Rattle.std.specs.Str.{bytes_eq}
use Rattle.profile_toml.specs.Records.{OverrideData, AreAtTheirPaths}
use Rattle.profile_edit.specs.Parts.{value_at, with_value, by_path, with_mod_id}
use Rattle.profile_edit.proofs.Values.{with_value-None, with_value-Some}

pub keyed_again : (es : List (List ℕ × OverrideData)) → AreAtTheirPaths es → by_path (values_of es) ≡ es
keyed_again [] h = refl
keyed_again (e ∷ es) h = λ i. (sym h.0 i, e.1) ∷ keyed_again es h.1 i

-- overrides at their paths are told apart by their values
pub same_entries : (es fs : List (List ℕ × OverrideData)) → AreAtTheirPaths es → AreAtTheirPaths fs → values_of es ≡ values_of fs → es ≡ fs
same_entries es fs h g e = sym (keyed_again es h) ∙ ap by_path e ∙ keyed_again fs g

pub keyed-push : (es : List (List ℕ × OverrideData)) (e : List ℕ × OverrideData) → AreAtTheirPaths es → e.0 ≡ e.1.path → AreAtTheirPaths (es ++ e ∷ [])
keyed-push [] e h own = (own, tt)
keyed-push (x ∷ xs) e h own = (h.0, keyed-push xs e h.1 own)

pub keyed-remove_entry : (t : List ℕ → Bool) (es : List (List ℕ × OverrideData)) → AreAtTheirPaths es → AreAtTheirPaths (remove_entry t es)
keyed-remove_entry t [] h = h
keyed-remove_entry t (e ∷ es) h = by (t e.0) (keyed-remove_entry t es h.1)
  where
    by : (b : Bool) → AreAtTheirPaths (remove_entry t es) → AreAtTheirPaths (cond b es (e ∷ remove_entry t es))
    by true rest = h.1
    by false rest = (h.0, rest)

keyed-set_value : (t : List ℕ → Bool) (id : List ℕ) (es : List (List ℕ × OverrideData)) (o : OverrideData) → AreAtTheirPaths es → lookup t es ≡ Some o → AreAtTheirPaths (set_value t es (with_mod_id id o))
keyed-set_value t id [] o h some = cc
keyed-set_value t id (e ∷ es) o h some = by (t e.0) some (keyed-set_value t id es o h.1)
  where
    by : (b : Bool) → cond b (Some e.1) (lookup t es) ≡ Some o → (lookup t es ≡ Some o → AreAtTheirPaths (set_value t es (with_mod_id id o)))
        → AreAtTheirPaths (cond b ((e.0, with_mod_id id o) ∷ es) (e ∷ set_value t es (with_mod_id id o)))
    by true here rest = let same : e.1 ≡ o = cc in (h.0 ∙ ap (λ x. x.path) same, h.1)
    by false here rest = (h.0, rest here)

pub keyed-with_value : (path id : List ℕ) (es : List (List ℕ × OverrideData)) → AreAtTheirPaths es → AreAtTheirPaths (with_value path (with_mod_id id) es)
keyed-with_value path id es h = by (value_at path es) refl
  where
    by : (o : Option OverrideData) → value_at path es ≡ o → AreAtTheirPaths (with_value path (with_mod_id id) es)
    by None e = subst AreAtTheirPaths (sym (with_value-None path (with_mod_id id) es e)) h
    by (Some o) e = subst AreAtTheirPaths (sym (with_value-Some path (with_mod_id id) es o e)) (keyed-set_value (bytes_eq path) id es o h e)
