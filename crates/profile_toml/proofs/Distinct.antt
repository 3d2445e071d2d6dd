-- Lists whose items have keys that differ: no fault comes of an earlier key.
use Rattle.std.proofs.Common.{◌≡◌, ℕ, ◌+◌, Bool, true, false, ◌||◌, nat_eq, List, [], ◌∷◌, ◌++◌, Option, None, length, map, take, refl, ap, sym, subst, ◌∙◌, append_assoc, arith}
use Rattle.std.specs.List.{AllByRecursion, IsDistinct, list_any}
use Rattle.std.specs.Option.{option_or}
use Rattle.std.specs.Cmp.Lexicographic.{pointwise, nat_list_eq_equiv}
use Rattle.std.proofs.lemmas.List.{map-append}
use Rattle.list_laws.proofs.Distinct.{not_earlier}
use Rattle.toml.specs.Data.{Data}
use Rattle.profile_toml.specs.declared.error.ProfileError.{ProfileError}
use Rattle.profile_toml.specs.Faults.{first_fault, keyed_fault}
use Rattle.profile_toml.proofs.Readers.{length-last}

module _ {X : Type 0} (printed : X → Data) (key : X → List ℕ) (key_in : Data → List ℕ) (reads : (x : X) → key_in (printed x) ≡ key x) where
  earlier_keys : (done rest : List X) → map key_in (take (length done) (map printed (done ++ rest))) ≡ map key done
  earlier_keys [] rest = refl
  earlier_keys (x ∷ xs) rest = λ i. reads x i ∷ earlier_keys xs rest i

  module _ (P : X → Type 0) (fault : List (List ℕ) → ℕ → Data → Option ProfileError)
      (none : (x : X) (earlier : List (List ℕ)) (n : ℕ) → P x → list_any (pointwise nat_eq (key x)) earlier ≡ false → fault earlier n (printed x) ≡ None) where
    none_from : (done rest : List X) → AllByRecursion P rest → IsDistinct (pointwise nat_eq) (map key (done ++ rest))
        → first_fault (λ n d. fault (map key_in (take n (map printed (done ++ rest)))) n d) (length done) (map printed rest) ≡ None
    none_from done [] h distinct = refl
    none_from done (x ∷ xs) h distinct =
        let f : ℕ → Data → Option ProfileError = λ n d. fault (map key_in (take n (map printed (done ++ x ∷ xs)))) n d in
        let apart : list_any (pointwise nat_eq (key x)) (map key done) ≡ false = not_earlier (pointwise nat_eq) nat_list_eq_equiv.symm (map key done) (key x) (map key xs) (subst (IsDistinct (pointwise nat_eq)) (map-append key done (x ∷ xs)) distinct) in
        let here : f (length done) (printed x) ≡ None = ap (λ ks. fault ks (length done) (printed x)) (earlier_keys done (x ∷ xs)) ∙ none x (map key done) (length done) h.0 apart in
        let moved : (done ++ x ∷ []) ++ xs ≡ done ++ x ∷ xs = append_assoc done (x ∷ []) xs in
        let rest = none_from (done ++ x ∷ []) xs h.1 (subst (λ l. IsDistinct (pointwise nat_eq) (map key l)) (sym moved) distinct) in
        ap (λ o. option_or o (first_fault f (length done + 1) (map printed xs))) here
        ∙ (λ i. first_fault (λ n d. fault (map key_in (take n (map printed (sym moved i)))) n d) (sym (length-last done x) i) (map printed xs)) ∙ rest

    pub none_at_all : (xs : List X) → AllByRecursion P xs → IsDistinct (pointwise nat_eq) (map key xs)
        → keyed_fault fault key_in (map printed xs) ≡ None
    none_at_all xs h distinct = none_from [] xs h distinct
