-- No two overrides of a profile that is read are at one path.
use Rattle.std.proofs.Common.{◌≡◌, ℕ, suc, ◌+◌, Bool, true, false, List, [], ◌∷◌, ◌++◌, map, take, length, refl, sym, ap, ◌∙◌, subst, append_assoc, append-nil}
use Rattle.std.specs.Prelude.{Ok, nat_eq, nat_lt, codes}
use Rattle.std.specs.List.{IsDistinct, list_any}
use Rattle.std.specs.Option.{option_or}
use Rattle.std.specs.Cmp.Lexicographic.{pointwise, nat_list_eq_equiv}
use Rattle.std.specs.declared.option.Option.{Option}
use Rattle.std.specs.declared.option.Option.TheVariants.{None, Some}
use Rattle.std.specs.declared.result.Result.{Result}
use Rattle.std.proofs.lemmas.List.{map-append, length-append}
use Rattle.list_laws.proofs.Alls.{all-from_none, all_weaken}
use Rattle.list_laws.proofs.Distinct.{distinct_more}
use Rattle.list_laws.proofs.Lists.{take-seam}
use Rattle.toml.specs.Data.{Data, array, table, Members, get_member}
use Rattle.tree_fs.specs.Disk.{Disk}
use Rattle.profile_toml.specs.declared.error.ProfileError.{ProfileError}
use Rattle.profile_toml.specs.Faults.{fault_if, first_fault}
use Rattle.profile_toml.specs.KeyPaths.{indexed}
use Rattle.profile_toml.specs.Texts.{list_of}
use Rattle.profile_toml.specs.Overrides.{path_in, override_fault, override_value, overrides_fault, overrides_value}
use Rattle.profile_toml.specs.declared.error.ProfileError.TheVariants.{Deep, Float}
use Rattle.profile_toml.specs.Floats.{members_have_float}
use Rattle.profile_toml.specs.Levels.{members_levels}
use Rattle.profile_toml.specs.Mods.{mods_fault}
use Rattle.profile_toml.specs.Types.{types_fault, types_value}
use Rattle.profile_toml.specs.Profiles.{version_at, types_in, fold_fault, parts_fault, versioned_fault, document_of, document_fault, document_value, bytes_fault, profile_or, profile_of}
use Rattle.profile_toml.specs.Records.{ProfileData, OverrideData, type_ids}
use Rattle.desk_model.specs.Records.{profile_text}
use Rattle.command_steps.specs.Profiles.{ReadsAs, HasProfile}

abbrev Differ : List (List ℕ) → Type 0
Differ paths = IsDistinct (pointwise nat_eq) paths

neither : {X : Type 0} (a b : Option X) → option_or a b ≡ None → (a ≡ None) × (b ≡ None)
neither None b e = (refl, e)
neither (Some x) b e = cc

no_test : (test : Bool) (e : ProfileError) → fault_if test e ≡ None → test ≡ false
no_test true e is = cc
no_test false e is = refl

-- an override without a fault is at no earlier path
not_earlier : (earlier : List (List ℕ)) (at : List ℕ) (d : Data) → override_fault earlier at d ≡ None → list_any (pointwise nat_eq (path_in d)) earlier ≡ false
not_earlier earlier at (table ms) e = no_test _ _ (neither _ _ (neither _ _ e).1).0
not_earlier earlier at _ e = cc

module _ (all : List Data) where
  fault_at : ℕ → Data → Option ProfileError
  fault_at n d = override_fault (map path_in (take n all)) (indexed (codes "overrides") n) d

  differ_from : (done rest : List Data) → all ≡ done ++ rest → first_fault fault_at (length done) rest ≡ None → Differ (map path_in done) → Differ (map path_in all)
  unfolding fault_at
  differ_from done [] is none so_far = subst (λ l. Differ (map path_in l)) (sym (append-nil done) ∙ sym is) so_far
  differ_from done (x ∷ rest) is none so_far =
      let both = neither (fault_at (length done) x) (first_fault fault_at (length done + 1) rest) none in
      let front : take (length done) all ≡ done = ap (take (length done)) is ∙ take-seam done (x ∷ rest) in
      let apart : list_any (pointwise nat_eq (path_in x)) (map path_in done) ≡ false =
      subst (λ l. list_any (pointwise nat_eq (path_in x)) (map path_in l) ≡ false) front (not_earlier (map path_in (take (length done) all)) (indexed (codes "overrides") (length done)) x both.0) in
      let each = all_weaken (λ y. pointwise nat_eq (path_in x) y ≡ false) (λ y. pointwise nat_eq y (path_in x) ≡ false) (map path_in done) (λ y e. nat_list_eq_equiv.symm y (path_in x) ∙ e) (all-from_none (pointwise nat_eq (path_in x)) (map path_in done) apart) in
      let more : Differ (map path_in (done ++ x ∷ [])) = subst Differ (sym (map-append path_in done (x ∷ []))) (distinct_more (pointwise nat_eq) (map path_in done) (path_in x) so_far each) in
      let size : length done + 1 ≡ length (done ++ x ∷ []) = sym (length-append done (x ∷ [])) in
      differ_from (done ++ x ∷ []) rest (is ∙ sym (append_assoc done (x ∷ []) rest)) (subst (λ n. first_fault fault_at n rest ≡ None) size both.1) more

paths_made : (ds : List Data) → map (λ (o : OverrideData). o.path) (map override_value ds) ≡ map path_in ds
paths_made [] = refl
paths_made (d ∷ ds) = ap (λ l. path_in d ∷ l) (paths_made ds)

differ_in : (o : Option Data) → overrides_fault o ≡ None → Differ (map (λ (v : OverrideData). v.path) (overrides_value o))
unfolding IsDistinct fault_at
differ_in None e = tt
differ_in (Some (array ds)) e = subst Differ (sym (paths_made (list_of ds))) (differ_from (list_of ds) [] (list_of ds) refl e tt)
differ_in (Some _) e = cc

no_version : (v : Option ℕ) (ms : Members) → versioned_fault v ms ≡ None → overrides_fault (get_member (codes "overrides") ms) ≡ None
no_version None ms e = cc
no_version (Some version) ms e =
    let mods = mods_fault version (type_ids (types_value (types_in version ms))) (get_member (codes "mods") ms) in
    let overrides = overrides_fault (get_member (codes "overrides") ms) in
    let parts = (neither (fold_fault version ms) (parts_fault version ms) e).1 in
    (neither mods overrides (neither (types_fault (types_in version ms)) (option_or mods overrides) parts).1).1

of_ok : (p q : ProfileData) → ◌≡◌ {A = Result ProfileData ProfileError} (Ok p) (Ok q) → q ≡ p
of_ok p q e = let same : p ≡ q = cc in sym same

module _ (p : ProfileData) where
  differ_document : (ms : Members) (fault : Option ProfileError) → document_fault ms ≡ fault → ◌≡◌ {A = Result ProfileData ProfileError} (Ok p) (profile_or fault (Some ms)) → Differ (map (λ (o : OverrideData). o.path) p.overrides)
  differ_document ms None none is =
      let versioned = versioned_fault (version_at (get_member (codes "version") ms)) ms in
      let float = fault_if (members_have_float ms) Float in
      let deep = fault_if (nat_lt 64 (suc (members_levels ms))) Deep in
      let no_fault = no_version (version_at (get_member (codes "version") ms)) ms (neither float versioned (neither deep (option_or float versioned) none).1).1 in
      subst (λ (q : ProfileData). Differ (map (λ (o : OverrideData). o.path) q.overrides)) (of_ok p (document_value ms) is) (differ_in (get_member (codes "overrides") ms) no_fault)
  differ_document ms (Some e) some is = cc

  differ_text : (found : Option Members) → ◌≡◌ {A = Result ProfileData ProfileError} (Ok p) (profile_or (bytes_fault found) found) → Differ (map (λ (o : OverrideData). o.path) p.overrides)
  differ_text None is = cc
  differ_text (Some ms) is = differ_document ms (document_fault ms) refl is

  differ_by : (d : Disk) (text : Option (List ℕ)) → ReadsAs d text (Ok p) → Differ (map (λ (o : OverrideData). o.path) p.overrides)
  unfolding profile_of IsDistinct
  differ_by d (Some bytes) is = differ_text (document_of bytes) is
  differ_by d None is = subst (λ (q : ProfileData). Differ (map (λ (o : OverrideData). o.path) q.overrides)) (of_ok p _ is.2) tt

pub paths_differ : (d : Disk) (p : ProfileData) → HasProfile d p → IsDistinct (pointwise nat_eq) (map (λ (o : OverrideData). o.path) p.overrides)
paths_differ d p has = differ_by p d (profile_text d) has
