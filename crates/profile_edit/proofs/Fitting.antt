-- What a profile keeps is kept by the edits of its parts.
use Rattle.std.proofs.Common.{◌≡◌, ◌≢◌, ℕ, suc, List, [], ◌∷◌, ◌++◌, Bool, true, false, cond, nat_eq, if◌then◌else◌, Option, None, Some, Result, Ok, Err, codes, is_some, take, drop, refl, sym, ap, subst, ◌∙◌}
use Rattle.std.specs.Prelude.{MatchBool, remove}
use Rattle.std.specs.List.{AllByRecursion, position_or_len}
use Rattle.std.specs.Map.{lookup, set_value}
use Rattle.std.specs.Str.{bytes_eq}
use Rattle.list_laws.proofs.Alls.{all_append, all_more, all_take, all_drop}
use Rattle.toml.specs.Data.{no_members}
use Rattle.profile_toml.specs.declared.rule.RuleKind.{RuleKind}
use Rattle.profile_toml.specs.Kept.{Fits, FitsMod, FitsRule}
use Rattle.profile_toml.specs.Plain.{plain_mod, plain_rule}
use Rattle.profile_toml.specs.Records.{ProfileData, ModData, RuleData, OverrideData, type_ids}
use Rattle.profile_toml.specs.Tables.{OfMod, OfRule, known_keys}
use Rattle.profile_toml.specs.Unknown.{HaveNone}
use Rattle.profile_edit.specs.declared.error.EditError.{EditError}
use Rattle.profile_edit.specs.Parts.{value_at, with_value, with_enabled, with_rule, without_rule, with_release, is_rule}
use Rattle.profile_edit.specs.declared.error.EditError.TheVariants.{OldProfile}
use Rattle.profile_edit.specs.Edits.{Applies, mods_enabled, release_fault}
use Rattle.profile_edit.proofs.Values.{with_value-None, with_value-Some}

-- what holds of a part before an edit and of the edited part holds of what the edit leaves
pub applied_keeps : {X : Type 0} (P : X → Type 0) (fault : Option EditError) (old changed new : X) (r : Result Bool EditError) → Applies fault old changed new r → P old → P changed → P new
applied_keeps P fault old changed new (Ok d) h was is = subst P (sym h.1) is
applied_keeps P fault old changed new (Err e) h was is = subst P (sym h.1) was

module _ {X : Type 0} (Q : List ℕ × X → Type 0) (f : X → X) (step : (e : List ℕ × X) → Q e → Q (e.0, f e.1)) where
  all-set_value : (t : List ℕ → Bool) (es : List (List ℕ × X)) (v : X) → AllByRecursion Q es → lookup t es ≡ Some v → AllByRecursion Q (set_value t es (f v))
  all-set_value t [] v h some = cc
  all-set_value t (e ∷ es) v h some = by (t e.0) some (all-set_value t es v h.1)
    where
      by : (b : Bool) → cond b (Some e.1) (lookup t es) ≡ Some v → (lookup t es ≡ Some v → AllByRecursion Q (set_value t es (f v)))
          → AllByRecursion Q (cond b ((e.0, f v) ∷ es) (e ∷ set_value t es (f v)))
      by true here rest = let same : e.1 ≡ v = cc in (subst (λ x. Q (e.0, f x)) same (step e h.0), h.1)
      by false here rest = (h.0, rest here)

  all-with_value : (key : List ℕ) (es : List (List ℕ × X)) → AllByRecursion Q es → AllByRecursion Q (with_value key f es)
  all-with_value key es h = by (value_at key es) refl
    where
      by : (o : Option X) → value_at key es ≡ o → AllByRecursion Q (with_value key f es)
      by None e = subst (AllByRecursion Q) (sym (with_value-None key f es e)) h
      by (Some v) e = subst (AllByRecursion Q) (sym (with_value-Some key f es v e)) (all-set_value (bytes_eq key) es v h e)

all_remove : {X : Type 0} (P : X → Type 0) (xs : List X) (i : ℕ) → AllByRecursion P xs → AllByRecursion P (remove xs i)
all_remove P xs i h = all_append P (take i xs) (drop (suc i) xs) (all_take P i xs h) (all_drop P (suc i) xs h)

none_in : (b : Bool) (ks ls : List (List ℕ)) → HaveNone ks no_members → HaveNone ls no_members → HaveNone ((if b then [] else ks) ++ ls) no_members
none_in true ks ls h g = g
none_in false [] ls h g = g
none_in false (k ∷ ks) ls h g = (h.0, none_in false ks ls h.1 g)

fits_plain_rule : (version : ℕ) (kind : RuleKind) (refers : List ℕ) → FitsRule version (plain_rule kind refers)
fits_plain_rule version kind refers = record { range = λ one. refl; extra = (refl, (refl, none_if (nat_eq version 1))) }
  where
    none_if : (b : Bool) → HaveNone (if b then [] else codes "range" ∷ []) no_members
    none_if true = tt
    none_if false = (refl, tt)

fits_plain_mod : (version : ℕ) (ids : List (List ℕ)) (enabled : Bool) → FitsMod version ids (plain_mod enabled)
fits_plain_mod version ids enabled = record {
  release = λ one. refl;
  mod_type = tt;
  rules = tt;
  extra = (refl, (refl, none_in (nat_eq version 1) (codes "release" ∷ codes "type" ∷ []) (codes "rules" ∷ []) (refl, (refl, tt)) (refl, tt)));
}

module _ (version : ℕ) (ids : List (List ℕ)) where
  abbrev pub FitsAll : List (List ℕ × ModData) → Type 0
  FitsAll mods = AllByRecursion (λ m. FitsMod version ids m.1) mods

  pub fits_enabled : (enabled : Bool) (id : List ℕ) (mods : List (List ℕ × ModData)) → FitsAll mods → FitsAll (with_value id (with_enabled enabled) mods)
  fits_enabled enabled id mods h =
      all-with_value (λ m. FitsMod version ids m.1) (with_enabled enabled)
      (λ m fits. record { release = fits.release; mod_type = fits.mod_type; rules = fits.rules; extra = fits.extra }) id mods h

  pub fits_all_enabled : (id : List ℕ) (mods : List (List ℕ × ModData)) → FitsAll mods → FitsAll (mods_enabled id mods)
  fits_all_enabled id mods h = by (is_some (value_at id mods))
    where
      by : (b : Bool) → FitsAll (cond b (with_value id (with_enabled true) mods) (mods ++ (id, plain_mod true) ∷ []))
      by true = fits_enabled true id mods h
      by false = all_more (λ m. FitsMod version ids m.1) mods (id, plain_mod true) h (fits_plain_mod version ids true)

  pub fits_rule : (kind : RuleKind) (refers id : List ℕ) (mods : List (List ℕ × ModData)) → FitsAll mods → FitsAll (with_value id (with_rule kind refers) mods)
  fits_rule kind refers id mods h =
      all-with_value (λ m. FitsMod version ids m.1) (with_rule kind refers)
      (λ m fits. record { release = fits.release; mod_type = fits.mod_type; rules = all_more (FitsRule version) m.1.rules (plain_rule kind refers) fits.rules (fits_plain_rule version kind refers); extra = fits.extra }) id mods h

  pub fits_no_rule : (kind : RuleKind) (refers id : List ℕ) (mods : List (List ℕ × ModData)) → FitsAll mods → FitsAll (with_value id (without_rule kind refers) mods)
  fits_no_rule kind refers id mods h =
      all-with_value (λ m. FitsMod version ids m.1) (without_rule kind refers)
      (λ m fits. record { release = fits.release; mod_type = fits.mod_type; rules = all_remove (FitsRule version) m.1.rules (position_or_len (is_rule kind refers) m.1.rules) fits.rules; extra = fits.extra }) id mods h

  pub fits_release : (version ≡ 1 → ⊥) → (release id : List ℕ) (mods : List (List ℕ × ModData)) → FitsAll mods → FitsAll (with_value id (with_release release) mods)
  fits_release new release id mods h =
      all-with_value (λ m. FitsMod version ids m.1) (with_release release)
      (λ m fits. record { release = λ one. absurd (new one); mod_type = fits.mod_type; rules = fits.rules; extra = fits.extra }) id mods h

-- a profile with other mods, and one with other overrides
pub fits_mods : (p : ProfileData) (mods : List (List ℕ × ModData)) → Fits p → FitsAll p.version (type_ids p.types) mods → Fits (record p { mods = mods })
fits_mods p mods h all = record { version = h.version; types = h.types; ids = h.ids; mods = all; extra = h.extra }

pub fits_overrides : (p : ProfileData) (overrides : List OverrideData) → Fits p → Fits (record p { overrides = overrides })
fits_overrides p overrides h = record { version = h.version; types = h.types; ids = h.ids; mods = h.mods; extra = h.extra }

-- a profile of whose mods an edit leaves these
pub kept_mods : (p : ProfileData) (fault : Option EditError) (changed new : List (List ℕ × ModData)) (r : Result Bool EditError) → Applies fault p.mods changed new r → Fits p → FitsAll p.version (type_ids p.types) changed → Fits (record p { mods = new })
kept_mods p fault changed new r h fits is =
    fits_mods p new fits (applied_keeps (FitsAll p.version (type_ids p.types)) fault p.mods changed new r h fits.mods is)

-- the same of a release, which is refused in version 1
pub kept_release : (p : ProfileData) (id release : List ℕ) (new : List (List ℕ × ModData)) (r : Result Bool EditError)
    → Applies (release_fault p.version id p.mods) p.mods (with_value id (with_release release) p.mods) new r → Fits p → Fits (record p { mods = new })
kept_release p id release new (Err e) h fits = fits_mods p new fits (subst (FitsAll p.version (type_ids p.types)) (sym h.1) fits.mods)
kept_release p id release new (Ok d) h fits =
    let not_1 : p.version ≡ 1 → ⊥ = λ one. let bad : Some OldProfile ≡ None = ap (λ v. release_fault v id p.mods) (sym one) ∙ h.0 in cc in
    fits_mods p new fits (subst (FitsAll p.version (type_ids p.types)) (sym h.1) (fits_release p.version (type_ids p.types) not_1 release id p.mods fits.mods))
