-- The first fault of several, one after another, and the exits of a `?`.
use Rattle.std.proofs.Common.{◌≡◌, ℕ, true, false, nat_eq, List, [], ◌∷◌, ◌++◌, Option, None, Some, Result, Ok, Err, refl, ap, sym, subst, ◌∙◌}
use Rattle.std.specs.Result.{IsErrAnd, IfErr}
use Rattle.std.specs.Option.{option_or}
use Rattle.std.specs.List.{list_any}
use Rattle.std.specs.Cmp.Lexicographic.{pointwise}
use Rattle.toml.specs.Data.{Data}
use Rattle.profile_toml.specs.declared.error.ProfileError.{ProfileError}
use Rattle.profile_toml.specs.declared.error.ProfileError.TheVariants.{Memory}
use Rattle.fault_count.specs.Causes.{Explains}
use Rattle.profile_toml.specs.Faults.{Reads, ReadsBy, ReadsMore, fault_if}
use Rattle.profile_toml.specs.Texts.{text_at, text_fault}

pub or_at : (f g : Option ProfileError) (e : ProfileError) → f ≡ Some e → option_or f g ≡ Some e
or_at f g e h = ap (λ o. option_or o g) h

pub or_past : (f g : Option ProfileError) → f ≡ None → option_or f g ≡ g
or_past f g h = ap (λ o. option_or o g) h

pub Reads-err : {A : Type 0} (fault : Option ProfileError) (value : A) (r : Result A ProfileError) (e : ProfileError) → IsErrAnd r (λ x. x ≡ e) → Explains Memory fault e → Reads fault value r
Reads-err fault value (Ok x) e h g = absurd h
Reads-err fault value (Err x) e h g = subst (λ y. Explains Memory fault y) (sym h) g

pub ReadsBy-err : {A B : Type 0} (part : A → B) (fault : Option ProfileError) (value : B) (r : Result A ProfileError) (e : ProfileError) → IsErrAnd r (λ x. x ≡ e) → Explains Memory fault e → ReadsBy part fault value r
ReadsBy-err part fault value (Ok x) e h g = absurd h
ReadsBy-err part fault value (Err x) e h g = subst (λ y. Explains Memory fault y) (sym h) g

pub ReadsMore-err : {A B : Type 0} (fault : Option ProfileError) (old : List B) (item : B) (new : List B) (r : Result A ProfileError) (e : ProfileError) → IsErrAnd r (λ x. x ≡ e) → Explains Memory fault e → ReadsMore fault old item new r
ReadsMore-err fault old item new (Ok x) e h g = absurd h
ReadsMore-err fault old item new (Err x) e h g = subst (λ y. Explains Memory fault y) (sym h) g

-- want of memory explains itself
pub memory_explains : (fault : Option ProfileError) → Explains Memory fault Memory
memory_explains fault n = absurd (n refl)

-- the fault of a table with a key that may stand once among earlier ones
module _ (bad : List ℕ → Option ProfileError) (at : List ℕ) (d : Option Data) (same : List ℕ → ProfileError) (earlier : List (List ℕ)) (rest : Option ProfileError) (id : List ℕ) where
  abbrev pub keyed_first : Option ProfileError
  keyed_first = option_or (text_fault bad at d) (option_or (fault_if (list_any (pointwise nat_eq (text_at d)) earlier) (same (text_at d))) rest)

  module _ (none : text_fault bad at d ≡ None) (is : id ≡ text_at d) where
    keyed_past : keyed_first ≡ option_or (fault_if (list_any (pointwise nat_eq id) earlier) (same id)) rest
    keyed_past =
        or_past (text_fault bad at d) (option_or (fault_if (list_any (pointwise nat_eq (text_at d)) earlier) (same (text_at d))) rest) none
        ∙ ap (λ k. option_or (fault_if (list_any (pointwise nat_eq k) earlier) (same k)) rest) (sym is)

    -- the key stood earlier
    pub keyed_same : list_any (pointwise nat_eq id) earlier ≡ true → keyed_first ≡ Some (same id)
    keyed_same h = keyed_past ∙ ap (λ b. option_or (fault_if b (same id)) rest) h

    -- the key is new
    pub keyed_new : list_any (pointwise nat_eq id) earlier ≡ false → keyed_first ≡ rest
    keyed_new h = keyed_past ∙ ap (λ b. option_or (fault_if b (same id)) rest) h
