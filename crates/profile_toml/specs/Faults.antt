-- Faults, and what a reading call answers.
use Rattle.std.specs.Prelude.{◌≡◌, ℕ, ◌+◌, List, [], ◌∷◌, ◌++◌, Bool, Option, None, Some, Result, Ok, Err, map, take, if◌then◌else◌}
use Rattle.std.specs.Option.{option_or}
use Rattle.fault_count.specs.Causes.{Explains}
use Rattle.profile_toml.specs.declared.error.ProfileError.{ProfileError}
use Rattle.profile_toml.specs.declared.error.ProfileError.TheVariants.{Memory}

-- the value where there is no fault, and else the fault or want of memory
abbrev pub Reads : {A : Type 0} → Option ProfileError → A → Result A ProfileError → Type 0
Reads fault value (Ok x) = (fault ≡ None) × (x ≡ value)
Reads fault value (Err e) = Explains Memory fault e

-- the same for a part of what is answered, as a list in a `Vec`
abbrev pub ReadsBy : {A B : Type 0}
    → (A → B) → Option ProfileError → B → Result A ProfileError → Type 0
ReadsBy part fault value (Ok x) = (fault ≡ None) × (part x ≡ value)
ReadsBy part fault value (Err e) = Explains Memory fault e

-- one item more is read after others: it is added where it has no fault
abbrev pub ReadsMore : {A B : Type 0}
    → Option ProfileError → List B → B → List B → Result A ProfileError → Type 0
ReadsMore fault old item new (Ok x) = (fault ≡ None) × (new ≡ old ++ item ∷ [])
ReadsMore fault old item new (Err e) = Explains Memory fault e

-- this fault, where the test holds
abbrev pub fault_if : Bool → ProfileError → Option ProfileError
fault_if test e = if test then Some e else None

-- the first fault in a list, whose items have their indices, counted from n
abbrev pub first_fault : {A E : Type 0} → (ℕ → A → Option E) → ℕ → List A → Option E
first_fault f n [] = None
first_fault f n (x ∷ xs) = option_or (f n x) (first_fault f (n + 1) xs)

-- the first fault in a list, where that of an item goes by the keys of the items before it
abbrev pub keyed_fault : {A : Type 0} → (List (List ℕ) → ℕ → A → Option ProfileError)
    → (A → List ℕ) → List A → Option ProfileError
keyed_fault f key xs = first_fault (λ n x. f (map key (take n xs)) n x) 0 xs
