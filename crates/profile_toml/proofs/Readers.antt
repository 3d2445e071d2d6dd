-- A loop that reads the items of an array one after another.
use Rattle.std.proofs.Common.{◌≡◌, ℕ, ◌+◌, List, [], ◌∷◌, ◌++◌, Option, None, Some, Result, Ok, Err, zero, suc, length, map, take, refl, ap, sym, subst, ◌∙◌, append_assoc, append-nil, length-append, arith}
use Rattle.std.specs.List.{AllByRecursion}
use Rattle.std.specs.Map.{keys_of}
use Rattle.std.specs.Option.{option_or}
use Rattle.std.specs.Result.{IsErrAnd}
use Rattle.toml.specs.Data.{Data}
use Rattle.toml.specs.View.{view, items_view}
use Rattle.toml.specs.declared.value.Value.{Value}
use Rattle.profile_toml.specs.declared.error.ProfileError.{ProfileError}
use Rattle.profile_toml.specs.declared.error.ProfileError.TheVariants.{Memory}
use Rattle.fault_count.specs.Causes.{Explains}
use Rattle.profile_toml.specs.Faults.{ReadsBy, first_fault, keyed_fault}
use Rattle.profile_toml.specs.Sound.{IsSound}
use Rattle.profile_toml.specs.Texts.{list_of}
use Rattle.profile_toml.proofs.Chains.{ReadsBy-err}

pub list_of-view : (vs : List Value) → list_of (items_view vs) ≡ map view vs
list_of-view [] = refl
list_of-view (v ∷ vs) = ap (λ l. view v ∷ l) (list_of-view vs)

pub length-last : {X : Type 0} (xs : List X) (x : X) → length (xs ++ x ∷ []) ≡ length xs + 1
length-last xs x = omega (arith, length-append xs (x ∷ []))

-- what is read so far of the items `all`, where `left` are to come: each item has this fault and
-- this value
pub record IsReading {B : Type 0} (fault : ℕ → Data → Option ProfileError) (value : Data → B) (most : ℕ) (all : List Data) (left : List Value) (made : List B) : Type 0 where
  pub made_is : made ++ map value (map view left) ≡ map value all
  pub scanned : first_fault fault (length made) (map view left) ≡ first_fault fault 0 all
  pub sound : AllByRecursion (IsSound most) (map view left)

module _ {B : Type 0} (fault : ℕ → Data → Option ProfileError) (value : Data → B) (most : ℕ) where
  pub begins : (vs left : List Value) (made : List B) → left ≡ vs → made ≡ [] → AllByRecursion (IsSound most) (list_of (items_view vs)) → IsReading fault value most (list_of (items_view vs)) left made
  begins vs left made l m sound =
      let all : list_of (items_view vs) ≡ map view left = list_of-view vs ∙ ap (map view) (sym l) in
      record {
        made_is = ap (λ x. x ++ map value (map view left)) m ∙ ap (map value) (sym all);
        scanned = (λ i. first_fault fault (length (m i)) (sym all i));
        sound = subst (AllByRecursion (IsSound most)) all sound;
      }

  module _ (all : List Data) (left rest : List Value) (v : Value) (made : List B) (step : left ≡ v ∷ rest) (h : IsReading fault value most all left made) where
    pub next_sound : IsSound most (view v)
    next_sound = (subst (λ l. AllByRecursion (IsSound most) (map view l)) step h.sound).0

    pub stops : {A : Type 0} (part : A → List B) (r : Result A ProfileError) (e : ProfileError) → IsErrAnd r (λ x. x ≡ e) → Explains Memory (fault (length made) (view v)) e
        → ReadsBy part (first_fault fault 0 all) (map value all) r
    stops part r e is why =
        ReadsBy-err part (first_fault fault 0 all) (map value all) r e is
        (λ n. sym h.scanned ∙ ap (λ l. first_fault fault (length made) (map view l)) step ∙ ap (λ o. option_or o (first_fault fault (length made + 1) (map view rest))) (why n))

    pub goes_on : (more : List B) → fault (length made) (view v) ≡ None → more ≡ made ++ value (view v) ∷ [] → IsReading fault value most all rest more
    goes_on more none is = record {
      made_is = ap (λ l. l ++ map value (map view rest)) is ∙ append_assoc made (value (view v) ∷ []) (map value (map view rest))
          ∙ ap (λ l. made ++ map value (map view l)) (sym step) ∙ h.made_is;
      scanned = ap (λ n. first_fault fault n (map view rest)) (ap length is ∙ length-last made (value (view v)))
          ∙ ap (λ o. option_or o (first_fault fault (length made + 1) (map view rest))) (sym none)
          ∙ ap (λ l. first_fault fault (length made) (map view l)) (sym step) ∙ h.scanned;
      sound = (subst (λ l. AllByRecursion (IsSound most) (map view l)) step h.sound).1;
    }

  pub ends : (all : List Data) (left : List Value) (made : List B) → left ≡ [] → IsReading fault value most all left made → (first_fault fault 0 all ≡ None) × (made ≡ map value all)
  ends all left made none h = (
    sym h.scanned ∙ ap (λ l. first_fault fault (length made) (map view l)) none,
    sym (append-nil made) ∙ ap (λ l. made ++ map value (map view l)) (sym none) ∙ h.made_is,
  )

take-append : {X : Type 0} (xs ys zs : List X) → xs ++ ys ≡ zs → xs ≡ take (length xs) zs
take-append [] ys zs h = refl
take-append (x ∷ xs) ys zs h = subst (λ l. (x ∷ xs) ≡ take (length (x ∷ xs)) l) h (ap (λ l. x ∷ l) (take-append xs ys (xs ++ ys) refl))

keys-map : {V : Type 0} (key : Data → List ℕ) (value : Data → V) (ds : List Data) → keys_of (map (λ d. (key d, value d)) ds) ≡ map key ds
keys-map key value [] = refl
keys-map key value (d ∷ ds) = ap (λ l. key d ∷ l) (keys-map key value ds)

take-map : {X Y : Type 0} (f : X → Y) (n : ℕ) (xs : List X) → take n (map f xs) ≡ map f (take n xs)
take-map f zero xs = refl
take-map f (suc n) [] = refl
take-map f (suc n) (x ∷ xs) = ap (λ l. f x ∷ l) (take-map f n xs)

-- the keys of what is read so far are those of the items so far
pub earlier_keys : {V : Type 0} (key : Data → List ℕ) (value : Data → V) (all : List Data) (left : List Value) (made : List (List ℕ × V)) → made ++ map (λ d. (key d, value d)) (map view left) ≡ map (λ d. (key d, value d)) all
    → keys_of made ≡ map key (take (length made) all)
earlier_keys key value all left made h =
    ap keys_of (take-append made (map (λ d. (key d, value d)) (map view left)) (map (λ d. (key d, value d)) all) h ∙ take-map (λ d. (key d, value d)) (length made) all)
    ∙ keys-map key value (take (length made) all)

-- the same where the fault of an item goes by the keys of the items before it
module _ {V : Type 0} (f : List (List ℕ) → ℕ → Data → Option ProfileError) (key : Data → List ℕ) (value : Data → V) (most : ℕ) (all : List Data) where
  abbrev pub among : ℕ → Data → Option ProfileError
  among n d = f (map key (take n all)) n d

  abbrev entry : Data → List ℕ × V
  entry d = (key d, value d)

  module _ (left rest : List Value) (v : Value) (made : List (List ℕ × V)) (step : left ≡ v ∷ rest) (h : IsReading among entry most all left made) where
    earlier : keys_of made ≡ map key (take (length made) all)
    earlier = earlier_keys key value all left made h.made_is

    pub keyed_stops : {A : Type 0} (part : A → List (List ℕ × V)) (r : Result A ProfileError) (e : ProfileError) → IsErrAnd r (λ x. x ≡ e)
        → Explains Memory (f (keys_of made) (length made) (view v)) e → ReadsBy part (keyed_fault f key all) (map entry all) r
    keyed_stops part r e is why =
        stops among entry most all left rest v made step h part r e is (subst (λ ks. Explains Memory (f ks (length made) (view v)) e) earlier why)

    pub keyed_goes_on : (more : List (List ℕ × V)) → f (keys_of made) (length made) (view v) ≡ None → more ≡ made ++ (key (view v), value (view v)) ∷ [] → IsReading among entry most all rest more
    keyed_goes_on more none is = goes_on among entry most all left rest v made step h more (subst (λ ks. f ks (length made) (view v) ≡ None) earlier none) is
