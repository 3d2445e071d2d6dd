-- The enabled mods among those seen so far.
use Rattle.std.proofs.Common.{◌≡◌, ◌<◌, ◌≤◌, ℕ, Bool, true, false, cond, List, [], ◌∷◌, ◌++◌, map, length, refl, sym, ap, ◌∙◌, arith, append-nil}
use Rattle.std.specs.Prelude.{slice_get}
use Rattle.std.specs.List.{AllByRecursion, IsDistinct}
use Rattle.std.specs.declared.option.Option.TheVariants.{Some}
use Rattle.std.proofs.lemmas.List.{map-append, length-append, length-map}
use Rattle.profile_toml.specs.Records.{ModData}
use Rattle.mod_rules.specs.Nodes.{enabled_of}

abbrev Entry : Type 0
Entry = List ℕ × ModData

pub enabled_on : (ys : List Entry) (m : Entry) (zs : List Entry) → m.1.enabled ≡ true → enabled_of (ys ++ m ∷ zs) ≡ enabled_of ys ++ m ∷ enabled_of zs
enabled_on [] m zs on = ap (λ b. cond b (m ∷ enabled_of zs) (enabled_of zs)) on
enabled_on (y ∷ ys) m zs on = by y.1.enabled (enabled_on ys m zs on)
  where
    by : (b : Bool) → enabled_of (ys ++ m ∷ zs) ≡ enabled_of ys ++ m ∷ enabled_of zs → cond b (y ∷ enabled_of (ys ++ m ∷ zs)) (enabled_of (ys ++ m ∷ zs)) ≡ cond b (y ∷ enabled_of ys) (enabled_of ys) ++ m ∷ enabled_of zs
    by true e = ap (λ l. y ∷ l) e
    by false e = e

pub enabled_off : (ys : List Entry) (m : Entry) (zs : List Entry) → m.1.enabled ≡ false → enabled_of (ys ++ m ∷ zs) ≡ enabled_of ys ++ enabled_of zs
enabled_off [] m zs off = ap (λ b. cond b (m ∷ enabled_of zs) (enabled_of zs)) off
enabled_off (y ∷ ys) m zs off = by y.1.enabled (enabled_off ys m zs off)
  where
    by : (b : Bool) → enabled_of (ys ++ m ∷ zs) ≡ enabled_of ys ++ enabled_of zs → cond b (y ∷ enabled_of (ys ++ m ∷ zs)) (enabled_of (ys ++ m ∷ zs)) ≡ cond b (y ∷ enabled_of ys) (enabled_of ys) ++ enabled_of zs
    by true e = ap (λ l. y ∷ l) e
    by false e = e

pub get_seam : {X : Type 0} (xs : List X) (x : X) (ys : List X) → slice_get (xs ++ x ∷ ys) (length xs) ≡ Some x
get_seam [] x ys = refl
get_seam (z ∷ xs) x ys = get_seam xs x ys

-- what is told of an enabled mod, at its node
pub told_at : {X : Type 0} (f : Entry → X) (all ys : List Entry) (m : Entry) (zs : List Entry) → all ≡ ys ++ m ∷ zs → m.1.enabled ≡ true → slice_get (map f (enabled_of all)) (length (enabled_of ys)) ≡ Some (f m)
told_at f all ys m zs is on =
    let split : map f (enabled_of all) ≡ map f (enabled_of ys) ++ f m ∷ map f (enabled_of zs) = ap (λ l. map f (enabled_of l)) is ∙ ap (map f) (enabled_on ys m zs on) ∙ map-append f (enabled_of ys) (m ∷ enabled_of zs) in
    ap (λ n. slice_get (map f (enabled_of all)) n) (sym (length-map (enabled_of ys) f)) ∙ ap (λ l. slice_get l (length (map f (enabled_of ys)))) split ∙ get_seam (map f (enabled_of ys)) (f m) (map f (enabled_of zs))

-- so many enabled mods stand before one
pub node_within : (all ys : List Entry) (m : Entry) (zs : List Entry) → all ≡ ys ++ m ∷ zs → m.1.enabled ≡ true → length (enabled_of ys) < length (enabled_of all)
node_within all ys m zs is on =
    let size = ap length (ap enabled_of is ∙ enabled_on ys m zs on) ∙ length-append (enabled_of ys) (m ∷ enabled_of zs) in
    omega (arith, size)

-- no more are enabled than there are
pub few_nodes : (all : List Entry) → length (enabled_of all) ≤ length all
few_nodes [] = omega arith
few_nodes (m ∷ ms) = by m.1.enabled (few_nodes ms)
  where
    by : (b : Bool) → length (enabled_of ms) ≤ length ms → length (cond b (m ∷ enabled_of ms) (enabled_of ms)) ≤ length (m ∷ ms)
    by true rest = omega (arith, rest)
    by false rest = omega (arith, rest)

-- the ids of the enabled mods, with one mod more
pub ids_on : (ys all : List Entry) (m : Entry) (old new : List (List ℕ)) (x : List ℕ) → all ≡ ys ++ m ∷ [] → m.1.enabled ≡ true → new ≡ old ++ x ∷ [] → x ≡ m.0 → old ≡ map (λ (e : Entry). e.0) (enabled_of ys) → new ≡ map (λ (e : Entry). e.0) (enabled_of all)
ids_on ys all m old new x is on pushed id so_far =
    pushed ∙ (λ i. so_far i ++ id i ∷ []) ∙ sym (ap (λ l. map (λ (e : Entry). e.0) (enabled_of l)) is ∙ ap (map (λ (e : Entry). e.0)) (enabled_on ys m [] on) ∙ map-append (λ (e : Entry). e.0) (enabled_of ys) (m ∷ []))

pub ids_off : (ys all : List Entry) (m : Entry) (old : List (List ℕ)) → all ≡ ys ++ m ∷ [] → m.1.enabled ≡ false → old ≡ map (λ (e : Entry). e.0) (enabled_of ys) → old ≡ map (λ (e : Entry). e.0) (enabled_of all)
ids_off ys all m old is off so_far = so_far ∙ sym (ap (λ l. map (λ (e : Entry). e.0) (enabled_of l)) is ∙ ap (map (λ (e : Entry). e.0)) (enabled_off ys m [] off ∙ append-nil (enabled_of ys)))

-- ids that differ do so where some are left out
all_ids : (P : List ℕ → Type 0) (es : List Entry) → AllByRecursion P (map (λ (e : Entry). e.0) es) → AllByRecursion P (map (λ (e : Entry). e.0) (enabled_of es))
all_ids P [] all = tt
all_ids P (m ∷ ms) all = by m.1.enabled (all_ids P ms all.1)
  where
    by : (b : Bool) → AllByRecursion P (map (λ (e : Entry). e.0) (enabled_of ms)) → AllByRecursion P (map (λ (e : Entry). e.0) (cond b (m ∷ enabled_of ms) (enabled_of ms)))
    by true rest = (all.0, rest)
    by false rest = rest

pub distinct_ids : (eq : List ℕ → List ℕ → Bool) (es : List Entry) → IsDistinct eq (map (λ (e : Entry). e.0) es) → IsDistinct eq (map (λ (e : Entry). e.0) (enabled_of es))
unfolding IsDistinct
distinct_ids eq [] d = tt
distinct_ids eq (m ∷ ms) d = by m.1.enabled (distinct_ids eq ms d.1)
  where
    by : (b : Bool) → IsDistinct eq (map (λ (e : Entry). e.0) (enabled_of ms)) → IsDistinct eq (map (λ (e : Entry). e.0) (cond b (m ∷ enabled_of ms) (enabled_of ms)))
    by true rest = (all_ids (λ y. eq m.0 y ≡ false) ms d.0, rest)
    by false rest = rest
