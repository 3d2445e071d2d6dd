-- What is in a list, and where.
use Rattle.std.proofs.Common.{◌≡◌, ◌<◌, ◌⊎◌, inl, inr, ℕ, ◌+◌, List, [], ◌∷◌, Bool, true, false, ◌||◌, nat_eq, take, Contains, length, get_or, refl, sym, ap, subst, ◌∙◌}
use Rattle.std.specs.List.{list_any}
use Rattle.std.proofs.lemmas.List.{take_more}
use Rattle.std.proofs.lemmas.List.Elements.{Contains-get_or, Contains-push_cases}
use Rattle.std.specs.Cmp.{nat_eq_equiv}
use Rattle.list_laws.proofs.Texts.{number_in-from_any, any-from_number_in}
use Rattle.load_order.specs.Counts.{has}

pub not_in : (list : List ℕ) (y : ℕ) → has list y ≡ false → Contains list y → ⊥
not_in list y h l = let e = any-from_number_in list y l in cc

pub has_not : (list : List ℕ) (y : ℕ) → (Contains list y → ⊥) → has list y ≡ false
has_not list y h = by (has list y) refl
  where
    by : (b : Bool) → has list y ≡ b → has list y ≡ false
    by true e = absurd (h (number_in-from_any list y e))
    by false e = e

pub any_has : (list : List ℕ) (q : ℕ) → list_any (λ y. nat_eq y q) list ≡ has list q
any_has [] q = refl
any_has (x ∷ xs) q = ap (λ b. b || list_any (λ y. nat_eq y q) xs) (nat_eq_equiv.symm x q) ∙ ap (λ b. nat_eq q x || b) (any_has xs q)

-- an edge to the node from one that isn't in front
pub not_free : (es : List (ℕ × ℕ)) (i node : ℕ) (front : List ℕ) → i < length es → (get_or es i (0, 0)).1 ≡ node → list_any (λ y. nat_eq y (get_or es i (0, 0)).0) front ≡ false
    → ((a : ℕ) → Contains es (a, node) → Contains front a) → ⊥
not_free es i node front l to out all =
    let e = get_or es i (0, 0) in
    let at : Contains es (e.0, node) = subst (λ n. Contains es (e.0, n)) to (Contains-get_or es i (0, 0) l) in
    not_in front e.0 (sym (any_has front e.0) ∙ out) (all e.0 at)

-- one more edge
pub free_more : (es : List (ℕ × ℕ)) (i node : ℕ) (front : List ℕ) → i < length es → ((get_or es i (0, 0)).1 ≡ node → list_any (λ y. nat_eq y (get_or es i (0, 0)).0) front ≡ true)
    → ((a : ℕ) → Contains (take i es) (a, node) → Contains front a) → (a : ℕ) → Contains (take (i + 1) es) (a, node) → Contains front a
free_more es i node front l on all a at = by (Contains-push_cases (take i es) e (a, node) (subst (λ t. Contains t (a, node)) (take_more es i (0, 0) l) at))
  where
    e : ℕ × ℕ
    e = get_or es i (0, 0)

    by : Contains (take i es) (a, node) ⊎ (e ≡ (a, node)) → Contains front a
    by (inl h) = all a h
    by (inr h) = number_in-from_any front a (ap (has front) (sym (ap (λ q. q.0) h)) ∙ sym (any_has front e.0) ∙ on (ap (λ q. q.1) h))
