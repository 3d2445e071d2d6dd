-- A list is lawful exactly where each of its nodes may come next, and each node is in it.
use Rattle.std.proofs.Common.{◌≡◌, ◌<◌, ℕ, ◌+◌, List, ◌∷◌, ◌++◌, true, false, nat_eq, Contains, length, get_or, take, drop, refl, sym, ap, subst, ◌∙◌, arith}
use Rattle.std.specs.List.{list_any}
use Rattle.std.proofs.lemmas.List.{take-append-drop, drop_more, get_or_at, take_at, length-append, get_or_default}
use Rattle.mod_rules.specs.Edges.{GraphData}
use Rattle.load_order.specs.Orders.{IsLawful, MayComeNext}
use Rattle.list_laws.proofs.Texts.{number_in-from_any}
use Rattle.load_order.proofs.Members.{any_has, not_in}
use Rattle.load_order.proofs.Orders.{lawful_may}

at_place : (list front : List ℕ) (node : ℕ) (back : List ℕ) → list ≡ front ++ node ∷ back → (length front < length list) × (get_or list (length front) 0 ≡ node) × (take (length front) list ≡ front)
at_place list front node back e =
    let long = ap length e ∙ length-append front (node ∷ back) in
    (omega (arith, long), ap (λ l. get_or l (length front) 0) e ∙ get_or_at front node back 0 (length front) refl, ap (take (length front)) e ∙ take_at front (node ∷ back) (length front) refl)

placed_well : (g : GraphData) (list front : List ℕ) (node : ℕ) (back : List ℕ) → ((k : ℕ) → k < length list → MayComeNext g (take k list) (get_or list k 0)) → list ≡ front ++ node ∷ back → MayComeNext g front node
placed_well g list front node back all e =
    let at = at_place list front node back e in
    subst (λ n. MayComeNext g front n) at.1 (subst (λ l. MayComeNext g l (get_or list (length front) 0)) at.2 (all (length front) at.0))

pub lawful_from : (g : GraphData) (list : List ℕ) → ((k : ℕ) → k < length list → MayComeNext g (take k list) (get_or list k 0)) → ((k : ℕ) → k < g.count → Contains list k) → IsLawful g list
lawful_from g list all every = record {
  every = every;
  only = λ node at. (
      let read : get_or list at.0 0 ≡ node = get_or_default list at.0 0 node at.1 ∙ at.2 in
      let fits = (all at.0 at.1).within in
      omega (arith, read, fits));
  once = λ front node back e. (placed_well g list front node back all e).unplaced;
  ordered = λ a b edge front back e. (placed_well g list front b back all e).free a edge;
}

pub may_from : (g : GraphData) (list : List ℕ) (k : ℕ) → k < length list → IsLawful g list → MayComeNext g (take k list) (get_or list k 0)
may_from g list k l h =
    let e : list ≡ take k list ++ get_or list k 0 ∷ drop (k + 1) list = sym (take-append-drop k list) ∙ ap (λ t. take k list ++ t) (drop_more list k 0 l) in
    lawful_may g (take k list) (get_or list k 0) (drop (k + 1) list) (subst (IsLawful g) e h)

pub listed : (list : List ℕ) (q : ℕ) → list_any (λ y. nat_eq y q) list ≡ true → Contains list q
listed list q h = number_in-from_any list q (sym (any_has list q) ∙ h)

pub not_listed : (list : List ℕ) (q : ℕ) → list_any (λ y. nat_eq y q) list ≡ false → Contains list q → ⊥
not_listed list q h = not_in list q (sym (any_has list q) ∙ h)
