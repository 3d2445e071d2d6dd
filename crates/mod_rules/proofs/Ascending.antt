-- Edges of which each is below the next ascend.
use Rattle.std.proofs.Common.{◌≡◌, ◌↔◌, ℕ, ◌+◌, List, Bool, true, false, get_or, refl, sym, ap, ◌∙◌, IsTrue, arith}
use Rattle.std.specs.List.{IsAllAdjacentAnswer}
use Rattle.std.specs.Ordering.{is_lt}
use Rattle.std.specs.Cmp.{IsTotalOrder}
use Rattle.std.proofs.lemmas.Cmp.{nat_cmp_total, on_total, then_total}
use Rattle.std.proofs.lemmas.Map.Keys.{Less-from_sorted, sorted_from_all_adjacent}
use Rattle.list_laws.proofs.Orders.{less-from_test}
use Rattle.mod_rules.specs.Edges.{AreAscending, edge_cmp}

edge_total : IsTotalOrder edge_cmp
edge_total = then_total (on_total (λ (e : ℕ × ℕ). e.0) nat_cmp_total) (on_total (λ (e : ℕ × ℕ). e.1) nat_cmp_total)

pub ascending_when : (es : List (ℕ × ℕ)) (answer : Bool) → IsAllAdjacentAnswer (λ e f b. b ≡ is_lt (edge_cmp e f)) es answer → IsTrue answer ↔ AreAscending es
ascending_when es true h = (λ _. sorted_from_all_adjacent edge_total es (0, 0) (λ k l. less-from_test (edge_cmp (get_or es k (0, 0)) (get_or es (k + 1) (0, 0))) (sym (h k (0, 0) l))), λ _. refl)
ascending_when es false h =
    (λ f. cc, λ up. (let less = Less-from_sorted edge_cmp es h.0 (h.0 + 1) (0, 0) up (omega arith) h.1 in let off = h.2 (0, 0) ∙ ap is_lt less in cc))
