use Rattle.std.proofs.Common.{◌≡◌, ℕ, ◌+◌, ◌<◌, List, true, false, length, get_or, ap, sym, subst, ◌∙◌, refl, arith, below_more, is_le, is_lt, nat_cmp, Ordering, Less, Equal, Greater, Vec, Global, true≢false}
use Rattle.std.specs.Cmp.Lexicographic.{slice_cmp}
use Rattle.std.specs.Ordering.{ordering_reverse}
use Rattle.std.proofs.lemmas.Cmp.{nat_list_cmp_total}
use Rattle.std.proofs.lemmas.Grind.{common_steps}
use Rattle.list_laws.proofs.Orders.{turned_le}
use Rattle.list_laws.proofs.Lists.{same_item}
use Rattle.winner_table.specs.Merged.{AreAscending}
use Rattle.winner_tests.proofs.run_tests.are_ascending.Goals as goal

ascending_from : (xs : List (List ℕ)) → ((k : ℕ) (d : List ℕ) → k + 1 < length xs → (get_or xs k d ≡ get_or xs k d) × (is_le (slice_cmp nat_cmp (get_or xs k d) (get_or xs (k + 1) d)) ≡ true)) → AreAscending (λ path. path) xs
ascending_from xs h k d low high =
    ap is_lt (nat_list_cmp_total.antisymm (get_or xs (k + 1) d) (get_or xs k d)) ∙ turned_le (slice_cmp nat_cmp (get_or xs k d) (get_or xs (k + 1) d)) (h k d high).1

pub loop-run-preserved : goal.loop-run-preserved
loop-run-preserved c k d low =
    let runs = c.args.runs.now in
    let run = c.run-item.result in
    let P : ℕ → Type 0 = λ n. (e : Vec (List ℕ) Global) → AreAscending (λ path. path) (get_or runs n e).items in
    let Q : List (List ℕ) → Type 0 = λ l. AreAscending (λ path. path) l in
    let R : Vec (List ℕ) Global → Type 0 = λ v. AreAscending (λ path. path) v.items in
    let mine : AreAscending (λ path. path) run.items = subst Q c.as_slice.ensures.value (ascending_from c.as_slice.result.now c.if-not-is_sorted.ensures.by_index) in
    below_more P c.loop-run.run-index (λ n less e. c.loop-run.invariant n e less) (λ e. subst R (same_item runs c.loop-run.run-index run e (omega arith) c.run-item.is) mine) k low d
