use Rattle.std.proofs.Common.{◌≡◌, ◌<◌, ◌+◌, ◌++◌, length, get_or, take, drop, map, sym, ap, ◌∙◌, subst, arith}
use Rattle.std.proofs.lemmas.List.{drop-drop, take-append-drop}
use Rattle.winner_table.specs.Offers.{path_and_node, path_bytes, grouped}
use Rattle.winner_table.specs.Providers.{path_and_nodes}
use Rattle.winner_table.proofs.Grouping.{node}
use Rattle.winner_table.proofs.Gathering.{begins_get, some_with, parts_more}
use Rattle.winner_table.proofs.providers.group.Goals as goal

pub loop-start-smaller : goal.loop-start-smaller
loop-start-smaller c =
    let rest = c.split_at.result.1.now in
    let x = get_or rest 0 c.index-rest-0.result in
    let low = c.loop-start-test.true in
    let more : 0 < length rest = omega (arith, c.split_at.ensures.back_len) in
    let some : 0 < c.count_with-count.result = some_with (path_bytes x) rest c.count_with-count.result (begins_get rest c.index-rest-0.result more) c.count_with-count.ensures.next in
    omega arith

pub loop-start-preserved : goal.loop-start-preserved
loop-start-preserved c =
    let rest = c.split_at.result.1.now in
    let x = get_or rest 0 c.index-rest-0.result in
    let n = c.count_with-count.result in
    let low = c.loop-start-test.true in
    let more : 0 < length rest = omega (arith, c.split_at.ensures.back_len) in
    let begins = begins_get rest c.index-rest-0.result more in
    let groups = c.loop-start.groups.items in
    let whole = grouped (map path_and_node c.args.provided.now) in
    let was = ap (λ l. map path_and_nodes groups ++ grouped (map path_and_node l)) c.split_at.ensures.back ∙ c.loop-start.invariant.parts in
    let nodes = c.in_ok-nodes.ensures ∙ ap (λ l. map node (map path_and_node l)) c.split_at-in-loop-start.ensures.front in
    let after = ap (drop n) c.split_at.ensures.back ∙ drop-drop n c.loop-start.start c.args.provided.now in
    record {
      within = omega (arith, c.split_at.ensures.back_len, c.count_with-count.ensures.within);
      parts = rw (c.in_ok-push.ensures.items, ← after)
          (parts_more (path_bytes x) groups _ rest (take n rest) (drop n rest) whole (λ i. (path_bytes x, nodes i)) (sym (take-append-drop n rest)) begins
          c.count_with-count.ensures.same c.count_with-count.ensures.next was);
    }
