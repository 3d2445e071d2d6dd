use Rattle.std.proofs.Common.{◌≡◌, ℕ, List, ◌++◌, ◌∷◌, [], Some, cond, take, length, ap, sym, ◌∙◌, subst, arith, length-take, take_all}
use Rattle.std.specs.Ordering.{nat_cmp, is_eq}
use Rattle.std.specs.Cmp.Lexicographic.{slice_cmp}
use Rattle.std.specs.BTreeMap.{get}
use Rattle.winner_table.specs.Overrides.{IsIndexAt}
use Rattle.list_laws.proofs.Lists.{one_more}
use Rattle.winner_table.proofs.Overriding.{index_more}
use Rattle.winner_table.proofs.overrides.indexes_of.Goals as goal

pub loop-index-preserved : goal.loop-index-preserved
loop-index-preserved c = λ path.
    let entry = c.index-overrides-index.result in
    let so_far = take c.loop-index.index c.args.overrides.now in
    let old = get (slice_cmp nat_cmp) c.loop-index.indexes path in
    let count : length so_far ≡ c.loop-index.index = simp length-take (omega arith) in
    let found = c.in_ok-insert.ensures.updates.0 path
    ∙ ap (λ (k : List ℕ). cond (is_eq (slice_cmp nat_cmp k path)) (Some c.loop-index.index) old) (c.in_ok-copy.ensures ∙ c.path.ensures.same)
    ∙ ap (λ (n : ℕ). cond (is_eq (slice_cmp nat_cmp entry.path path)) (Some n) old) (sym count) in
    rw (one_more _ _ _ c.loop-index-test.true c.index-overrides-index.is)
    (subst (IsIndexAt (so_far ++ entry ∷ []) path) (sym found) (index_more so_far entry path old (c.loop-index.invariant path)))

pub returns : goal.returns
returns c path =
    subst (λ l. IsIndexAt l path (get (slice_cmp nat_cmp) c.loop-index.indexes path)) (take_all c.loop-index.index c.args.overrides.now (omega arith)) (c.loop-index.invariant path)
