use Rattle.std.proofs.Common.{◌≡◌, ◌<◌, ◌+◌, ℕ, List, true, false, nat_le, max, length, get_or, drop, ◌∷◌, sym, ap, ◌∙◌, arith}
use Rattle.profile_toml.specs.Levels.{levels, items_levels, members_levels}
use Rattle.toml.specs.Data.{item}
use Rattle.toml.specs.View.{view, items_view, members_view}
use Rattle.toml.specs.declared.value.Value.{Value}
use Rattle.toml.proofs.Views.{items_view-drop}
use Rattle.profile_toml.proofs.Bounds.{max_within, max_beyond}
use Rattle.profile_toml.proofs.checks.+levels.Goals as goal

-- the levels of the items from one on
step : (vs : List Value) (i : ℕ) (v : Value) → i < length vs → v ≡ get_or vs i v → items_levels (items_view (drop i vs)) ≡ max (levels (view v)) (items_levels (items_view (drop (i + 1) vs)))
step vs i v h at = ap items_levels (items_view-drop vs i v h ∙ ap (λ x. item (view x) (items_view (drop (i + 1) vs))) (sym at))

pub array_fits-loop-item-preserved : goal.array_fits-loop-item-preserved
array_fits-loop-item-preserved t c =
    let next = step c.deref-item-items.result.now c.loop-item.item-index c.item-item.result c.loop-item-test.true c.item-item.is in
    sym (max_within _ _ c.args.most (sym c.if-not-fits.ensures)) ∙ ap (λ n. nat_le n c.args.most) (sym next) ∙ c.loop-item.invariant

pub array_fits-returns-then-not-fits : goal.array_fits-returns-then-not-fits
array_fits-returns-then-not-fits t c =
    let next = step c.deref-item-items.result.now c.loop-item.item-index c.item-item.result c.loop-item-test.true c.item-item.is in
    sym (max_beyond _ _ c.args.most (sym c.if-not-fits.ensures)) ∙ ap (λ n. nat_le n c.args.most) (sym next) ∙ c.loop-item.invariant
    ∙ ap (λ l. nat_le (items_levels (items_view l)) c.args.most) c.deref-item-items.ensures.value

pub table_fits-loop-key-preserved : goal.table_fits-loop-key-preserved
table_fits-loop-key-preserved t c =
    (tt, tt, sym (max_within _ _ c.args.most (sym c.if-not-fits.ensures)) ∙ ap (λ es. nat_le (members_levels (members_view es)) c.args.most) (sym c.in-Some.ensures.steps) ∙ c.loop-key.invariant.2)

pub table_fits-returns-then-not-fits : goal.table_fits-returns-then-not-fits
table_fits-returns-then-not-fits t c =
    sym (max_beyond _ _ c.args.most (sym c.if-not-fits.ensures)) ∙ ap (λ es. nat_le (members_levels (members_view es)) c.args.most) (sym c.in-Some.ensures.steps) ∙ c.loop-key.invariant.2
