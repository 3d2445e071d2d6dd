use Rattle.std.proofs.Common.{ℕ, List, ◌++◌, ◌∷◌, [], map, refl, ap, sym, subst, ◌∙◌}
use Rattle.std.specs.List.{AllByRecursion}
use Rattle.std.specs.Map.Iter.{deref_pair}
use Rattle.std.proofs.lemmas.List.{map-append}
use Rattle.list_laws.proofs.Lists.{seen_more, taken_all}
use Rattle.profile_toml.specs.Records.{ModData}
use Rattle.stage_scan.specs.Placed.{IsPlaced, HasUserTarget}
use Rattle.command_steps.specs.Scans.{IsLongStop}
use Rattle.command_steps.proofs.Orders.{takes_err}
use Rattle.command_steps.proofs.Placing.{placed_on, placed_off, node_in, long_at, all_placed, all_scans, all_users, ArePlacedTo}
use Rattle.command_steps.proofs.targets.place_mods.Goals as goal

pub bounds-scans-node : goal.bounds-scans-node
bounds-scans-node c =
    let at = c.loop-entry in
    let step = ap (λ l. map deref_pair at.yielded ++ l) (sym c.in-Some.ensures.steps) ∙ at.invariant.taken in
    node_in c.args.profile.now (map deref_pair at.yielded) c.next.new.self (c.in-Some.field-0-0.now, c.in-Some.entry.now) at.node c.args.scans.now at.placed.items at.sources.items (sym c.requires.mods ∙ sym step) (sym c.is_enabled.ensures ∙ c.if-is_enabled.true) c.requires.count at.invariant.placed

pub loop-entry-preserved : goal.loop-entry-preserved
loop-entry-preserved c =
    let at = c.loop-entry in
    let more = map-append deref_pair at.yielded ((c.in-Some.field-0-0, c.in-Some.entry) ∷ []) in
    record {
      taken = seen_more deref_pair at.yielded (c.in-Some.field-0-0, c.in-Some.entry) c.next.new.self at.entry-iterator c.args.mods.now.entries c.in-Some.ensures.steps at.invariant.taken;
      placed = placed_off c.args.profile.now (map deref_pair at.yielded) _ (c.in-Some.field-0-0.now, c.in-Some.entry.now) at.node c.args.scans.now at.placed.items at.sources.items more (sym c.is_enabled.ensures ∙ c.if-is_enabled.false) at.invariant.placed;
    }

pub returns-in_err-one-clause-takes : goal.returns-in_err-one-clause-takes
returns-in_err-one-clause-takes c = λ limits s has are.
    let at = c.loop-entry in
    let seen = map deref_pair at.yielded in
    let m : List ℕ × ModData = (c.in-Some.field-0-0.now, c.in-Some.entry.now) in
    let step = ap (λ l. map deref_pair at.yielded ++ l) (sym c.in-Some.ensures.steps) ∙ at.invariant.taken in
    let whole = sym c.requires.mods ∙ sym step in
    let on = sym c.is_enabled.ensures ∙ c.if-is_enabled.true in
    let low = node_in c.args.profile.now seen c.next.new.self m at.node c.args.scans.now at.placed.items at.sources.items whole on c.requires.count at.invariant.placed in
    takes_err _ _ c.from_residual.ensures
    (long_at c.args.profile.now seen (seen ++ m ∷ []) c.next.new.self m at.node c.args.scans.now c.index-scans-node.result whole refl on low c.index-scans-node.is limits s c.in_err-one.field-0.0 has are at.invariant.placed.count at.invariant.placed.users
    (subst (λ b. IsLongStop b c.index-scans-node.result c.in_err-one.field-0.0) c.base_of.ensures.same c.in_err-one.ensures.stopped))

pub loop-entry-preserved-then-is_enabled : goal.loop-entry-preserved-then-is_enabled
loop-entry-preserved-then-is_enabled c =
    let at = c.loop-entry in
    let seen = map deref_pair at.yielded in
    let m : List ℕ × ModData = (c.in-Some.field-0-0.now, c.in-Some.entry.now) in
    let more = map-append deref_pair at.yielded ((c.in-Some.field-0-0, c.in-Some.entry) ∷ []) in
    let step = ap (λ l. map deref_pair at.yielded ++ l) (sym c.in-Some.ensures.steps) ∙ at.invariant.taken in
    let whole = sym c.requires.mods ∙ sym step in
    let on = sym c.is_enabled.ensures ∙ c.if-is_enabled.true in
    let low = node_in c.args.profile.now seen c.next.new.self m at.node c.args.scans.now at.placed.items at.sources.items whole on c.requires.count at.invariant.placed in
    let base = c.base_of.ensures.same in
    record {
      taken = seen_more deref_pair at.yielded (c.in-Some.field-0-0, c.in-Some.entry) c.next.new.self at.entry-iterator c.args.mods.now.entries c.in-Some.ensures.steps at.invariant.taken;
      placed =
          rw (c.in_ok-push.ensures.items, c.in_ok-push-2.ensures.items)
          (placed_on c.args.profile.now seen _ c.next.new.self m at.node c.args.scans.now c.index-scans-node.result whole more on low c.index-scans-node.is at.placed.items at.sources.items c.in_ok-one.one at.invariant.placed
          (subst (λ b. IsPlaced c.index-scans-node.result b c.in_ok-one.one) base c.in_ok-one.ensures.placed) (subst (λ b. AllByRecursion (HasUserTarget b) c.index-scans-node.result.files) base c.in_ok-one.ensures.users) c.in_ok-one.ensures.free);
    }

pub returns-clause-takes : goal.returns-clause-takes
returns-clause-takes c = λ limits s has are.
    let at = c.loop-entry in
    let all = taken_all (map deref_pair at.yielded) at.entry-iterator c.args.mods.now.entries c.in-None.ensures.steps.0 at.invariant.taken ∙ c.requires.mods in
    let so_far = subst (λ l. ArePlacedTo c.args.profile.now l at.node c.args.scans.now at.placed.items at.sources.items) all at.invariant.placed in
    all_placed c.args.profile.now limits s c.args.scans.now _ _ has are (all_users c.args.profile.now at.node c.args.scans.now at.placed.items at.sources.items c.requires.count so_far)
    (all_scans c.args.profile.now at.node c.args.scans.now at.placed.items at.sources.items c.requires.count so_far)
