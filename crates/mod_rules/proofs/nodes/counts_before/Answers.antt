use Rattle.std.proofs.Common.{◌++◌, ◌∷◌, [], map, ap, sym, ◌∙◌, arith}
use Rattle.std.specs.Map.Iter.{deref_pair}
use Rattle.std.proofs.lemmas.List.{map-append}
use Rattle.list_laws.proofs.Lists.{seen_more}
use Rattle.mod_rules.proofs.Steps.{counted_on, counted_off, room_for}
use Rattle.mod_rules.proofs.Counts.{listed_more}
use Rattle.mod_rules.proofs.nodes.counts_before.Goals as goal

pub overflow_add-count : goal.overflow_add-count
overflow_add-count c =
    let at = c.loop-entry in
    let step = ap (λ l. map deref_pair at.yielded ++ l) (sym c.in-Some.ensures.steps) ∙ at.invariant.taken in
    let room = room_for (map deref_pair at.yielded) _ c.next.new.self c.args.mods.now.entries at.count step (sym c.is_enabled.ensures ∙ c.if-is_enabled.true) at.invariant.count_is in
    omega (arith, room)

pub loop-entry-preserved-then-is_enabled : goal.loop-entry-preserved-then-is_enabled
loop-entry-preserved-then-is_enabled c =
    let at = c.loop-entry in
    let more = map-append deref_pair at.yielded ((c.in-Some.field-0-0, c.in-Some.entry) ∷ []) in
    record {
      taken = seen_more deref_pair at.yielded (c.in-Some.field-0-0, c.in-Some.entry) c.next.new.self at.entry-iterator c.args.mods.now.entries c.in-Some.ensures.steps at.invariant.taken;
      count_is = counted_on (map deref_pair at.yielded) _ _ at.count more (sym c.is_enabled.ensures ∙ c.if-is_enabled.true) at.invariant.count_is;
      listed = listed_more (map deref_pair at.yielded) _ _ at.counts.items c.push.new.self.items at.count more c.in_ok-push.ensures.items at.invariant.listed at.invariant.count_is;
    }

pub loop-entry-preserved : goal.loop-entry-preserved
loop-entry-preserved c =
    let at = c.loop-entry in
    let more = map-append deref_pair at.yielded ((c.in-Some.field-0-0, c.in-Some.entry) ∷ []) in
    record {
      taken = seen_more deref_pair at.yielded (c.in-Some.field-0-0, c.in-Some.entry) c.next.new.self at.entry-iterator c.args.mods.now.entries c.in-Some.ensures.steps at.invariant.taken;
      count_is = counted_off (map deref_pair at.yielded) _ _ at.count more (sym c.is_enabled.ensures ∙ c.if-is_enabled.false) at.invariant.count_is;
      listed = listed_more (map deref_pair at.yielded) _ _ at.counts.items c.push.new.self.items at.count more c.in_ok-push.ensures.items at.invariant.listed at.invariant.count_is;
    }
