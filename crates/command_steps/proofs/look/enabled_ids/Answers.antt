use Rattle.std.proofs.Common.{◌∷◌, [], map, ap, sym, subst, ◌∙◌, nat_eq}
use Rattle.std.specs.List.{IsDistinct}
use Rattle.std.specs.Map.Iter.{deref_pair}
use Rattle.std.specs.Cmp.Lexicographic.{pointwise}
use Rattle.std.proofs.lemmas.List.{map-append}
use Rattle.mod_rules.specs.Nodes.{enabled_of}
use Rattle.list_laws.proofs.Lists.{seen_more, taken_all}
use Rattle.command_steps.proofs.Nodes.{ids_on, ids_off, distinct_ids}
use Rattle.command_steps.proofs.look.enabled_ids.Goals as goal

pub loop-id-preserved-in_ok-push : goal.loop-id-preserved-in_ok-push
loop-id-preserved-in_ok-push c =
    let at = c.loop-id in
    let more = map-append deref_pair at.yielded ((c.in-Some.id, c.in-Some.entry) ∷ []) in
    record {
      taken = seen_more deref_pair at.yielded (c.in-Some.id, c.in-Some.entry) c.next.new.self at.id-iterator c.args.mods.now.entries c.in-Some.ensures.steps at.invariant.taken;
      ids_are = ids_on (map deref_pair at.yielded) _ (c.in-Some.id.now, c.in-Some.entry.now) at.ids.items c.push.new.self.items _ more (sym c.is_enabled.ensures ∙ c.if-is_enabled.true) c.in_ok-push.ensures.items c.in_ok-copy.ensures at.invariant.ids_are;
    }

pub loop-id-preserved : goal.loop-id-preserved
loop-id-preserved c =
    let at = c.loop-id in
    let more = map-append deref_pair at.yielded ((c.in-Some.id, c.in-Some.entry) ∷ []) in
    record {
      taken = seen_more deref_pair at.yielded (c.in-Some.id, c.in-Some.entry) c.next.new.self at.id-iterator c.args.mods.now.entries c.in-Some.ensures.steps at.invariant.taken;
      ids_are = ids_off (map deref_pair at.yielded) _ (c.in-Some.id.now, c.in-Some.entry.now) at.ids.items more (sym c.is_enabled.ensures ∙ c.if-is_enabled.false) at.invariant.ids_are;
    }

pub returns-clause-ids : goal.returns-clause-ids
returns-clause-ids c =
    let at = c.loop-id in
    let all = taken_all (map deref_pair at.yielded) at.id-iterator c.args.mods.now.entries c.in-None.ensures.steps.0 at.invariant.taken in
    at.invariant.ids_are ∙ ap (λ l. map (λ m. m.0) (enabled_of l)) all

pub returns-clause-differ : goal.returns-clause-differ
returns-clause-differ c =
    let at = c.loop-id in
    let all = taken_all (map deref_pair at.yielded) at.id-iterator c.args.mods.now.entries c.in-None.ensures.steps.0 at.invariant.taken in
    subst (IsDistinct (pointwise nat_eq)) (sym (at.invariant.ids_are ∙ ap (λ l. map (λ m. m.0) (enabled_of l)) all)) (distinct_ids (pointwise nat_eq) c.args.mods.now.entries c.len.ensures.unique)
