use Rattle.std.proofs.Common.{◌++◌, ◌∷◌, [], map, ap, sym, subst, ◌∙◌, nat_eq}
use Rattle.std.specs.List.{IsDistinct}
use Rattle.std.specs.Map.Iter.{deref_pair}
use Rattle.std.specs.Cmp.Lexicographic.{pointwise}
use Rattle.std.proofs.lemmas.List.{map-append}
use Rattle.profile_toml.specs.Plain.{plain_override}
use Rattle.profile_toml.specs.Records.{OverrideData}
use Rattle.list_laws.proofs.Lists.{seen_more, taken_all}
use Rattle.command_steps.proofs.Winning.{paths_are_keys}
use Rattle.command_steps.proofs.overrides.plain_list.Goals as goal

pub loop-entry-preserved : goal.loop-entry-preserved
loop-entry-preserved c =
    let at = c.loop-entry in
    let more = map-append deref_pair at.yielded ((c.in-Some.field-0-0, c.in-Some.entry) ∷ []) in
    record {
      taken = seen_more deref_pair at.yielded (c.in-Some.field-0-0, c.in-Some.entry) c.next.new.self at.entry-iterator c.args.overrides.now.entries c.in-Some.ensures.steps at.invariant.taken;
      all_are =
          c.in_ok-push.ensures.items ∙ (λ i. at.invariant.all_are i ++ c.plain.ensures i ∷ []) ∙ (λ i. map (λ e. plain_override e.1.path e.1.mod_id) (map deref_pair at.yielded) ++ plain_override ((c.in_ok-path.ensures ∙ c.path.ensures.same) i) ((c.in_ok-mod_id.ensures ∙ c.mod_id.ensures) i) ∷ [])
          ∙ sym (ap (map (λ e. plain_override e.1.path e.1.mod_id)) more ∙ map-append (λ e. plain_override e.1.path e.1.mod_id) (map deref_pair at.yielded) ((c.in-Some.field-0-0.now, c.in-Some.entry.now) ∷ []));
    }

pub returns-clause-plain : goal.returns-clause-plain
returns-clause-plain c =
    let at = c.loop-entry in
    let all = taken_all (map deref_pair at.yielded) at.entry-iterator c.args.overrides.now.entries c.in-None.ensures.steps.0 at.invariant.taken in
    at.invariant.all_are ∙ ap (map (λ e. plain_override e.1.path e.1.mod_id)) all

pub returns-clause-differ : goal.returns-clause-differ
returns-clause-differ c =
    let at = c.loop-entry in
    let all = taken_all (map deref_pair at.yielded) at.entry-iterator c.args.overrides.now.entries c.in-None.ensures.steps.0 at.invariant.taken in
    let paths = ap (map (λ (o : OverrideData). o.path)) (at.invariant.all_are ∙ ap (map (λ e. plain_override e.1.path e.1.mod_id)) all) ∙ paths_are_keys c.args.overrides.now.entries c.requires in
    subst (IsDistinct (pointwise nat_eq)) (sym paths) c.len.ensures.unique
