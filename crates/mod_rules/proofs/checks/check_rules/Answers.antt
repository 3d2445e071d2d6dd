use Rattle.std.proofs.Common.{◌≡◌, ◌++◌, ◌∷◌, [], Some, map, find, ap, sym, subst, ◌∙◌}
use Rattle.std.specs.Map.Iter.{deref_pair}
use Rattle.std.specs.List.{flat_map}
use Rattle.std.specs.Option.{option_map, option_copied}
use Rattle.std.proofs.lemmas.List.{map-append}
use Rattle.mod_rules.specs.Nodes.{enabled_of}
use Rattle.mod_rules.specs.Checks.{is_failing, error_of, rules_of}
use Rattle.list_laws.proofs.Lists.{seen_more}
use Rattle.mod_rules.proofs.Steps.{first_found, none_found}
use Rattle.mod_rules.proofs.checks.check_rules.Goals as goal

pub returns-in-Some-failing_rule-clause-err : goal.returns-in-Some-failing_rule-clause-err
returns-in-Some-failing_rule-clause-err c = λ _.
    let at = c.loop-id in
    let mods = c.mods-mods.result.now.entries in
    let step = ap (λ l. map deref_pair at.yielded ++ l) (sym c.in-Some.ensures.steps) ∙ at.invariant.taken in
    let has = ap (find (λ r. is_failing mods (c.in-Some.id.now, r))) (sym c.rules.ensures) ∙ sym c.in-Some-failing_rule.ensures in
    let found = first_found (is_failing mods) (map deref_pair at.yielded) (c.in-Some.id.now, c.in-Some.entry.now) c.next.new.self mods c.in-Some-failing_rule.rule.now step
    (sym c.is_enabled.ensures ∙ c.if-is_enabled.true) at.invariant.none has in
    subst (λ ms. option_map error_of (find (is_failing ms) (flat_map rules_of (enabled_of ms))) ≡ Some c.in_ok-error_of.field-0) c.mods-mods.ensures
    (ap (option_map error_of) found ∙ ap (λ e. Some e) (sym c.in_ok-error_of.ensures))

pub loop-id-preserved-in_default : goal.loop-id-preserved-in_default
loop-id-preserved-in_default c =
    let at = c.loop-id in
    let mods = c.mods-mods.result.now.entries in
    let more = map-append deref_pair at.yielded ((c.in-Some.id, c.in-Some.entry) ∷ []) in
    let none = ap (find (λ r. is_failing mods (c.in-Some.id.now, r))) (sym c.rules.ensures) ∙ sym c.failing_rule.ensures ∙ ap option_copied c.in_default.is in
    record {
      taken = seen_more deref_pair at.yielded (c.in-Some.id, c.in-Some.entry) c.next.new.self at.id-iterator mods c.in-Some.ensures.steps at.invariant.taken;
      none = none_found (is_failing mods) (map deref_pair at.yielded) (c.in-Some.id.now, c.in-Some.entry.now) _ more (sym c.is_enabled.ensures ∙ c.if-is_enabled.true) at.invariant.none none;
    }
