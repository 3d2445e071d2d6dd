use Rattle.std.proofs.Common.{◌≡◌, ◌∷◌, ◌++◌, [], List, map, length, refl, ap, sym, subst, ◌∙◌, rules}
use Rattle.std.specs.List.{AllByRecursion}
use Rattle.std.specs.Vec.Iter.{into_iter_items}
use Rattle.toml.specs.Data.{array}
use Rattle.toml.specs.View.{view, items_of}
use Rattle.toml.proofs.Views.{view-Array}
use Rattle.profile_toml.specs.Documents.{rule_data}
use Rattle.profile_toml.specs.Kept.{IsRule}
use Rattle.list_laws.proofs.Lists.{taken_more, length_after, taken_all_by_length}
use Rattle.list_laws.proofs.Alls.{all_more}
use Rattle.std.proofs.lemmas.List.{map-append}
use Rattle.profile_toml.proofs.print.rules_value.Goals as goal

pub loop-rule-preserved : goal.loop-rule-preserved
loop-rule-preserved c =
    let at = c.loop-rule in
    let rule = c.in-Some.rule in
    let rest = into_iter_items c.next.new.self in
    let before = into_iter_items at.rule-iterator in
    let step : before ≡ rule ∷ rest = c.in-Some.ensures.steps.0 in
    record {
      taken = taken_more at.yielded rule rest before c.args.rules.items step at.invariant.taken;
      length_is = length_after rest before rule _ _ step c.in-Some.ensures.steps.1 at.invariant.length_is;
      made = ap (map view) c.in_ok-add.ensures ∙ map-append view at.array.items (c.in_ok-value.value ∷ [])
          ∙ (λ i. at.invariant.made i ++ c.in_ok-value.ensures.data i ∷ []) ∙ sym (map-append rule_data at.yielded (rule ∷ []));
      kept = all_more IsRule at.yielded rule at.invariant.kept c.in_ok-value.ensures.kept;
    }

pub returns-clause-data : goal.returns-clause-data
returns-clause-data c =
    let at = c.loop-rule in
    let all = taken_all_by_length at.yielded (into_iter_items at.rule-iterator) c.args.rules.items _ at.invariant.length_is c.in-None.ensures.steps.0 at.invariant.taken in
    view-Array at.array ∙ ap (λ l. array (items_of l)) (at.invariant.made ∙ ap (map rule_data) all)

pub returns-clause-kept : goal.returns-clause-kept
returns-clause-kept c =
    let at = c.loop-rule in
    let all = taken_all_by_length at.yielded (into_iter_items at.rule-iterator) c.args.rules.items _ at.invariant.length_is c.in-None.ensures.steps.0 at.invariant.taken in
    subst (AllByRecursion IsRule) all at.invariant.kept
