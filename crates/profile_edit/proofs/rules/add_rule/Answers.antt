use Rattle.std.proofs.Common.{◌++◌, ◌∷◌, [], is_some, position, ap, sym, ◌∙◌}
use Rattle.profile_toml.specs.Plain.{plain_rule}
use Rattle.profile_edit.specs.Parts.{with_value, is_rule}
use Rattle.profile_edit.proofs.Applied.{rule_added}
use Rattle.profile_edit.proofs.rules.add_rule.Goals as goal

pub returns : goal.returns
returns c =
    let lacks = ap (λ l. is_some (position (is_rule c.args.kind c.args.refers.now) l)) (sym c.rules.ensures) ∙ ap is_some (sym c.place_of.ensures) ∙ sym c.is_some.ensures ∙ c.if-is_some.false in
    let rule = c.plain-rule.ensures ∙ λ i. plain_rule c.args.kind (c.in_ok-copy.ensures i) in
    rule_added c.args.id.now c.args.kind c.args.refers.now c.args.mods.now.entries c.push_rule.new.mods.entries c.in-Some.entry.now (sym c.in-Some.ensures.value) lacks
    (c.in_ok-push_rule.ensures.ok ∙ ap (λ r. with_value c.args.id.now (λ m. record m { rules = m.rules ++ r ∷ [] }) c.args.mods.now.entries) rule)
