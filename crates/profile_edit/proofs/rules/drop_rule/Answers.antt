use Rattle.std.proofs.Common.{position, ap, sym, ◌∙◌}
use Rattle.profile_edit.specs.Parts.{is_rule}
use Rattle.profile_edit.proofs.Applied.{rule_dropped}
use Rattle.profile_edit.proofs.rules.drop_rule.Goals as goal

pub returns : goal.returns
returns c =
    let at = ap (position (is_rule c.args.kind c.args.refers.now)) (sym c.rules.ensures) ∙ sym c.place_of.ensures ∙ c.in-Some-place_of.is in
    rule_dropped c.args.id.now c.args.kind c.args.refers.now c.args.mods.now.entries c.remove_rule.new.mods.entries c.in-Some.entry.now c.in-Some-place_of.place (sym c.in-Some.ensures.value) at c.remove_rule.ensures
