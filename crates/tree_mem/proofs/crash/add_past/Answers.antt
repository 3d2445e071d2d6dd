use Rattle.std.proofs.Common.{◌≡◌, ◌++◌, ◌∷◌, [], sym, ap, subst, ◌∙◌, rules, None, Some}
use Rattle.std.specs.BTreeMap.{UpdatesBy, get}
use Rattle.std.specs.Option.{option_copied_mut}
use Rattle.tree_mem.specs.Groups.{Groups, by_text, group_items, number_in}
use Rattle.tree_mem.proofs.Groups.{group_grown}
use Rattle.tree_mem.proofs.crash.add_past.Goals as goal

pub returns-in_ok-push-in-Some : goal.returns-in_ok-push-in-Some
returns-in_ok-push-in-Some c =
    let had : Some c.in-Some.group.now ≡ get by_text c.args.groups.now c.args.past.now.at = sym (ap option_copied_mut c.in-Some.is) ∙ c.get_mut.ensures.value in
    group_grown c.args.groups.now (c.get_mut.follows.lender c.push.new.self) c.args.past.now.at (number_in c.args.past.now.item) c.push.new.self ((c.get_mut.follows.holds c.push.new.self).3 (search rules))
    (c.in_ok-push-in-Some.ensures.items ∙ (λ i. group_items (had i) ++ c.number_in-number.ensures i ∷ []))

pub returns-in_ok-insert-in-None : goal.returns-in_ok-insert-in-None
returns-in_ok-insert-in-None c =
    let had : None ≡ get by_text c.args.groups.now c.args.past.now.at = sym (ap option_copied_mut c.in-None.is) ∙ c.get_mut.ensures.value in
    let group = c.in_ok-group-in-None.group in
    let at = c.in_ok-copy-in-None.field-0 in
    group_grown c.args.groups.now c.insert.new.self c.args.past.now.at (number_in c.args.past.now.item) group
    (subst (λ (m : Groups). UpdatesBy by_text (by_text c.args.past.now.at) m c.insert.new.self (Some group)) c.get_mut.follows.holds-at-none
    (subst (λ p. UpdatesBy by_text (by_text p) c.get_mut.follows.lender-at-none c.insert.new.self (Some group)) c.in_ok-copy-in-None.ensures c.in_ok-insert-in-None.ensures.updates))
    (c.in_ok-group-in-None.ensures.items ∙ (λ i. group_items (had i) ++ c.number_in-number.ensures i ∷ []))
