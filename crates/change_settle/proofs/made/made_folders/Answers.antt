use Rattle.std.proofs.Common.{map, filter_map, ap, ◌∙◌, subst}
use Rattle.tree_fs.specs.Spot.{spot_of}
use Rattle.change_settle.specs.Above.{AreAbove, new_aside}
use Rattle.change_settle.proofs.MadeLists.{made_answer}
use Rattle.change_settle.proofs.made.made_folders.Goals as goal

pub returns-clause-are : goal.returns-clause-are
returns-clause-are c =
    made_answer c.args.missing.items c.args.saves.now c.args.is_there c.in_ok-asides.asides.items c.in_ok-above.above.items c.in_ok-aside.aside c.in_ok-new.new.items c.in_ok-asides.ensures
    (subst (λ l. AreAbove (map spot_of l) (map spot_of c.in_ok-above.above.items)) c.deref.ensures.value c.in_ok-above.ensures.are)
    c.in_ok-aside.ensures (c.in_ok-new.ensures ∙ ap (filter_map (new_aside c.args.is_there c.in_ok-aside.aside)) c.deref-2.ensures.value) c.append.new.self.items c.in_ok-append.ensures.items c.in_order.result c.in_order.ensures.same
