use Rattle.std.proofs.Common.{sym, ap, ◌∙◌, subst, option_map, arith}
use Rattle.rel_paths.specs.Names.{names_of}
use Rattle.plan_lists.specs.Above.{IsInOne}
use Rattle.plan_lists.proofs.Added.{parent_is, parent_shorter, adds_noted, adds_more}
use Rattle.plan_lists.proofs.above.+add_above.Goals as goal

pub returns-then-is_in_last : goal.returns-then-is_in_last
returns-then-is_in_last t c =
    adds_noted c.args.path.now c.in-Some.above c.args.found.now.items (parent_is c.args.path.now c.in-Some.above (sym (ap (option_map names_of) c.in-Some.is) ∙ c.in_ok-above.ensures)) c.requires
    (subst (λ l. IsInOne l c.in-Some.above) c.deref.ensures.value (c.is_in_last.ensures c.if-is_in_last.true))

pub add_above-requires : goal.add_above-requires
add_above-requires t c = (
  (let less = parent_shorter c.args.path.now c.in-Some.above (sym (ap (option_map names_of) c.in-Some.is) ∙ c.in_ok-above.ensures) in omega (arith, less, c.decreases)),
  c.requires,
)

pub returns : goal.returns
returns t c =
    adds_more c.args.path.now c.in-Some.above c.args.found.now.items c.add_above.new.found.items c.push.new.self.items (parent_is c.args.path.now c.in-Some.above (sym (ap (option_map names_of) c.in-Some.is) ∙ c.in_ok-above.ensures))
    c.in_ok-add_above.ensures c.in_ok-push.ensures.items
