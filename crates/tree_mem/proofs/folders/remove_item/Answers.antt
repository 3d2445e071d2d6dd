use Rattle.std.proofs.Common.{None, Ok, sym, ap, ◌∙◌, rules}
use Rattle.std.specs.Option.{option_copied_mut}
use Rattle.tree_mem.proofs.Paths.{put_some, set_nothing}
use Rattle.tree_mem.proofs.folders.remove_item.Goals as goal

pub returns-in-Some : goal.returns-in-Some
returns-in-Some c =
    let had = sym (ap option_copied_mut c.in-Some.is) ∙ c.get_mut.ensures.value in
    put_some {A = Unit {0}} {E = Unit {0}} (Ok tt) c.args.folders.now (c.get_mut.follows.lender c.remove.new.self) c.args.text.now c.split_last.result.0.now c.split_last.result.1.now c.in-Some.entries.now c.remove.new.self None
    c.split_last.ensures.names had ((c.get_mut.follows.holds c.remove.new.self).3 (search rules)) c.remove.ensures

pub returns-in_default : goal.returns-in_default
returns-in_default c =
    let had = sym (ap option_copied_mut c.in_default.is) ∙ c.get_mut.ensures.value in
    set_nothing c.args.folders.now c.get_mut.follows.lender-at-none c.args.text.now c.split_last.result.0.now c.split_last.result.1.now c.split_last.ensures.names had c.get_mut.follows.holds-at-none
