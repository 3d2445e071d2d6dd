use Rattle.std.proofs.Common.{sym, ap, ◌∙◌}
use Rattle.std.specs.Option.{option_copied}
use Rattle.tree_mem.proofs.Paths.{found}
use Rattle.tree_mem.proofs.folders.item_at.Goals as goal

pub returns-in_err-get : goal.returns-in_err-get
returns-in_err-get c =
    c.from_residual.ensures ∙ sym (found c.args.folders.now c.args.text.now _ _ _ c.split_last.ensures.names (sym (ap option_copied c.in_err-get.was) ∙ c.get.ensures.value))

pub returns : goal.returns
returns c = c.get-2.ensures ∙ sym (found c.args.folders.now c.args.text.now _ _ _ c.split_last.ensures.names (sym (ap option_copied c.in_ok-get.was) ∙ c.get.ensures.value))
