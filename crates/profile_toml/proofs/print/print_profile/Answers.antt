use Rattle.std.proofs.Common.{Some, ap, sym, subst, ◌∙◌}
use Rattle.std.proofs.lemmas.Result.{IfOk-weaker}
use Rattle.profile_toml.specs.Sound.{AreSound}
use Rattle.profile_toml.proofs.Printed.{AreSound-profile}
use Rattle.profile_toml.proofs.Printed.{printed_reads}
use Rattle.profile_toml.proofs.print.print_profile.Goals as goal

pub print_table-requires : goal.print_table-requires
print_table-requires c = subst (AreSound 63) (sym c.in_ok-table.ensures.data) (AreSound-profile c.args.profile c.in_ok-table.ensures.kept)

pub returns : goal.returns
returns c =
    IfOk-weaker c.print_table.result _ _ (λ b h. printed_reads b.items c.args.profile c.in_ok-table.ensures.kept (h ∙ ap Some c.in_ok-table.ensures.data)) c.print_table.ensures
