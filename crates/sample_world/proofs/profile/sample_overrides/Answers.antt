use Rattle.std.proofs.Common.{sym, ◌∙◌, arith}
use Rattle.sample_world.proofs.Listed.{mods_few, override_none}
use Rattle.sample_world.proofs.profile.sample_overrides.Goals as goal

pub loop-index-init : goal.loop-index-init
loop-index-init c = c.new-overrides.ensures.empty ∙ sym (override_none c.args.number)

pub add_override_if_there-requires-clause-few : goal.add_override_if_there-requires-clause-few
add_override_if_there-requires-clause-few c = omega (arith, mods_few c.args.number, c.count_mods-index-end.ensures)
