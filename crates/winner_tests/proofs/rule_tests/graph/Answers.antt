use Rattle.std.proofs.Common.{length, ap, arith}
use Rattle.mod_rules.proofs.Counts.{length-enabled_of}
use Rattle.winner_tests.proofs.rule_tests.graph.Goals as goal

pub graph_of-requires : goal.graph_of-requires
graph_of-requires g c = omega (arith, length-enabled_of c.profile_of-profile.result.mods, ap length c.mods.ensures)
