-- The words of what decides the winner of a path.
use Rattle.std.specs.Prelude.{ℕ, List, codes}
use Rattle.winner_table.specs.declared.wins.By.{By}
use Rattle.winner_table.specs.declared.wins.By.TheVariants.{Override as by_override, Order as by_order}
use Rattle.conflict_report.specs.declared.report.Why.{Why}
use Rattle.conflict_report.specs.declared.report.Why.TheVariants.{Override, Rule, Position}

abbrev pub by_word : By → List ℕ
by_word by_override = codes "override"
by_word by_order = codes "order"

abbrev pub why_word : Why → List ℕ
why_word Override = codes "override"
why_word Rule = codes "rule"
why_word Position = codes "position"
