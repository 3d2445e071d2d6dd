use Rattle.std.proofs.Common.{arith}
use Rattle.winner_table.proofs.Reading.{none_left}
use Rattle.winner_table.proofs.folders.first_folder.Goals as goal

pub returns : goal.returns
returns c = none_left c.args.rows.now c.loop-index.index (omega arith) c.loop-index.invariant
