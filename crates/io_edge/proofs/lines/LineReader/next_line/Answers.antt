use Rattle.io_edge.specs.Pulls.Pulled.{no_pull}
use Rattle.io_edge.proofs.lines.LineReader.next_line.Goals as goal

pub returns-in-Some-clause-pulls : goal.returns-in-Some-clause-pulls
returns-in-Some-clause-pulls g c = record { at_hand = c.args.self.now.held; pulled = no_pull }
