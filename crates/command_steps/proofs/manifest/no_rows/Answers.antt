use Rattle.command_steps.proofs.Planning.{no_rows_are}
use Rattle.command_steps.proofs.manifest.no_rows.Goals as goal

pub new-requires-2 : goal.new-requires-2
new-requires-2 c = no_rows_are c.new.result.items c.new.ensures.items
