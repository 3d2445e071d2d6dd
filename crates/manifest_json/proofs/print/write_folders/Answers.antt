use Rattle.std.proofs.Common.{◌∙◌}
use Rattle.serde_json.specs.Data.{string}
use Rattle.manifest_json.proofs.Printed.{on_ok, list_written}
use Rattle.manifest_json.proofs.print.write_folders.Goals as goal

pub returns-clause-tokens : goal.returns-clause-tokens
returns-clause-tokens c =
    on_ok c.end_array.result (λ ended. ended ∙ list_written string c.args.folders.now c.args.writer.now.tokens c.loop-folder.writer.tokens c.loop-folder.folder-index c.loop-folder-test.false c.loop-folder.invariant.tokens) c.end_array.ensures.ok
