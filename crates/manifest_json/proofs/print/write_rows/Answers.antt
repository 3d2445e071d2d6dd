use Rattle.std.proofs.Common.{◌∙◌}
use Rattle.manifest_json.specs.Texts.{row_data}
use Rattle.manifest_json.proofs.Printed.{on_ok, list_written}
use Rattle.manifest_json.proofs.print.write_rows.Goals as goal

pub returns-clause-tokens : goal.returns-clause-tokens
returns-clause-tokens c =
    on_ok c.end_array.result (λ ended. ended ∙ list_written (row_data c.args.version) c.args.rows.now c.args.writer.now.tokens c.loop-row.writer.tokens c.loop-row.row-index c.loop-row-test.false c.loop-row.invariant.tokens) c.end_array.ensures.ok
