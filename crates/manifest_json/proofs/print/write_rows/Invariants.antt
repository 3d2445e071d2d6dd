use Rattle.std.proofs.Common.{◌≡◌, [], ◌∷◌, ◌++◌, take}
use Rattle.std.specs.List.{flat_map}
use Rattle.json.specs.Token.{Token}
use Rattle.manifest_json.specs.Texts.{row_data, tokens_of}
use Rattle.manifest_json.specs.Whole.{HaveDigests}
use Rattle.manifest_json.proofs.print.write_rows.Given as goal

abbrev pub invariant-loop-row : goal.invariant-loop-row
invariant-loop-row l = record {
  tokens : l.writer.tokens ≡ l.fn.writer.tokens ++ Token.begin_array ∷ flat_map (λ r. tokens_of (row_data l.version r)) (take l.row-index l.rows);
  before : l.writer.before ≡ l.fn.writer.before;
  kept : HaveDigests (take l.row-index l.rows);
}
