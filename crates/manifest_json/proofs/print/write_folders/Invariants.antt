use Rattle.std.proofs.Common.{◌≡◌, [], ◌∷◌, ◌++◌, take}
use Rattle.std.specs.List.{flat_map}
use Rattle.json.specs.Token.{Token}
use Rattle.serde_json.specs.Data.{string}
use Rattle.manifest_json.specs.Texts.{tokens_of}
use Rattle.manifest_json.proofs.print.write_folders.Given as goal

abbrev pub invariant-loop-folder : goal.invariant-loop-folder
invariant-loop-folder l = record {
  tokens : l.writer.tokens ≡ l.fn.writer.tokens ++ Token.begin_array ∷ flat_map (λ p. tokens_of (string p)) (take l.folder-index l.folders);
  before : l.writer.before ≡ l.fn.writer.before;
}
