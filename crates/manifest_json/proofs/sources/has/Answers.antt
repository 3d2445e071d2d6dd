use Rattle.std.proofs.Common.{◌∙◌, sym}
use Rattle.std.specs.List.{list_any}
use Rattle.manifest_json.proofs.Lookups.{key_is}
use Rattle.manifest_json.proofs.sources.has.Goals as goal

pub returns : goal.returns
returns c = c.contains.ensures ∙ (λ i. list_any (λ k. key_is (c.args.id, c.args.path) k i) c.args.set.now.keys)
