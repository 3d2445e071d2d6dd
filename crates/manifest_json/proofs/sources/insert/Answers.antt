use Rattle.std.proofs.Common.{◌∙◌, ap}
use Rattle.std.specs.List.{list_any}
use Rattle.manifest_json.specs.Sources.{is_pair}
use Rattle.manifest_json.proofs.Lookups.{has_inserted}
use Rattle.manifest_json.proofs.sources.insert.Goals as goal

pub returns : goal.returns
returns c = λ m p.
    ap (list_any (λ x. is_pair x.0.now x.1.now m p)) c.in_ok-insert.ensures.keys
    ∙ has_inserted (c.args.id, c.args.path) c.args.set.now.keys m p
