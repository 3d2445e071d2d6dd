use Rattle.std.proofs.lemmas.Slice.Eq.{slice_eq-Decides}
use Rattle.manifest_json.proofs.Same.{texts}
use Rattle.manifest_json.proofs.manifest.same_paths.Goals as goal

pub returns : goal.returns
returns c = slice_eq-Decides texts _ _ _ c.eq.ensures
