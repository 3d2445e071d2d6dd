-- What holds of each manifest whose digests are known to be bytes.
use Rattle.std.specs.Prelude.{List}
use Rattle.std.specs.List.{AllByRecursion}
use Rattle.manifest_json.specs.declared.manifest.Row.{Row}
use Rattle.manifest_json.specs.declared.manifest.Manifest.{Manifest}
use Rattle.manifest_json.specs.Digests.{IsDigest}
use Rattle.manifest_json.specs.Sound.{AreRows, AreFolders}

abbrev pub HaveDigests : List Row → Type 0
HaveDigests rows = AllByRecursion (λ r. IsDigest r.digest.bytes) rows

pub record IsManifest (m : Manifest) : Type 0 where
  pub rows : AreRows m.rows
  pub digests : HaveDigests m.rows
  pub folders : AreFolders m.folders
