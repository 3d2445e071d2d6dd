-- The manifest of a disk.
use Rattle.std.specs.Prelude.{◌≡◌, ℕ, Err, length}
use Rattle.std.specs.declared.option.Option.{Option}
use Rattle.tree_fs.specs.Disk.{Disk, IsFile}
use Rattle.tree_fs.specs.Parts.{bytes_at}
use Rattle.manifest_json.specs.declared.error.ManifestError.{ManifestError}
use Rattle.manifest_json.specs.declared.manifest.Manifest.{Manifest}
use Rattle.manifest_json.specs.Manifests as json
use Rattle.desk_model.specs.Places.{manifest_spot}
use Rattle.desk_model.specs.Records.{manifest_of}
use Rattle.desk_model.specs.Outcome.{recorded_or_none}

-- how many bytes the manifest's file has, 0 where there is none
abbrev pub manifest_size : Disk → ℕ
manifest_size d = length (bytes_at d manifest_spot)

-- the manifest of a disk, none where no file is at its place
abbrev pub HasManifest : Disk → Option Manifest → Type 0
HasManifest d m = manifest_of d ≡ recorded_or_none m

-- the first fault of the manifest's file
pub record HasManifestFault (d : Disk) (error : ManifestError) : Type 0 where
  pub file : IsFile d manifest_spot
  pub fault : json.manifest_of (bytes_at d manifest_spot) ≡ Err error
