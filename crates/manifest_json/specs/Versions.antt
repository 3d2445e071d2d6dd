-- The versions of the format.
use Rattle.std.specs.Prelude.{ℕ, ◌==◌, List, Option, None, Some, codes, if◌then◌else◌}
use Rattle.manifest_json.specs.declared.version.FormatVersion.{FormatVersion}
use Rattle.manifest_json.specs.declared.version.FormatVersion.TheVariants.{One, Two}

abbrev pub number_of : FormatVersion → ℕ
number_of One = 1
number_of Two = 2

abbrev pub version_numbered : ℕ → Option FormatVersion
version_numbered n = if n == 1 then Some One else if n == 2 then Some Two else None

-- the key at which a row has its source: in the first version the source is the path
abbrev pub source_key : FormatVersion → List ℕ
source_key One = codes "path"
source_key Two = codes "source"
