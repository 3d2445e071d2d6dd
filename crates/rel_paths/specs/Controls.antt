-- The places that the program keeps for itself.
use Rattle.std.specs.Prelude.{List, [], ◌∷◌, ℕ, codes}
use Rattle.rel_paths.specs.declared.control.Control.{Control}
use Rattle.rel_paths.specs.declared.control.Control.TheVariants.{Intent, IntentTemp, ManifestTemp, ProfileTemp, Profile, Manifest}

-- the path of a control place below its root
abbrev pub control_path : Control → List ℕ
control_path Intent = codes "intent.json"
control_path IntentTemp = codes "intent.tmp"
control_path ManifestTemp = codes "manifest.tmp"
control_path ProfileTemp = codes "profile.tmp"
control_path Profile = codes "profile.toml"
control_path Manifest = codes "vortex.deployment.json"

-- the control places in their order: where several are in the way, the first is told
abbrev pub control_order : List Control
control_order = Intent ∷ IntentTemp ∷ ManifestTemp ∷ ProfileTemp ∷ Profile ∷ Manifest ∷ []
