-- A disk has one manifest.
use Rattle.std.proofs.Common.{◌≡◌, refl, sym, ap, ◌∙◌, subst}
use Rattle.std.specs.declared.option.Option.{Option}
use Rattle.std.specs.declared.option.Option.TheVariants.{None, Some}
use Rattle.tree_fs.specs.Disk.{Disk}
use Rattle.manifest_json.specs.declared.manifest.Manifest.{Manifest}
use Rattle.move_plan.specs.declared.plan.Plan.{Plan}
use Rattle.move_plan.specs.Idle.{IsIdle}
use Rattle.desk_model.specs.Records.{Recorded, nothing, refused, recorded}
use Rattle.desk_model.specs.Outcome.{recorded_or_none}
use Rattle.command_steps.specs.Manifests.{HasManifest}
use Rattle.command_steps.specs.Plans.{IsIdleOn}

abbrev read_from : Recorded → Option Manifest
read_from nothing = None
read_from (refused bytes) = None
read_from (recorded m) = Some m

read-recorded : (m : Option Manifest) → read_from (recorded_or_none m) ≡ m
read-recorded None = refl
read-recorded (Some m) = refl

one_manifest : (d : Disk) (a b : Option Manifest) → HasManifest d a → HasManifest d b → a ≡ b
one_manifest d a b h k = sym (read-recorded a) ∙ ap read_from (sym h ∙ k) ∙ read-recorded b

pub idle_there : (d : Disk) (plan : Plan) (there : Option Manifest) → HasManifest d there → IsIdleOn d plan → IsIdle plan there
idle_there d plan there has is = subst (IsIdle plan) (one_manifest d is.there there is.has has) is.idle
