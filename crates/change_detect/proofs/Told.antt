-- The class of a row by what a tree told of its places.
use Rattle.std.proofs.Common.{◌≡◌, Bool, refl, sym, ap, ◌∙◌}
use Rattle.std.specs.Str.{bytes_eq}
use Rattle.std.specs.declared.option.Option.{Option}
use Rattle.std.specs.declared.option.Option.TheVariants.{Some}
use Rattle.sha2.specs.Sha256.{sha256}
use Rattle.tree_fs.specs.declared.name.Kind.TheVariants.{File}
use Rattle.tree_fs.specs.Spot.{Spot}
use Rattle.tree_fs.specs.Places.{game_spot}
use Rattle.tree_fs.specs.Disk.{Disk, kind_of, is_one_file}
use Rattle.tree_fs.specs.Parts.{bytes_at}
use Rattle.tree_fs.specs.Story.{Story, disk_of}
use Rattle.manifest_json.specs.declared.manifest.Row.{Row}
use Rattle.change_choices.specs.declared.class.Class.{Class}
use Rattle.change_detect.specs.declared.classes.Test.{Test}
use Rattle.change_detect.specs.declared.classes.Test.TheVariants.{Quick, Whole}
use Rattle.change_detect.specs.Classes.{staged_of, class_by, class_of, unless_changed}
use Rattle.change_detect.specs.Refusals.{file_or_absent}
use Rattle.change_detect.specs.Tests.{told_by}

-- whether two places have one file, and whether the first has bytes of this digest
abbrev pub one_at : Disk → Spot → Spot → Bool
one_at d game staged = is_one_file (d.now game) (d.now staged)

abbrev pub same_at : Disk → Spot → Row → Bool
same_at d game r = bytes_eq (sha256 (bytes_at d game)) r.digest.bytes

-- the class where a file is at each place or nothing
pub class_here : (s t : Story) (r : Row) (game staged : Spot) (a b x y : Bool) → t ≡ s → game ≡ game_spot r.path → staged ≡ staged_of r → kind_of (disk_of s) game ≡ file_or_absent a → kind_of (disk_of t) staged ≡ file_or_absent b → a ≡ x → b ≡ y
    → class_of (disk_of s) r ≡ class_by (file_or_absent x) (file_or_absent y) (one_at (disk_of s) (game_spot r.path) (staged_of r)) (same_at (disk_of s) (game_spot r.path) r)
unfolding class_of
class_here s t r game staged a b x y same g u in_game in_stage is_x is_y =
    let d = disk_of s in
    let first : kind_of d (game_spot r.path) ≡ file_or_absent x = ap (kind_of d) (sym g) ∙ in_game ∙ ap file_or_absent is_x in
    let second : kind_of d (staged_of r) ≡ file_or_absent y = (λ i. kind_of (disk_of (sym same i)) (sym u i)) ∙ in_stage ∙ ap file_or_absent is_y in
    λ i. class_by (first i) (second i) (one_at d (game_spot r.path) (staged_of r)) (same_at d (game_spot r.path) r)

-- a class that the quick test tells too
pub told-by_each : (test : Test) (c : Class) → unless_changed (Some c) ≡ Some c → told_by test (Some c) ≡ Some c
told-by_each Quick c e = e
told-by_each Whole c e = refl

-- of two files, what was told of them is told of the row
pub told_pair : (s t : Story) (r : Row) (game staged : Spot) (test : Test) (told : Option Class) → t ≡ s → game ≡ game_spot r.path → staged ≡ staged_of r
    → class_of (disk_of s) r ≡ class_by File File (one_at (disk_of s) (game_spot r.path) (staged_of r)) (same_at (disk_of s) (game_spot r.path) r)
    → told ≡ told_by test (class_by File File (one_at (disk_of t) game staged) (same_at (disk_of t) game r)) → told ≡ told_by test (class_of (disk_of s) r)
told_pair s t r game staged test told same g u is h =
    h ∙ (λ i. told_by test (class_by File File (one_at (disk_of (same i)) (g i) (u i)) (same_at (disk_of (same i)) (g i) r))) ∙ ap (told_by test) (sym is)
