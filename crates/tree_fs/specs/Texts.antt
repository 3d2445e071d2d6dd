-- The texts of places.
use Rattle.std.specs.Prelude.{ℕ, ◌+◌, ◌==◌, if◌then◌else◌, List, [], ◌∷◌, ◌++◌, codes}
use Rattle.std.specs.Hash as fed
use Rattle.std.specs.Hash.{HashWrites}
use Rattle.std.specs.declared.option.Option.{Option}
use Rattle.std.specs.declared.option.Option.TheVariants.{None, Some}
use Rattle.rel_paths.specs.declared.control.Control.{Control}
use Rattle.rel_paths.specs.declared.control.Control.TheVariants.{Intent, IntentTemp, ManifestTemp, ProfileTemp, Profile, Manifest}
use Rattle.std.specs.Str.{bytes_eq}
use Rattle.rel_paths.specs.declared.error.PathError.{PathError}
use Rattle.rel_paths.specs.declared.error.PathError.TheVariants.{Empty, Long, Deep, BadName, Memory}
use Rattle.rel_paths.specs.Names.{names_of, path_fault, held_limits, IsHeldPath}
use Rattle.rel_paths.specs.Controls.{control_path}
use Rattle.tree_fs.specs.declared.place.Root.{Root}
use Rattle.tree_fs.specs.declared.place.Root.TheVariants.{Stage, Game, Keep}
use Rattle.tree_fs.specs.declared.place.Place.{Place}
use Rattle.tree_fs.specs.Spot.{Spot}

-- the word of a root
abbrev pub root_word : Root → List ℕ
root_word Stage = codes "stage"
root_word Game = codes "game"
root_word Keep = codes "keep"

-- a slash and the path, or nothing
abbrev pub rel_text : Option (List ℕ) → List ℕ
rel_text None = []
rel_text (Some text) = 47 ∷ text

-- the text of a place: its root's word, then its path
abbrev pub place_text : Place → List ℕ
place_text p = root_word p.root ++ rel_text p.rel

-- the root of a control place: the manifest lies in `game`, the others in `keep`
abbrev pub control_root : Control → Root
control_root Manifest = Game
control_root Intent = Keep
control_root IntentTemp = Keep
control_root ManifestTemp = Keep
control_root ProfileTemp = Keep
control_root Profile = Keep

-- where a control place lies on a disk
abbrev pub control_spot : Control → Spot
control_spot which = record { root = control_root which; names = names_of (control_path which) }

abbrev pub IsHeldRel : Option (List ℕ) → Type 0
IsHeldRel None = Unit {0}
IsHeldRel (Some path) = IsHeldPath path

-- a root, or a held path below one
abbrev pub IsHeldPlace : Place → Type 0
IsHeldPlace p = IsHeldRel p.rel

-- what stands before the first slash of a text, and what stands behind it
abbrev pub word_of : List ℕ → List ℕ
word_of [] = []
word_of (b ∷ bs) = if b == 47 then [] else b ∷ word_of bs

abbrev pub below_word : List ℕ → Option (List ℕ)
below_word [] = None
below_word (b ∷ bs) = if b == 47 then Some bs else below_word bs

-- the root of this name
abbrev pub root_named : List ℕ → Option Root
root_named word = if bytes_eq word (root_word Stage) then Some Stage else if bytes_eq word (root_word Game) then Some Game else if bytes_eq word (root_word Keep) then Some Keep else None

-- the fault where one name more stands before the path
abbrev pub one_name_later : PathError → PathError
one_name_later (BadName k) = BadName (k + 1)
one_name_later Empty = Empty
one_name_later Long = Long
one_name_later Deep = Deep
one_name_later Memory = Memory

abbrev pub fault_later : Option PathError → Option PathError
fault_later None = None
fault_later (Some e) = Some (one_name_later e)

abbrev pub rel_fault : Option (List ℕ) → Option PathError
rel_fault None = None
rel_fault (Some path) = fault_later (path_fault held_limits path)

abbrev pub fault_below : Option Root → Option (List ℕ) → Option PathError
fault_below None rel = Some (BadName 0)
fault_below (Some root) rel = rel_fault rel

-- the first fault of a text as that of a place: the root's word is name 0, and the names of the path follow
unfoldable pub place_fault : List ℕ → Option PathError
place_fault text = fault_below (root_named (word_of text)) (below_word text)

abbrev pub rel_writes : Option (List ℕ) → HashWrites
rel_writes None = []
rel_writes (Some path) = fed.str path

-- what the hash of a place is made of: the root's word, and the path
unfoldable pub text_writes : List ℕ → HashWrites
text_writes text = fed.str (word_of text) ++ rel_writes (below_word text)
