-- The disk that some files are, and that of the sample.
use Rattle.std.specs.Prelude.{◌≡◌, ℕ, true, not, ◌||◌, List, [], ◌∷◌, map, length, position, slice_index_or}
use Rattle.std.specs.List.{list_any, flat_map}
use Rattle.std.specs.declared.option.Option.{Option}
use Rattle.std.specs.declared.option.Option.TheVariants.{None, Some}
use Rattle.std.specs.declared.result.Result.TheVariants.{Ok}
use Rattle.profile_toml.specs.Profiles.{profile_of}
use Rattle.tree_fs.specs.declared.place.Root.TheVariants.{Stage}
use Rattle.tree_fs.specs.Disk.{Disk, Value, none, file}
use Rattle.tree_fs.specs.Spot.{Spot, spot_eq, has_some}
use Rattle.tree_mem.specs.declared.mem_tree.MemTree.{MemTree}
use Rattle.tree_mem.specs.MemStory.{Begins, faults_of, failures_of, calls_of}
use Rattle.sample_world.specs.Files.{WorldFile, sample_files}
use Rattle.sample_world.specs.Profiles.{sample_profile}

-- the names of the folders above some names, without the root
abbrev pub fronts : List (List ℕ) → List (List (List ℕ))
fronts [] = []
fronts (x ∷ []) = []
fronts (x ∷ y ∷ ys) = (x ∷ []) ∷ map (λ front. x ∷ front) (fronts (y ∷ ys))

-- the folders that a file needs
abbrev pub folders_above : Spot → List Spot
folders_above at = map (λ names. record { root = at.root; names = names }) (fronts at.names)

abbrev pub needed : List WorldFile → List Spot
needed files = flat_map (λ f. folders_above f.at) files

abbrev pub file_numbered : Option ℕ → Value
file_numbered None = none
file_numbered (Some n) = file n

-- what stands in for a file with a number that none has
abbrev pub no_file : WorldFile
no_file = record { at = record { root = Stage; names = [] }; bytes = [] }

-- the disk of these folders and files, the files numbered in their order, all settled and firm
unfoldable pub disk_with : List Spot → List WorldFile → Disk
disk_with folders files = record {
  folders = λ q. not (has_some q.names) || list_any (spot_eq q) folders;
  now = λ q. file_numbered (position (λ f. spot_eq q f.at) files);
  before = λ q. [];
  bytes = λ n. (slice_index_or files n no_file).bytes;
  firm = λ n. true;
  fresh = length files;
}

-- the disk of these files, with the folders that they need
abbrev pub disk_of_files : List WorldFile → Disk
disk_of_files files = disk_with (needed files) files

-- the story of a tree begins at the disk of these files, and no call of the tree is to fail
pub record HasFiles (files : List WorldFile) (tree : MemTree) : Type 0 where
  pub begins : Begins (disk_of_files files) tree
  pub faults : faults_of tree ≡ 0
  pub failures : failures_of tree ≡ []
  pub calls : calls_of tree ≡ 0

-- and they are those of the sample
pub record IsSample (number : ℕ) (tree : MemTree) : Type 0 where
  pub text : List ℕ
  pub profile : profile_of text ≡ Ok (sample_profile number)
  pub files : HasFiles (sample_files number text) tree
