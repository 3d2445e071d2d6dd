-- How many files lie in folders.
use Rattle.std.specs.Prelude.{ℕ, ◌+◌, Bool, true, false, List, [], ◌∷◌, ◌++◌, filter, length}
use Rattle.std.specs.List.{flat_map}
use Rattle.std.specs.declared.option.Option.{Option}
use Rattle.std.specs.declared.option.Option.TheVariants.{None, Some}
use Rattle.tree_fs.specs.declared.name.Entry.{Entry}
use Rattle.tree_fs.specs.declared.name.Kind.{Kind}
use Rattle.tree_fs.specs.declared.name.Kind.TheVariants.{Absent, File, Folder, Other}
use Rattle.tree_fs.specs.Disk.{Disk}
use Rattle.tree_fs.specs.Listing.{IsListing}
use Rattle.tree_fs.specs.Spot.{Spot, below}

abbrev pub is_file : Kind → Bool
is_file Absent = false
is_file File = true
is_file Folder = false
is_file Other = false

-- how many of these entries are files
abbrev pub files_among : List Entry → ℕ
files_among entries = length (filter (λ e. is_file e.kind) entries)

-- the place of an entry of a folder, where it is a folder
abbrev pub folder_of : Spot → List ℕ → Kind → List Spot
folder_of folder name Folder = below folder name ∷ []
folder_of folder name Absent = []
folder_of folder name File = []
folder_of folder name Other = []

abbrev pub folder_in : Spot → Entry → List Spot
folder_in folder e = folder_of folder e.name e.kind

-- the places of those entries of a folder that are folders
abbrev pub folders_among : Spot → List Entry → List Spot
folders_among folder entries = flat_map (folder_in folder) entries

-- so many files lie in these folders and in the folders below them, by the listing of each
pub data HasFiles (d : Disk) : List Spot → ℕ → Type 0 where
  none : HasFiles d [] 0
  listed : (rest : List Spot) (folder : Spot) (entries : List Entry) (n : ℕ) → IsListing d folder entries → HasFiles d (rest ++ folders_among folder entries) n → HasFiles d (rest ++ folder ∷ []) (files_among entries + n)

-- the text of a path with one name more
abbrev pub text_below : Option (List ℕ) → List ℕ → List ℕ
text_below None name = name
text_below (Some above) name = above ++ 47 ∷ name
