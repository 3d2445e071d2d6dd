-- Which own folders go: what a planner looks at, and what it finds.
use Rattle.std.specs.Prelude.{◌≡◌, ◌≢◌, ◌⊎◌, ◌↔◌, ℕ, List, [], ◌∷◌, ◌++◌, map}
use Rattle.std.specs.List.{AllByRecursion, Contains}
use Rattle.tree_fs.specs.declared.name.Kind.{Kind}
use Rattle.tree_fs.specs.declared.name.Kind.TheVariants.{Absent, File, Folder, Other}
use Rattle.tree_fs.specs.declared.name.Entry.{Entry}
use Rattle.tree_fs.specs.Spot.{Spot, below, IsBelow}
use Rattle.tree_fs.specs.Places.{game_spot}
use Rattle.tree_fs.specs.Disk.{Disk, kind_of}
use Rattle.tree_fs.specs.Calls.{IsFolder}
use Rattle.move_plan.specs.declared.plan.Plan.{Plan}
use Rattle.plan_model.specs.Folders.{GoesOff}
use Rattle.winner_table.specs.Folders.{IsFolderOf}
use Rattle.plan_lists.specs.declared.folders.Fate.{Fate}
use Rattle.plan_lists.specs.declared.folders.Fate.TheVariants.{Stays, Goes, Gone}

-- the text of an entry's path
abbrev pub text_in : List ℕ → List ℕ → List ℕ
text_in folder name = folder ++ 47 ∷ name

-- nothing is left of an entry of this kind: a folder goes, and what is no folder is emptied
abbrev pub LeavesNothing : (emptied off : List (List ℕ)) → Kind → List ℕ → Type 0
LeavesNothing emptied off Folder path = Contains off path
LeavesNothing emptied off Absent path = Contains emptied path
LeavesNothing emptied off File path = Contains emptied path
LeavesNothing emptied off Other path = Contains emptied path

-- nothing is left of each of the entries of a folder
abbrev pub AllLeave : List ℕ → (emptied off : List (List ℕ)) → List Entry → Type 0
AllLeave folder emptied off =
    AllByRecursion (λ e. LeavesNothing emptied off e.kind (text_in folder e.name))

-- what the plan leaves of an entry of an own folder that no file of the end lies below
pub data EntryGoes (a : Disk) (own emptied : List (List ℕ)) (plan : Plan) (x : Spot) : Type 0 where
  absent : kind_of a x ≡ Absent → EntryGoes a own emptied plan x
  given_up : kind_of a x ≢ Absent → kind_of a x ≢ Folder → Contains (map game_spot emptied) x
      → EntryGoes a own emptied plan x
  folder : kind_of a x ≡ Folder → GoesOff a own plan x → EntryGoes a own emptied plan x

-- how a plan's folders go by the entries of own folders, where these files are there in the end, and
-- no file is at the emptied paths
pub record GoesByOwn (a : Disk) (own files emptied : List (List ℕ)) (plan : Plan) : Type 0 where
  -- none but own folders go
  pub owned : (s : Spot) → GoesOff a own plan s → Contains (map game_spot own) s × IsFolder a s
  -- none that one of the files lies below
  pub kept : (path : List ℕ) → IsFolderOf files path → ¬ GoesOff a own plan (game_spot path)
  -- and of the others those whose entries go
  pub goes : (path : List ℕ) → Contains own path → ¬ IsFolderOf files path
      → IsFolder a (game_spot path)
      → (((name : List ℕ) → EntryGoes a own emptied plan (below (game_spot path) name))
      ↔ GoesOff a own plan (game_spot path))

-- just those go that lie below this place
abbrev pub AreOffBelow : Disk → (own off : List (List ℕ)) → Plan → Spot → Type 0
AreOffBelow a own off plan s =
    (x : Spot) → IsBelow s x → (Contains (map game_spot off) x ↔ GoesOff a own plan x)

-- the fate of an own folder
abbrev pub IsFate : Disk → (own files : List (List ℕ)) → Plan → List ℕ → Fate → Type 0
IsFate a own files plan path Stays =
    (IsFolderOf files path ⊎ IsFolder a (game_spot path)) × (¬ GoesOff a own plan (game_spot path))
IsFate a own files plan path Goes = GoesOff a own plan (game_spot path)
IsFate a own files plan path Gone =
    (¬ IsFolderOf files path) × (¬ IsFolder a (game_spot path))

-- what becomes of these of the own folders
pub record AreParted (a : Disk) (own files : List (List ℕ)) (plan : Plan)
    (some kept off : List (List ℕ)) : Type 0 where
  pub goes : (path : List ℕ)
      → (Contains off path ↔ Contains some path × GoesOff a own plan (game_spot path))
  pub stays : (path : List ℕ)
      → (Contains kept path
      ↔ Contains some path × (IsFolderOf files path ⊎ IsFolder a (game_spot path))
      × (¬ GoesOff a own plan (game_spot path)))

-- the lists with one folder more, by its fate
abbrev pub kept_with : Fate → List ℕ → List (List ℕ) → List (List ℕ)
kept_with Stays path kept = kept ++ path ∷ []
kept_with Goes path kept = kept
kept_with Gone path kept = kept

abbrev pub off_with : Fate → List ℕ → List (List ℕ) → List (List ℕ)
off_with Stays path off = off
off_with Goes path off = off ++ path ∷ []
off_with Gone path off = off
