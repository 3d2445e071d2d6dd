-- Each call that puts a file of the sample: it can be made, and leaves one file more.
use Rattle.std.proofs.Common.{◌≡◌, ◌≢◌, ◌<◌, ◌≤◌, ◌+◌, ◌*◌, ◌%◌, ℕ, true, List, [], ◌∷◌, ◌++◌, refl, sym, ap, ◌∙◌}
use Rattle.tree_fs.specs.Calls.{CanPut}
use Rattle.tree_fs.specs.Disk.{Disk}
use Rattle.tree_fs.specs.Spot.{Spot, parent}
use Rattle.tree_fs.specs.Story.{disk_of}
use Rattle.tree_mem.specs.declared.mem_tree.MemTree.{MemTree}
use Rattle.tree_mem.specs.Changed.{with_file, with_folder, settled_at}
use Rattle.tree_mem.specs.MemStory.{mem_story, Begins}
use Rattle.sample_world.specs.Files.{WorldFile, mod_file, game_file, is_in_game, profile_file}
use Rattle.sample_world.specs.Parts.{mods_below, files_below, game_below}
use Rattle.sample_world.specs.Texts.{folder_name, mod_bytes, game_bytes}
use Rattle.sample_world.specs.Worlds.{needed, disk_with, disk_of_files, HasFiles}
use Rattle.sample_world.proofs.Apart.{staged, in_game}
use Rattle.sample_world.proofs.Grown.{with_mod, can_put_mod, can_put_first_folder, can_put_first, free_first, grown_first, can_put_folder, can_put_in_new, free_next, grown_in_new, can_put_file, grown_file, can_put_game_folder, can_put_game_in_new, free_game, grown_game_in_new, can_put_game, grown_game, can_put_profile, profile_free, grown_profile}
use Rattle.sample_world.proofs.Trees.{disk_is, can_put_at, folder_put, file_put}

abbrev pub with_parent : Disk → Spot → Disk
with_parent d p = settled_at (with_folder d (parent p)) (parent p)

abbrev pub with_both : Disk → Spot → List ℕ → Disk
with_both d p bytes = settled_at (with_file (with_parent d p) p bytes) p

-- the places of files lie below a folder

pub not_root : (p : Spot) (f : WorldFile) (x y : List ℕ) (ys : List (List ℕ)) → f.at.names ≡ x ∷ y ∷ ys → p ≡ f.at → p.names ≢ []
not_root p f x y ys names place e =
    let never : x ∷ y ∷ ys ≡ [] = sym names ∙ sym (ap (λ (s : Spot). s.names) place) ∙ e in cc

parent_staged : (i k : ℕ) → parent (mod_file i k).at ≡ staged i (folder_name k ∷ [])
unfolding parent
parent_staged i k = refl

parent_game : (k : ℕ) → parent (game_file k).at ≡ in_game (folder_name k ∷ [])
unfolding parent
parent_game k = refl

-- The first file of a mod

module _ (i : ℕ) (few : i < 1000) (old : MemTree) (h : HasFiles (mods_below i) old) (folder : Spot) (at_mod : folder ≡ staged i []) where
  pub can_add_mod : CanPut (disk_of (mem_story old)) folder
  can_add_mod = can_put_at (disk_of (mem_story old)) (disk_of_files (mods_below i)) folder (staged i []) (disk_is (mods_below i) old h) at_mod (can_put_mod i few)

  module _ (made : MemTree) (begins : Begins (settled_at (with_folder (disk_of (mem_story old)) folder) folder) made) (p : Spot) (place : p ≡ (mod_file i (50 * i)).at) where
    made_is : disk_of (mem_story made) ≡ disk_with (with_mod i few) (mods_below i)
    made_is = ap disk_of begins ∙ folder_put (needed (mods_below i)) (mods_below i) (staged i []) (disk_of (mem_story old)) folder (disk_is (mods_below i) old h) at_mod

    above : parent p ≡ staged i (folder_name (50 * i) ∷ [])
    above = ap parent place ∙ parent_staged i (50 * i)

    with_is : with_parent (disk_of (mem_story made)) p ≡ disk_with (with_mod i few ++ staged i (folder_name (50 * i) ∷ []) ∷ []) (mods_below i)
    with_is = folder_put (with_mod i few) (mods_below i) (staged i (folder_name (50 * i) ∷ [])) (disk_of (mem_story made)) (parent p) made_is above

    pub can_add_first_folder : CanPut (disk_of (mem_story made)) (parent p)
    can_add_first_folder = can_put_at (disk_of (mem_story made)) (disk_with (with_mod i few) (mods_below i)) (parent p) (staged i (folder_name (50 * i) ∷ [])) made_is above (can_put_first_folder i few (50 * i))

    pub can_add_first : CanPut (with_parent (disk_of (mem_story made)) p) p
    can_add_first =
        can_put_at (with_parent (disk_of (mem_story made)) p) (disk_with (with_mod i few ++ staged i (folder_name (50 * i) ∷ []) ∷ []) (mods_below i)) p (mod_file i (50 * i)).at with_is place
        (can_put_first i few (50 * i))

    pub first_added : (bytes : List ℕ) → bytes ≡ mod_bytes i (50 * i) → with_both (disk_of (mem_story made)) p bytes ≡ disk_of_files (files_below i 1)
    first_added bytes is =
        file_put (with_mod i few ++ staged i (folder_name (50 * i) ∷ []) ∷ []) (mods_below i) (mod_file i (50 * i)) (with_parent (disk_of (mem_story made)) p) p bytes (free_first i few (50 * i)) with_is place is
        ∙ grown_first i few

-- One more file of a mod

module _ (i count k : ℕ) (few : i < 1000) (some : 0 < count) (most : count < 100) (is : 50 * i + count ≡ k) (old : MemTree) (h : HasFiles (files_below i count) old) (p : Spot) (place : p ≡ (mod_file i k).at) where
  next_is : disk_of (mem_story old) ≡ disk_of_files (files_below i count)
  next_is = disk_is (files_below i count) old h

  next_above : parent p ≡ staged i (folder_name k ∷ [])
  next_above = ap parent place ∙ parent_staged i k

  next_with : with_parent (disk_of (mem_story old)) p ≡ disk_with (needed (files_below i count) ++ staged i (folder_name k ∷ []) ∷ []) (files_below i count)
  next_with = folder_put (needed (files_below i count)) (files_below i count) (staged i (folder_name k ∷ [])) (disk_of (mem_story old)) (parent p) next_is next_above

  pub can_add_folder : k % 100 ≡ 0 → CanPut (disk_of (mem_story old)) (parent p)
  can_add_folder whole = can_put_at (disk_of (mem_story old)) (disk_of_files (files_below i count)) (parent p) (staged i (folder_name k ∷ [])) next_is next_above (can_put_folder i count k few some most is whole)

  pub can_add_in_new : CanPut (with_parent (disk_of (mem_story old)) p) p
  can_add_in_new =
      can_put_at (with_parent (disk_of (mem_story old)) p) (disk_with (needed (files_below i count) ++ staged i (folder_name k ∷ []) ∷ []) (files_below i count)) p (mod_file i k).at next_with place
      (can_put_in_new i count k few some most is)

  pub added_in_new : (bytes : List ℕ) → bytes ≡ mod_bytes i k → with_both (disk_of (mem_story old)) p bytes ≡ disk_of_files (files_below i (count + 1))
  added_in_new bytes same =
      file_put (needed (files_below i count) ++ staged i (folder_name k ∷ []) ∷ []) (files_below i count) (mod_file i k) (with_parent (disk_of (mem_story old)) p) p bytes (free_next i count k few some most is) next_with place same
      ∙ grown_in_new i count k few some most is

  pub can_add_file : (k % 100 ≡ 0 → ⊥) → CanPut (disk_of (mem_story old)) p
  can_add_file part = can_put_at (disk_of (mem_story old)) (disk_of_files (files_below i count)) p (mod_file i k).at next_is place (can_put_file i count k few some most is part)

  pub added_file : (k % 100 ≡ 0 → ⊥) → (bytes : List ℕ) → bytes ≡ mod_bytes i k → settled_at (with_file (disk_of (mem_story old)) p bytes) p ≡ disk_of_files (files_below i (count + 1))
  added_file part bytes same =
      file_put (needed (files_below i count)) (files_below i count) (mod_file i k) (disk_of (mem_story old)) p bytes (free_next i count k few some most is) next_is place same ∙ grown_file i count k few some most is part

-- One more file of the game

module _ (number k : ℕ) (few : k < 100000) (there : is_in_game number k ≡ true) (old : MemTree) (h : HasFiles (game_below number k) old) (p : Spot) (place : p ≡ (game_file k).at) where
  game_is : disk_of (mem_story old) ≡ disk_of_files (game_below number k)
  game_is = disk_is (game_below number k) old h

  game_above : parent p ≡ in_game (folder_name k ∷ [])
  game_above = ap parent place ∙ parent_game k

  game_with : with_parent (disk_of (mem_story old)) p ≡ disk_with (needed (game_below number k) ++ in_game (folder_name k ∷ []) ∷ []) (game_below number k)
  game_with = folder_put (needed (game_below number k)) (game_below number k) (in_game (folder_name k ∷ [])) (disk_of (mem_story old)) (parent p) game_is game_above

  pub can_add_game_folder : k % 100 < 7 → CanPut (disk_of (mem_story old)) (parent p)
  can_add_game_folder first = can_put_at (disk_of (mem_story old)) (disk_of_files (game_below number k)) (parent p) (in_game (folder_name k ∷ [])) game_is game_above (can_put_game_folder number k few there first)

  pub can_add_game_in_new : CanPut (with_parent (disk_of (mem_story old)) p) p
  can_add_game_in_new =
      can_put_at (with_parent (disk_of (mem_story old)) p) (disk_with (needed (game_below number k) ++ in_game (folder_name k ∷ []) ∷ []) (game_below number k)) p (game_file k).at game_with place
      (can_put_game_in_new number k few)

  pub game_added_in_new : (bytes : List ℕ) → bytes ≡ game_bytes k → with_both (disk_of (mem_story old)) p bytes ≡ disk_of_files (game_below number (k + 1))
  game_added_in_new bytes same =
      file_put (needed (game_below number k) ++ in_game (folder_name k ∷ []) ∷ []) (game_below number k) (game_file k) (with_parent (disk_of (mem_story old)) p) p bytes (free_game number k few) game_with place same
      ∙ grown_game_in_new number k few there

  pub can_add_game : 7 ≤ k % 100 → CanPut (disk_of (mem_story old)) p
  can_add_game later = can_put_at (disk_of (mem_story old)) (disk_of_files (game_below number k)) p (game_file k).at game_is place (can_put_game number k few there later)

  pub game_added : 7 ≤ k % 100 → (bytes : List ℕ) → bytes ≡ game_bytes k → settled_at (with_file (disk_of (mem_story old)) p bytes) p ≡ disk_of_files (game_below number (k + 1))
  game_added later bytes same =
      file_put (needed (game_below number k)) (game_below number k) (game_file k) (disk_of (mem_story old)) p bytes (free_game number k few) game_is place same ∙ grown_game number k few there later

-- The profile

module _ (number k : ℕ) (text : List ℕ) (old : MemTree) (h : HasFiles (game_below number k) old) (p : Spot) (place : p ≡ (profile_file text).at) where
  pub can_add_profile : CanPut (disk_of (mem_story old)) p
  can_add_profile = can_put_at (disk_of (mem_story old)) (disk_of_files (game_below number k)) p (profile_file text).at (disk_is (game_below number k) old h) place (can_put_profile number k text)

  pub profile_added : (bytes : List ℕ) → bytes ≡ text → settled_at (with_file (disk_of (mem_story old)) p bytes) p ≡ disk_of_files (game_below number k ++ profile_file text ∷ [])
  profile_added bytes same =
      file_put (needed (game_below number k)) (game_below number k) (profile_file text) (disk_of (mem_story old)) p bytes (profile_free number k text) (disk_is (game_below number k) old h) place same ∙ grown_profile number k text
