-- The disk of the sample grows by one file, with the folders that it is the first to need.
use Rattle.std.proofs.Common.{◌≡◌, ◌≢◌, ◌<◌, ◌≤◌, ◌+◌, ◌*◌, ◌%◌, ℕ, true, false, List, [], ◌∷◌, ◌++◌, map, filter, length, append_assoc, append-nil, position, None, refl, sym, ap, ◌∙◌, inl, inr, arith}
use Rattle.std.specs.List.{AllByRecursion, range_with_len, flat_map, list_any}
use Rattle.std.proofs.lemmas.Grind.{flat_map-append}
use Rattle.std.proofs.lemmas.List.FromFn.{map-range_with_len_more}
use Rattle.tree_fs.specs.Calls.{CanPut}
use Rattle.tree_fs.specs.Spot.{Spot, spot_eq, parent}
use Rattle.sample_world.specs.Files.{WorldFile, mod_file, mod_files, game_file, is_in_game, stage_files, game_files, profile_file}
use Rattle.sample_world.specs.Parts.{mods_below, files_below, game_below}
use Rattle.sample_world.specs.Texts.{mods_of, folder_name}
use Rattle.sample_world.specs.Worlds.{folders_above, needed, disk_with, disk_of_files}
use Rattle.sample_world.proofs.Apart.{staged, clear_below, clear_file, clear_folder, mod_there, folder_there, in_game, clear_game_file, clear_game_folder, game_folder_there, clear_profile}
use Rattle.sample_world.proofs.Ranges.{range_next, filter_passes, filter_fails}
use Rattle.sample_world.proofs.Standing.{IsClear, stands_at, clear_files, clear_folders, last_there, not_there, absorbed, can_put, same_folders}

needed_more : (files : List WorldFile) (f : WorldFile) → needed (files ++ f ∷ []) ≡ needed files ++ folders_above f.at
needed_more files f = flat_map-append (λ (x : WorldFile). folders_above x.at) files (f ∷ []) ∙ ap (λ l. needed files ++ l) (append-nil (folders_above f.at))

-- a disk whose folders are those that its files need
grown : (folders : List Spot) (files whole : List WorldFile) (f : WorldFile) → whole ≡ files ++ f ∷ [] → ((q : Spot) → list_any (spot_eq q) folders ≡ list_any (spot_eq q) (needed files ++ folders_above f.at)) → disk_with folders (files ++ f ∷ []) ≡ disk_of_files whole
grown folders files whole f is h =
    same_folders folders (needed (files ++ f ∷ [])) (files ++ f ∷ []) (λ q. h q ∙ ap (list_any (spot_eq q)) (sym (needed_more files f))) ∙ ap disk_of_files (sym is)

-- The first file of a mod

first_names : (i : ℕ) (x : List ℕ) (rest : List (List ℕ)) → staged i (x ∷ rest) ≢ staged i []
first_names i x rest e = let size = ap (λ (s : Spot). length s.names) e in omega (arith, size)

second_names : (i : ℕ) (x y : List ℕ) → staged i (x ∷ y ∷ []) ≢ staged i (x ∷ [])
second_names i x y e = let size = ap (λ (s : Spot). length s.names) e in omega (arith, size)

module _ (i : ℕ) (few : i < 1000) where
  -- the folders that are there once that of the mod is
  abbrev pub with_mod : List Spot
  with_mod = needed (mods_below i) ++ staged i [] ∷ []

  pub can_put_mod : CanPut (disk_of_files (mods_below i)) (staged i [])
  unfolding parent
  can_put_mod = can_put (needed (mods_below i)) (mods_below i) (staged i []) refl (clear_folders (staged i []) (mods_below i) (clear_below i [] few)) (clear_files (staged i []) (mods_below i) (clear_below i [] few)) (inl refl)

  not_in_with_mod : (x : List ℕ) (rest : List (List ℕ)) → list_any (spot_eq (staged i (x ∷ rest))) with_mod ≡ false
  not_in_with_mod x rest = not_there (staged i (x ∷ rest)) (staged i []) (needed (mods_below i)) (clear_folders (staged i (x ∷ rest)) (mods_below i) (clear_below i (x ∷ rest) few)) (first_names i x rest)

  pub can_put_first_folder : (k : ℕ) → CanPut (disk_with with_mod (mods_below i)) (staged i (folder_name k ∷ []))
  unfolding parent
  can_put_first_folder k =
      can_put with_mod (mods_below i) (staged i (folder_name k ∷ [])) refl (not_in_with_mod (folder_name k) []) (clear_files (staged i (folder_name k ∷ [])) (mods_below i) (clear_below i (folder_name k ∷ []) few))
      (inr (last_there (staged i []) (needed (mods_below i))))

  pub can_put_first : (k : ℕ) → CanPut (disk_with (with_mod ++ staged i (folder_name k ∷ []) ∷ []) (mods_below i)) (mod_file i k).at
  unfolding parent
  can_put_first k =
      let at = (mod_file i k).at in
      can_put (with_mod ++ staged i (folder_name k ∷ []) ∷ []) (mods_below i) at refl
      (not_there at (staged i (folder_name k ∷ [])) with_mod (not_in_with_mod (folder_name k) _) (second_names i (folder_name k) _))
      (clear_files at (mods_below i) (clear_below i _ few))
      (inr (last_there (staged i (folder_name k ∷ [])) with_mod))

  pub free_first : (k : ℕ) → position (stands_at (mod_file i k).at) (mods_below i) ≡ None
  free_first k = clear_files (mod_file i k).at (mods_below i) (clear_below i _ few)

  pub grown_first : disk_with (with_mod ++ staged i (folder_name (50 * i) ∷ []) ∷ []) (mods_below i ++ mod_file i (50 * i) ∷ []) ≡ disk_of_files (files_below i 1)
  unfolding files_below
  grown_first =
      grown (with_mod ++ staged i (folder_name (50 * i) ∷ []) ∷ []) (mods_below i) (files_below i 1) (mod_file i (50 * i)) refl
      (λ q. ap (list_any (spot_eq q)) (append_assoc (needed (mods_below i)) (staged i [] ∷ []) (staged i (folder_name (50 * i) ∷ []) ∷ [])))

-- One more file of a mod

module _ (i count k : ℕ) (few : i < 1000) (some : 0 < count) (most : count < 100) (is : 50 * i + count ≡ k) where
  abbrev pub so_far : List WorldFile
  so_far = files_below i count

  abbrev pub its_folder : Spot
  its_folder = staged i (folder_name k ∷ [])

  more : files_below i (count + 1) ≡ files_below i count ++ mod_file i k ∷ []
  unfolding files_below
  more =
      ap (λ l. mods_below i ++ l) (map-range_with_len_more (mod_file i) (50 * i) count k is)
      ∙ sym (append_assoc (mods_below i) (map (mod_file i) (range_with_len (50 * i) count)) (mod_file i k ∷ []))

  free : AllByRecursion (IsClear (mod_file i k).at) (files_below i count)
  free = clear_file i count k few most is

  pub free_next : position (stands_at (mod_file i k).at) (files_below i count) ≡ None
  free_next = clear_files (mod_file i k).at so_far free

  pub can_put_folder : k % 100 ≡ 0 → CanPut (disk_of_files (files_below i count)) its_folder
  unfolding parent
  can_put_folder whole =
      let clear = clear_folder i count k few most is whole in
      can_put (needed so_far) so_far its_folder refl (clear_folders its_folder so_far clear) (clear_files its_folder so_far clear) (inr (mod_there i count some))

  pub can_put_in_new : CanPut (disk_with (needed (files_below i count) ++ its_folder ∷ []) (files_below i count)) (mod_file i k).at
  unfolding parent
  can_put_in_new =
      let at = (mod_file i k).at in
      can_put (needed so_far ++ its_folder ∷ []) so_far at refl
      (not_there at its_folder (needed so_far) (clear_folders at so_far free) (second_names i (folder_name k) _))
      (clear_files at so_far free) (inr (last_there its_folder (needed so_far)))

  pub grown_in_new : disk_with (needed (files_below i count) ++ its_folder ∷ []) (files_below i count ++ mod_file i k ∷ []) ≡ disk_of_files (files_below i (count + 1))
  grown_in_new =
      grown (needed so_far ++ its_folder ∷ []) so_far (files_below i (count + 1)) (mod_file i k) more
      (λ q. sym (absorbed (needed so_far) (staged i []) (its_folder ∷ []) (mod_there i count some) q))

  pub can_put_file : (k % 100 ≡ 0 → ⊥) → CanPut (disk_of_files (files_below i count)) (mod_file i k).at
  unfolding parent
  can_put_file part =
      let at = (mod_file i k).at in
      can_put (needed so_far) so_far at refl (clear_folders at so_far free) (clear_files at so_far free) (inr (folder_there i count k some is part))

  pub grown_file : (k % 100 ≡ 0 → ⊥) → disk_with (needed (files_below i count)) (files_below i count ++ mod_file i k ∷ []) ≡ disk_of_files (files_below i (count + 1))
  grown_file part =
      grown (needed so_far) so_far (files_below i (count + 1)) (mod_file i k) more
      (λ q. sym (
      absorbed (needed so_far) (staged i []) (its_folder ∷ []) (mod_there i count some) q
      ∙ absorbed (needed so_far) its_folder [] (folder_there i count k some is part) q
      ∙ ap (list_any (spot_eq q)) (append-nil (needed so_far))))

-- a mod with all of its files
pub mods_more : (i : ℕ) → files_below i 100 ≡ mods_below (i + 1)
unfolding files_below mods_below
mods_more i =
    sym (ap (flat_map mod_files) (range_next i) ∙ flat_map-append mod_files (range_with_len 0 i) (i ∷ []) ∙ ap (λ l. mods_below i ++ l) (append-nil (mod_files i)))

-- The files of the game

module _ (number k : ℕ) (few : k < 100000) where
  abbrev pub game_so_far : List WorldFile
  game_so_far = game_below number k

  abbrev pub game_folder : Spot
  game_folder = in_game (folder_name k ∷ [])

  game_more : is_in_game number k ≡ true → game_below number (k + 1) ≡ game_below number k ++ game_file k ∷ []
  unfolding game_below
  game_more there =
      ap (λ l. stage_files number ++ l) (filter_passes (is_in_game number) game_file k there)
      ∙ sym (append_assoc (stage_files number) (map game_file (filter (is_in_game number) (range_with_len 0 k))) (game_file k ∷ []))

  game_free : AllByRecursion (IsClear (game_file k).at) (game_below number k)
  game_free = clear_game_file number k few

  pub free_game : position (stands_at (game_file k).at) (game_below number k) ≡ None
  free_game = clear_files (game_file k).at game_so_far game_free

  apart_in_game : (x y : List ℕ) → in_game (x ∷ y ∷ []) ≢ in_game (x ∷ [])
  apart_in_game x y e = let size = ap (λ (s : Spot). length s.names) e in omega (arith, size)

  pub can_put_game_folder : is_in_game number k ≡ true → k % 100 < 7 → CanPut (disk_of_files (game_below number k)) game_folder
  unfolding parent
  can_put_game_folder there first =
      let clear = clear_game_folder number k few there first in
      can_put (needed game_so_far) game_so_far game_folder refl (clear_folders game_folder game_so_far clear) (clear_files game_folder game_so_far clear) (inl refl)

  pub can_put_game_in_new : CanPut (disk_with (needed (game_below number k) ++ game_folder ∷ []) (game_below number k)) (game_file k).at
  unfolding parent
  can_put_game_in_new =
      let at = (game_file k).at in
      can_put (needed game_so_far ++ game_folder ∷ []) game_so_far at refl
      (not_there at game_folder (needed game_so_far) (clear_folders at game_so_far game_free) (apart_in_game (folder_name k) _))
      (clear_files at game_so_far game_free) (inr (last_there game_folder (needed game_so_far)))

  pub grown_game_in_new : is_in_game number k ≡ true → disk_with (needed (game_below number k) ++ game_folder ∷ []) (game_below number k ++ game_file k ∷ []) ≡ disk_of_files (game_below number (k + 1))
  grown_game_in_new there = grown (needed game_so_far ++ game_folder ∷ []) game_so_far (game_below number (k + 1)) (game_file k) (game_more there) (λ q. refl)

  pub can_put_game : is_in_game number k ≡ true → 7 ≤ k % 100 → CanPut (disk_of_files (game_below number k)) (game_file k).at
  unfolding parent
  can_put_game there later =
      let at = (game_file k).at in
      can_put (needed game_so_far) game_so_far at refl (clear_folders at game_so_far game_free) (clear_files at game_so_far game_free) (inr (game_folder_there number k there later))

  pub grown_game : is_in_game number k ≡ true → 7 ≤ k % 100 → disk_with (needed (game_below number k)) (game_below number k ++ game_file k ∷ []) ≡ disk_of_files (game_below number (k + 1))
  grown_game there later =
      grown (needed game_so_far) game_so_far (game_below number (k + 1)) (game_file k) (game_more there)
      (λ q. sym (absorbed (needed game_so_far) game_folder [] (game_folder_there number k there later) q ∙ ap (list_any (spot_eq q)) (append-nil (needed game_so_far))))

-- a number whose file the game doesn't have
pub game_same : (number k : ℕ) → is_in_game number k ≡ false → game_below number (k + 1) ≡ game_below number k
unfolding game_below
game_same number k other = ap (λ l. stage_files number ++ l) (filter_fails (is_in_game number) game_file k other)

pub game_none : (number : ℕ) → game_below number 0 ≡ stage_files number
unfolding game_below
game_none number = append-nil (stage_files number)

pub game_all : (number : ℕ) → game_below number (50 * (mods_of number + 1)) ≡ stage_files number ++ game_files number
unfolding game_below
game_all number = refl

-- The profile

module _ (number k : ℕ) (text : List ℕ) where
  free_profile : AllByRecursion (IsClear (profile_file text).at) (game_below number k)
  free_profile = clear_profile number k text

  pub profile_free : position (stands_at (profile_file text).at) (game_below number k) ≡ None
  profile_free = clear_files (profile_file text).at (game_below number k) free_profile

  pub can_put_profile : CanPut (disk_of_files (game_below number k)) (profile_file text).at
  unfolding parent
  can_put_profile =
      let at = (profile_file text).at in
      can_put (needed (game_below number k)) (game_below number k) at refl (clear_folders at (game_below number k) free_profile) (clear_files at (game_below number k) free_profile) (inl refl)

  pub grown_profile : disk_with (needed (game_below number k)) (game_below number k ++ profile_file text ∷ []) ≡ disk_of_files (game_below number k ++ profile_file text ∷ [])
  grown_profile =
      grown (needed (game_below number k)) (game_below number k) (game_below number k ++ profile_file text ∷ []) (profile_file text) refl
      (λ q. ap (list_any (spot_eq q)) (sym (append-nil (needed (game_below number k)))))

-- Where the mods begin and end

pub mods_none : mods_below 0 ≡ []
unfolding mods_below
mods_none = refl

pub mods_all : (number : ℕ) → mods_below (mods_of number) ≡ stage_files number
unfolding mods_below
mods_all number = refl
