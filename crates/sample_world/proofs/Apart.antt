-- The files of the sample lie apart.
use Rattle.std.proofs.Common.{◌≡◌, ◌≢◌, ◌<◌, ◌≤◌, ◌+◌, ◌-◌, ◌*◌, ◌/◌, ◌%◌, ◌==◌, ◌&&◌, ◌||◌, ℕ, Bool, true, false, List, [], ◌∷◌, map, filter, length, get_or, refl, sym, ap, ◌∙◌, arith}
use Rattle.std.specs.List.{AllByRecursion, Contains, range_with_len, list_any}
use Rattle.std.proofs.Math.Nat.{div-add-mod}
use Rattle.std.proofs.lemmas.Bool.{and_parts, eqb-true}
use Rattle.std.proofs.lemmas.List.Elements.{Contains-append_right}
use Rattle.std.proofs.lemmas.Nat.{div_below, div-mul-add, mod-mul-add, mod_below}
use Rattle.list_laws.proofs.Alls.{all_append, all_map, all_passing, all_item}
use Rattle.list_laws.proofs.Containing.{map_contains, filter_contains}
use Rattle.tree_fs.specs.Spot.{Spot, spot_eq}
use Rattle.tree_fs.specs.declared.place.Root.TheVariants.{Stage, Game, Keep}
use Rattle.tree_fs.proofs.Spots.{spot_eq-same}
use Rattle.sample_world.specs.Files.{mod_file, mod_files, game_file, is_in_game, stage_files, profile_file}
use Rattle.sample_world.specs.Parts.{mods_below, files_below, game_below}
use Rattle.sample_world.specs.Texts.{mods_of, mod_id, folder_name, file_name}
use Rattle.sample_world.specs.Worlds.{needed}
use Rattle.sample_world.proofs.Naming.{mod_id-injective, folder_name-injective, folder_name-same, file_name-injective}
use Rattle.sample_world.proofs.Standing.{IsClear, needed_there}
use Rattle.sample_world.proofs.Ranges.{all_range, all_flat_map, contains_range}

-- What tells spots apart

abbrev name_at : ℕ → Spot → List ℕ
name_at n s = get_or s.names n []

abbrev size : Spot → ℕ
size s = length s.names

other_root : (p q : Spot) → p.root ≢ q.root → p ≢ q
other_root p q ne e = ne (ap (λ (s : Spot). s.root) e)

-- Places in the staged mods

abbrev pub staged : ℕ → List (List ℕ) → Spot
staged i rest = record { root = Stage; names = mod_id i ∷ rest }

other_mod : (i j k : ℕ) (rest : List (List ℕ)) → i < 1000 → j < i → IsClear (staged i rest) (mod_file j k)
other_mod i j k rest few below =
    let apart : mod_id i ≢ mod_id j = λ e. let same : i ≡ j = mod_id-injective i j few (omega arith) e in omega arith in
    record {
      file = λ e. apart (ap (name_at 0) e);
      folders = ((λ e. apart (ap (name_at 0) e)), ((λ e. apart (ap (name_at 0) e)), tt));
    }

pub clear_below : (i : ℕ) (rest : List (List ℕ)) → i < 1000 → AllByRecursion (IsClear (staged i rest)) (mods_below i)
unfolding mods_below
clear_below i rest few =
    all_flat_map (IsClear (staged i rest)) mod_files (range_with_len 0 i)
    (all_range (λ j. AllByRecursion (IsClear (staged i rest)) (mod_files j)) 0 i (λ j lo hi.
    all_map (IsClear (staged i rest)) (mod_file j) (range_with_len (50 * j) 100)
    (all_range (λ k. IsClear (staged i rest) (mod_file j k)) (50 * j) 100 (λ k _ _. other_mod i j k rest few (omega (arith, hi))))))

-- what is clear of the mods below and of the first files of mod i is clear of both
clear_so_far : (i count : ℕ) (rest : List (List ℕ)) → i < 1000 → ((k : ℕ) → 50 * i ≤ k → k < 50 * i + count → IsClear (staged i rest) (mod_file i k)) → AllByRecursion (IsClear (staged i rest)) (files_below i count)
unfolding files_below
clear_so_far i count rest few h =
    all_append (IsClear (staged i rest)) (mods_below i) (map (mod_file i) (range_with_len (50 * i) count)) (clear_below i rest few)
    (all_map (IsClear (staged i rest)) (mod_file i) (range_with_len (50 * i) count) (all_range (λ k. IsClear (staged i rest) (mod_file i k)) (50 * i) count h))

other_file : (i k l : ℕ) → k < 100000 → l < k → IsClear (staged i (folder_name k ∷ file_name k ∷ [])) (mod_file i l)
other_file i k l few below = record {
  file = (λ e. let same : k ≡ l = file_name-injective k l few (omega arith) (ap (name_at 2) e) in omega arith);
  folders = ((λ e. omega (arith, ap size e)), ((λ e. omega (arith, ap size e)), tt));
}

other_folder : (i k l : ℕ) → k < 100000 → l / 100 < k / 100 → IsClear (staged i (folder_name k ∷ [])) (mod_file i l)
other_folder i k l few below = record {
  file = λ e. omega (arith, ap size e);
  folders = (
    (λ e. omega (arith, ap size e)),
    ((λ e. let same : k / 100 ≡ l / 100 = folder_name-injective k l (div_below k 100 1000 (omega arith) (omega arith)) (omega (arith, below, div_below k 100 1000 (omega arith) (omega arith))) (ap (name_at 1) e) in omega arith), tt),
  );
}

-- a file more is clear of those so far
pub clear_file : (i count k : ℕ) → i < 1000 → count < 100 → 50 * i + count ≡ k → AllByRecursion (IsClear (mod_file i k).at) (files_below i count)
clear_file i count k few most is = clear_so_far i count (folder_name k ∷ file_name k ∷ []) few (λ l lo hi. other_file i k l (omega arith) (omega (arith, hi)))

whole_below : (k l : ℕ) → k % 100 ≡ 0 → l < k → l / 100 < k / 100
whole_below k l whole below = div_below l 100 (k / 100) (omega arith) (omega (arith, div-add-mod k 100))

-- and so is its folder, where it begins a hundred
pub clear_folder : (i count k : ℕ) → i < 1000 → count < 100 → 50 * i + count ≡ k → k % 100 ≡ 0 → AllByRecursion (IsClear (staged i (folder_name k ∷ []))) (files_below i count)
clear_folder i count k few most is whole =
    clear_so_far i count (folder_name k ∷ []) few (λ l lo hi. other_folder i k l (omega arith) (whole_below k l whole (omega (arith, hi))))

-- a file of mod i that is there
contains_file : (i count k : ℕ) → 50 * i ≤ k → k < 50 * i + count → Contains (files_below i count) (mod_file i k)
unfolding files_below
contains_file i count k lo hi =
    Contains-append_right (mods_below i) (map (mod_file i) (range_with_len (50 * i) count)) (mod_file i k)
    (map_contains (mod_file i) (range_with_len (50 * i) count) k (contains_range (50 * i) count k lo hi))

-- the mod's own folder is needed by its first file
pub mod_there : (i count : ℕ) → 0 < count → list_any (spot_eq (staged i [])) (needed (files_below i count)) ≡ true
mod_there i count some =
    needed_there (files_below i count) (mod_file i (50 * i)) (staged i []) (contains_file i count (50 * i) (omega arith) (omega arith))
    (ap (λ b. b || list_any (spot_eq (staged i [])) (staged i (folder_name (50 * i) ∷ []) ∷ [])) (spot_eq-same (staged i [])))

within : (k : ℕ) → (k % 100 ≡ 0 → ⊥) → (k - 1) / 100 ≡ k / 100
within k part =
    let below : k % 100 < 100 = mod_below k 100 (omega arith) in
    let split : 100 * (k / 100) + k % 100 ≡ k = div-add-mod k 100 in
    let is : k - 1 ≡ k / 100 * 100 + (k % 100 - 1) = omega arith in
    ap (λ n. n / 100) is ∙ div-mul-add (k / 100) 100 (k % 100 - 1) (omega arith)

-- the folder of a file in the middle of a hundred is needed by the file before it
pub folder_there : (i count k : ℕ) → 0 < count → 50 * i + count ≡ k → (k % 100 ≡ 0 → ⊥) → list_any (spot_eq (staged i (folder_name k ∷ []))) (needed (files_below i count)) ≡ true
folder_there i count k some is part =
    let folder : Spot = staged i (folder_name k ∷ []) in
    let same : folder_name k ≡ folder_name (k - 1) = folder_name-same k (k - 1) (sym (within k part)) in
    let here : spot_eq folder (staged i (folder_name (k - 1) ∷ [])) ≡ true = ap (λ n. spot_eq folder (staged i (n ∷ []))) (sym same) ∙ spot_eq-same folder in
    needed_there (files_below i count) (mod_file i (k - 1)) folder (contains_file i count (k - 1) (omega arith) (omega arith))
    (ap (λ b. spot_eq folder (staged i []) || (b || false)) here ∙ or_true (spot_eq folder (staged i [])))
  where
    or_true : (b : Bool) → (b || true) ≡ true
    or_true true = refl
    or_true false = refl

-- Places in the game

abbrev pub in_game : List (List ℕ) → Spot
in_game names = record { root = Game; names = names }

-- nothing of a mod lies there or in `keep`
clear_staged : (a : Spot) → a.root ≢ Stage → (number : ℕ) → AllByRecursion (IsClear a) (stage_files number)
clear_staged a ne number =
    all_flat_map (IsClear a) mod_files (range_with_len 0 (mods_of number))
    (all_range (λ j. AllByRecursion (IsClear a) (mod_files j)) 0 (mods_of number) (λ j _ _.
    all_map (IsClear a) (mod_file j) (range_with_len (50 * j) 100)
    (all_range (λ k. IsClear a (mod_file j k)) (50 * j) 100 (λ k _ _. record {
      file = other_root a _ ne;
      folders = (other_root a _ ne, (other_root a _ ne, tt));
    }))))

in_range : (k l : ℕ) → Contains (range_with_len 0 k) l → l < k
in_range k l c = all_item (λ j. j < k) (range_with_len 0 k) l (all_range (λ j. j < k) 0 k (λ j _ hi. omega (arith, hi))) c

clear_game : (number k : ℕ) (a : Spot) → a.root ≢ Stage → ((l : ℕ) → l < k → is_in_game number l ≡ true → IsClear a (game_file l)) → AllByRecursion (IsClear a) (game_below number k)
unfolding game_below
clear_game number k a ne h =
    all_append (IsClear a) (stage_files number) (map game_file (filter (is_in_game number) (range_with_len 0 k))) (clear_staged a ne number)
    (all_map (IsClear a) game_file (filter (is_in_game number) (range_with_len 0 k))
    (all_passing (λ l. IsClear a (game_file l)) (is_in_game number) (range_with_len 0 k) (λ l c passes. h l (in_range k l c) passes)))

game_not_stage : Game ≢ Stage
game_not_stage e = let never : Game ≡ Stage = e in cc

-- a file more is clear of those so far
pub clear_game_file : (number k : ℕ) → k < 100000 → AllByRecursion (IsClear (game_file k).at) (game_below number k)
clear_game_file number k few = clear_game number k (game_file k).at game_not_stage (λ l below _. record {
  file = (λ e. let same : k ≡ l = file_name-injective k l few (omega arith) (ap (name_at 1) e) in omega arith);
  folders = ((λ e. omega (arith, ap size e)), tt);
})

rest_of : (number k : ℕ) → is_in_game number k ≡ true → k % 7 ≡ number % 7
rest_of number k h = eqb-true (k % 7) (number % 7) (and_parts (k / 100 % 2 == 0) (k % 7 == number % 7) h).1

earlier_hundred : (k l : ℕ) → l < k → k % 100 < 7 → k % 7 ≡ l % 7 → l / 100 < k / 100
earlier_hundred k l below first same = omega (arith, div-add-mod k 100, div-add-mod l 100, div-add-mod k 7, div-add-mod l 7, mod_below l 100)

-- and so is its folder, where it is the first in that
pub clear_game_folder : (number k : ℕ) → k < 100000 → is_in_game number k ≡ true → k % 100 < 7 → AllByRecursion (IsClear (in_game (folder_name k ∷ []))) (game_below number k)
clear_game_folder number k few there first = clear_game number k (in_game (folder_name k ∷ [])) game_not_stage (λ l below passes.
    let lower : l / 100 < k / 100 = earlier_hundred k l below first (rest_of number k there ∙ sym (rest_of number l passes)) in
    let high : k / 100 < 1000 = div_below k 100 1000 (omega arith) (omega arith) in
    record {
      file = λ e. omega (arith, ap size e);
      folders = ((λ e. let same : k / 100 ≡ l / 100 = folder_name-injective k l high (omega arith) (ap (name_at 0) e) in omega arith), tt);
    })

-- the file of the game before it, in the same folder
seven_before : (k : ℕ) → 7 ≤ k % 100 → ((k - 7) / 100 ≡ k / 100) × ((k - 7) % 7 ≡ k % 7) × (7 ≤ k)
seven_before k later =
    let low : k % 100 < 100 = mod_below k 100 (omega arith) in
    let split : 100 * (k / 100) + k % 100 ≡ k = div-add-mod k 100 in
    let hundred : k - 7 ≡ k / 100 * 100 + (k % 100 - 7) = omega arith in
    let rest : k % 7 < 7 = mod_below k 7 (omega arith) in
    let sevens : 7 * (k / 7) + k % 7 ≡ k = div-add-mod k 7 in
    let seven : k - 7 ≡ (k / 7 - 1) * 7 + k % 7 = omega arith in (
      ap (λ n. n / 100) hundred ∙ div-mul-add (k / 100) 100 (k % 100 - 7) (omega arith),
      ap (λ n. n % 7) seven ∙ mod-mul-add (k / 7 - 1) 7 (k % 7) rest,
      omega arith,
    )

pub game_folder_there : (number k : ℕ) → is_in_game number k ≡ true → 7 ≤ k % 100 → list_any (spot_eq (in_game (folder_name k ∷ []))) (needed (game_below number k)) ≡ true
unfolding game_below
game_folder_there number k there later =
    let before = seven_before k later in
    let folder : Spot = in_game (folder_name k ∷ []) in
    let passes : is_in_game number (k - 7) ≡ true = (λ i. (before.0 i % 2 == 0) && (before.1 i == number % 7)) ∙ there in
    let among : Contains (range_with_len 0 k) (k - 7) = contains_range 0 k (k - 7) (omega arith) (omega (arith, before.2)) in
    let same : folder_name k ≡ folder_name (k - 7) = folder_name-same k (k - 7) (sym before.0) in
    let here : spot_eq folder (in_game (folder_name (k - 7) ∷ [])) ≡ true = ap (λ n. spot_eq folder (in_game (n ∷ []))) (sym same) ∙ spot_eq-same folder in
    needed_there (game_below number k) (game_file (k - 7)) folder
    (Contains-append_right (stage_files number) (map game_file (filter (is_in_game number) (range_with_len 0 k))) (game_file (k - 7))
    (map_contains game_file (filter (is_in_game number) (range_with_len 0 k)) (k - 7) (filter_contains (is_in_game number) (range_with_len 0 k) (k - 7) among passes)))
    (ap (λ b. b || false) here)

-- The profile

keep_not_stage : Keep ≢ Stage
keep_not_stage e = let never : Keep ≡ Stage = e in cc

keep_not_game : Keep ≢ Game
keep_not_game e = let never : Keep ≡ Game = e in cc

pub clear_profile : (number k : ℕ) (text : List ℕ) → AllByRecursion (IsClear (profile_file text).at) (game_below number k)
clear_profile number k text = clear_game number k (profile_file text).at keep_not_stage (λ l _ _. record {
  file = other_root _ _ keep_not_game;
  folders = (other_root _ _ keep_not_game, tt);
})
