-- Ids and names of the sample: they are good, and told apart.
use Rattle.std.proofs.Common.{◌≡◌, ◌<◌, ◌≤◌, ◌+◌, ◌/◌, ℕ, nat_eq, nat_le, ◌==◌, true, false, ◌&&◌, List, [], ◌∷◌, ◌++◌, length, length-append, get_or, codes, le-leb, refl, sym, ap, ◌∙◌, arith}
use Rattle.std.specs.List.{list_all}
use Rattle.std.proofs.lemmas.Bool.{and_parts, and_from}
use Rattle.std.proofs.lemmas.List.{append_cancel_left, append_cancel_right}
use Rattle.std.proofs.lemmas.List.Folds.{list_all-append}
use Rattle.list_laws.proofs.Truths.{test-from_some}
use Rattle.rel_paths.specs.Names.{names_of, is_good_byte, is_name_within, user_limits, IsModId, IsUserPath}
use Rattle.rel_paths.proofs.Limits.{fault-from_IsWithin}
use Rattle.rel_paths.proofs.NamesOf.{names_of-between}
use Rattle.rel_paths.proofs.OneName.{names_of-name, IsModId-name}
use Rattle.sample_world.specs.Texts.{padded, mod_id, folder_name, file_name, file_path}
use Rattle.sample_world.proofs.Digits.{length-padded, padded-injective, good-padded}

-- a name that begins with a letter
good_name : (b : ℕ) (bs : List ℕ) → nat_eq b 46 ≡ false → is_good_byte b ≡ true → list_all is_good_byte bs ≡ true → length bs ≤ 200 → is_name_within 240 (b ∷ bs) ≡ true
good_name b bs no_dot good rest few =
    let some : (length (b ∷ bs) == 0) ≡ false = test-from_some (length (b ∷ bs)) (omega arith) in
    let all : (is_good_byte b && list_all is_good_byte bs) ≡ true = and_from (is_good_byte b) (list_all is_good_byte bs) good rest in
    let fits : nat_le (length (b ∷ bs)) 240 ≡ true = le-leb (length (b ∷ bs)) 240 (omega arith) in
    rw (some, no_dot, all, fits) refl

name-mod_id : (i : ℕ) → is_name_within 240 (mod_id i) ≡ true
unfolding mod_id
name-mod_id i = good_name 109 (padded 3 i) refl refl (good-padded 3 i) (omega (arith, length-padded 3 i))

name-folder_name : (k : ℕ) → is_name_within 240 (folder_name k) ≡ true
unfolding folder_name
name-folder_name k = good_name 100 (padded 3 (k / 100)) refl refl (good-padded 3 (k / 100)) (omega (arith, length-padded 3 (k / 100)))

name-file_name : (k : ℕ) → is_name_within 240 (file_name k) ≡ true
unfolding file_name
name-file_name k =
    let good : list_all is_good_byte (padded 5 k ++ codes ".txt") ≡ true = list_all-append is_good_byte (padded 5 k) (codes ".txt") ∙ and_from (list_all is_good_byte (padded 5 k)) true (good-padded 5 k) refl in
    let size : length (padded 5 k ++ codes ".txt") ≡ length (padded 5 k) + 4 = length-append (padded 5 k) (codes ".txt") in
    good_name 102 (padded 5 k ++ codes ".txt") refl refl good (omega (arith, length-padded 5 k))

pub IsModId-mod_id : (i : ℕ) → IsModId (mod_id i)
IsModId-mod_id i = IsModId-name (mod_id i) (name-mod_id i)

good : (name : List ℕ) → is_name_within 240 name ≡ true → names_of name ≡ name ∷ []
good name h = names_of-name name (and_parts _ (nat_le (length name) 240) h).0

-- the two names of a path
pub names_of-file_path : (k : ℕ) → names_of (file_path k) ≡ folder_name k ∷ file_name k ∷ []
names_of-file_path k =
    names_of-between (folder_name k) (file_name k)
    ∙ ap (λ l. l ++ names_of (file_name k)) (good (folder_name k) (name-folder_name k))
    ∙ ap (λ l. folder_name k ∷ l) (good (file_name k) (name-file_name k))

length-folder_name : (k : ℕ) → length (folder_name k) ≡ 4
unfolding folder_name
length-folder_name k = omega (arith, length-padded 3 (k / 100))

length-file_name : (k : ℕ) → length (file_name k) ≡ 10
unfolding file_name
length-file_name k = omega (arith, length-append (padded 5 k) (codes ".txt"), length-padded 5 k)

pub IsUserPath-file_path : (k : ℕ) → IsUserPath (file_path k)
IsUserPath-file_path k =
    let names = names_of-file_path k in
    let count : length (names_of (file_path k)) ≡ 2 = ap length names in
    let joined : length (file_path k) ≡ length (folder_name k) + length {A = ℕ} (47 ∷ file_name k) = length-append (folder_name k) (47 ∷ file_name k) in
    let size : length (file_path k) ≡ length (folder_name k) + (1 + length (file_name k)) = omega arith in
    let f = length-folder_name k in
    let g = length-file_name k in
    fault-from_IsWithin user_limits (file_path k) record {
      some = omega arith;
      bytes = omega arith;
      names = omega arith;
      good = ap (list_all (is_name_within 240)) names ∙ and_from (is_name_within 240 (folder_name k)) (is_name_within 240 (file_name k) && true) (name-folder_name k) (and_from (is_name_within 240 (file_name k)) true (name-file_name k) refl);
    }

-- Told apart

pub mod_id-injective : (i j : ℕ) → i < 1000 → j < 1000 → mod_id i ≡ mod_id j → i ≡ j
unfolding mod_id
mod_id-injective i j a b e = padded-injective 3 i j a b (append_cancel_left (codes "m") (padded 3 i) (padded 3 j) e)

pub folder_name-injective : (k l : ℕ) → k / 100 < 1000 → l / 100 < 1000 → folder_name k ≡ folder_name l → k / 100 ≡ l / 100
unfolding folder_name
folder_name-injective k l a b e = padded-injective 3 (k / 100) (l / 100) a b (append_cancel_left (codes "d") (padded 3 (k / 100)) (padded 3 (l / 100)) e)

-- files of one hundred lie in one folder
pub folder_name-same : (k l : ℕ) → k / 100 ≡ l / 100 → folder_name k ≡ folder_name l
unfolding folder_name
folder_name-same k l e = ap (λ h. codes "d" ++ padded 3 h) e

pub file_name-injective : (k l : ℕ) → k < 100000 → l < 100000 → file_name k ≡ file_name l → k ≡ l
unfolding file_name
file_name-injective k l a b e =
    padded-injective 5 k l a b (append_cancel_right (padded 5 k) (padded 5 l) (codes ".txt") (append_cancel_left (codes "f") (padded 5 k ++ codes ".txt") (padded 5 l ++ codes ".txt") e))

pub file_path-injective : (k l : ℕ) → k < 100000 → l < 100000 → file_path k ≡ file_path l → k ≡ l
file_path-injective k l a b e =
    let names : folder_name k ∷ file_name k ∷ [] ≡ folder_name l ∷ file_name l ∷ [] = sym (names_of-file_path k) ∙ ap names_of e ∙ names_of-file_path l in
    file_name-injective k l a b (ap (λ ns. get_or ns 1 []) names)
