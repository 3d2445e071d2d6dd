-- Paths of one name, and mods' ids.
use Rattle.std.proofs.Common.{leb-true, ◌≡◌, ◌<◌, ◌≤◌, ℕ, nat_eq, nat_le, ◌==◌, Bool, true, false, not, ◌&&◌, cond, List, [], ◌∷◌, length, refl, sym, ap, ◌∙◌, arith}
use Rattle.std.specs.List.{list_all}
use Rattle.std.specs.declared.option.Option.TheVariants.{None, Some}
use Rattle.std.specs.Str.{bytes_eq}
use Rattle.std.proofs.lemmas.List.Elements.{All-weaker}
use Rattle.std.proofs.lemmas.List.Sums.{AllPass-from_list_all}
use Rattle.rel_paths.specs.declared.error.PathError.TheVariants.{Empty, BadName}
use Rattle.rel_paths.specs.Names.{names_of, is_good_byte, is_good_name, is_name_within, id_fault, user_limits, IsModId, IsUserPath, IsHeldPath}
use Rattle.rel_paths.proofs.NamesOf.{HasNoSlash, names_of-one}
use Rattle.rel_paths.proofs.Limits.{IsWithin-from_fault, fault-from_IsWithin, IsHeldPath-user}
use Rattle.std.proofs.lemmas.Bool.{and_parts, and_from, not-true}
use Rattle.list_laws.proofs.Truths.{some-from_test, test-from_some}

not_slash : (b : ℕ) → is_good_byte b ≡ true → nat_eq b 47 ≡ false
not_slash b h =
    let three = and_parts (nat_le 32 b && not (b == 47) && not (b == 92)) (not (b == 127)) h in
    let two = and_parts (nat_le 32 b && not (b == 47)) (not (b == 92)) three.0 in
    not-true (b == 47) (and_parts (nat_le 32 b) (not (b == 47)) two.0).1

-- the parts of a good name
pub record IsGoodName (name : List ℕ) : Type 0 where
  pub some : 0 < length name
  pub no_dot : bytes_eq name (46 ∷ []) ≡ false
  pub no_dots : bytes_eq name (46 ∷ 46 ∷ []) ≡ false
  pub bytes : list_all is_good_byte name ≡ true

pub IsGoodName-from_test : (name : List ℕ) → is_good_name name ≡ true → IsGoodName name
IsGoodName-from_test name h =
    let three = and_parts (not (length name == 0) && not (bytes_eq name (46 ∷ [])) && not (bytes_eq name (46 ∷ 46 ∷ []))) (list_all is_good_byte name) h in
    let two = and_parts (not (length name == 0) && not (bytes_eq name (46 ∷ []))) (not (bytes_eq name (46 ∷ 46 ∷ []))) three.0 in
    let one = and_parts (not (length name == 0)) (not (bytes_eq name (46 ∷ []))) two.0 in
    record {
      some = some-from_test (length name) (not-true (length name == 0) one.0);
      no_dot = not-true (bytes_eq name (46 ∷ [])) one.1;
      no_dots = not-true (bytes_eq name (46 ∷ 46 ∷ [])) two.1;
      bytes = three.1;
    }

pub HasNoSlash-good : (name : List ℕ) → is_good_name name ≡ true → HasNoSlash name
HasNoSlash-good name h =
    All-weaker (λ b. is_good_byte b ≡ true) (λ b. nat_eq b 47 ≡ false) not_slash name (AllPass-from_list_all is_good_byte name (IsGoodName-from_test name h).bytes)

-- a good name is its one name
pub names_of-name : (name : List ℕ) → is_good_name name ≡ true → names_of name ≡ name ∷ []
names_of-name name h = names_of-one name (HasNoSlash-good name h)

-- a good name of at most 240 bytes is a user path, and each name of a user path is one
pub IsUserPath-name : (name : List ℕ) → is_name_within 240 name ≡ true → IsUserPath name
IsUserPath-name name h =
    let parts = and_parts (is_good_name name) (nat_le (length name) 240) h in
    let one = names_of-name name parts.0 in
    let count : length (names_of name) ≡ 1 = ap length one in
    let fits : length name ≤ 240 = leb-true (length name) 240 parts.1 in
    fault-from_IsWithin user_limits name record {
      some = (IsGoodName-from_test name parts.0).some;
      bytes = omega arith;
      names = omega arith;
      good = ap (list_all (is_name_within 240)) one ∙ and_from (is_name_within 240 name) true h refl;
    }

pub name-from_IsUserPath : (name : List ℕ) → IsUserPath name → names_of name ≡ name ∷ [] → is_name_within 240 name ≡ true
name-from_IsUserPath name h one =
    (and_parts (is_name_within 240 name) true (sym (ap (list_all (is_name_within 240)) one) ∙ (IsWithin-from_fault user_limits name h).good)).0

-- a mod's id is exactly a good name of at most 240 bytes
pub IsModId-name : (name : List ℕ) → is_name_within 240 name ≡ true → IsModId name
unfolding id_fault
IsModId-name name h =
    let some : (length name == 0) ≡ false = test-from_some (length name) (IsGoodName-from_test name (and_parts (is_good_name name) (nat_le (length name) 240) h).0).some in
    rw (h, some)

no_fault : (a b : Bool) → cond a (Some Empty) (cond b None (Some (BadName 0))) ≡ None → b ≡ true
no_fault true b e = let never : ⊥ = cc in absurd never
no_fault false true e = refl
no_fault false false e = let never : ⊥ = cc in absurd never

pub name-from_IsModId : (name : List ℕ) → IsModId name → is_name_within 240 name ≡ true
unfolding id_fault
name-from_IsModId name h = no_fault (length name == 0) (is_name_within 240 name) h

-- so it is a user path of one name
pub IsUserPath-id : (id : List ℕ) → IsModId id → IsUserPath id
IsUserPath-id id h = IsUserPath-name id (name-from_IsModId id h)

pub IsHeldPath-id : (id : List ℕ) → IsModId id → IsHeldPath id
IsHeldPath-id id h = IsHeldPath-user id (IsUserPath-id id h)

pub names_of-id : (id : List ℕ) → IsModId id → names_of id ≡ id ∷ []
names_of-id id h = names_of-name id (and_parts (is_good_name id) (nat_le (length id) 240) (name-from_IsModId id h)).0
