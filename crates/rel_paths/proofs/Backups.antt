-- The backup of a path: its names, its limits, and that it is reserved.
use Rattle.std.proofs.Common.{leb-true, le-leb, ◌≡◌, ◌≤◌, ◌+◌, ◌-◌, ℕ, nat_eq, nat_le, ◌==◌, true, false, not, ◌&&◌, cond, List, [], ◌∷◌, ◌++◌, length, drop, refl, sym, ap, ◌∙◌, arith}
use Rattle.std.specs.List.{onto_first, list_all, ends_with}
use Rattle.std.specs.Str.{bytes_eq}
use Rattle.std.proofs.lemmas.List.{length-append, append_cancel_right}
use Rattle.std.proofs.lemmas.List.Folds.{list_all-append, list_any-append}
use Rattle.std.proofs.lemmas.List.Prefix.{end_rest}
use Rattle.std.proofs.lemmas.Slice.Eq.{bytes_eq-Decides}
use Rattle.rel_paths.specs.Names.{names_of, text_of, is_good_byte, is_good_name, is_name_within, user_limits, held_limits, IsUserPath, IsHeldPath, backup_ending, backup_names, has_backup, begins_with_manifest, is_reserved}
use Rattle.rel_paths.proofs.NamesOf.{has_names, text_of-names_of}
use Rattle.rel_paths.proofs.Limits.{IsWithin-from_fault, fault-from_IsWithin}
use Rattle.rel_paths.proofs.OneName.{IsGoodName-from_test}
use Rattle.std.proofs.lemmas.Bool.{and_parts, and_from, or_left, or_right, not_from_false}
use Rattle.list_laws.proofs.Truths.{or_wider, test-from_some}
use Rattle.list_laws.proofs.Texts.{longer_differs}

onto_first-backup : (b : ℕ) (n : List ℕ) (ns : List (List ℕ)) → onto_first b (backup_names (n ∷ ns)) ≡ backup_names ((b ∷ n) ∷ ns)
onto_first-backup b n [] = refl
onto_first-backup b n (m ∷ ms) = refl

backup_names-empty_first : (names : List (List ℕ)) (n : List ℕ) (ns : List (List ℕ)) → names ≡ n ∷ ns → [] ∷ backup_names names ≡ backup_names ([] ∷ names)
backup_names-empty_first names n ns e = rw e

backup_names-onto_first : (b : ℕ) (names : List (List ℕ)) (n : List ℕ) (ns : List (List ℕ)) → names ≡ n ∷ ns → onto_first b (backup_names names) ≡ backup_names (onto_first b names)
backup_names-onto_first b names n ns e = rw e (onto_first-backup b n ns)

-- the ending goes to the last name
pub names_of-backup : (text : List ℕ) → names_of (text ++ backup_ending) ≡ backup_names (names_of text)
names_of-backup [] = refl
names_of-backup (b ∷ bs) =
    let ih : names_of (bs ++ backup_ending) ≡ backup_names (names_of bs) = names_of-backup bs in
    let r = has_names bs in
    elim (b == 47) as (λ t. cond t ([] ∷ names_of (bs ++ backup_ending)) (onto_first b (names_of (bs ++ backup_ending))) ≡ backup_names (cond t ([] ∷ names_of bs) (onto_first b (names_of bs)))) [
      | true ↦ ap (λ l. [] ∷ l) ih ∙ backup_names-empty_first (names_of bs) r.0 r.1 r.2
      | false ↦ ap (onto_first b) ih ∙ backup_names-onto_first b (names_of bs) r.0 r.1 r.2
    ]

-- so the text of the backup is the path's with the ending
pub text_of-backup : (text : List ℕ) → text_of (backup_names (names_of text)) ≡ text ++ backup_ending
text_of-backup text = ap text_of (sym (names_of-backup text)) ∙ text_of-names_of (text ++ backup_ending)

-- names that end so
pub backup_names-last : (names : List (List ℕ)) (last : List ℕ) → backup_names (names ++ last ∷ []) ≡ names ++ (last ++ backup_ending) ∷ []
backup_names-last [] last = refl
backup_names-last (n ∷ []) last = refl
backup_names-last (n ∷ m ∷ ms) last = ap (λ l. n ∷ l) (backup_names-last (m ∷ ms) last)

-- paths with one backup are one path
pub same_backup : (a b : List ℕ) → backup_names (names_of a) ≡ backup_names (names_of b) → a ≡ b
same_backup a b e = append_cancel_right a b backup_ending (sym (text_of-backup a) ∙ ap text_of e ∙ text_of-backup b)

length-backup_names : (names : List (List ℕ)) → length (backup_names names) ≡ length names
length-backup_names [] = refl
length-backup_names (n ∷ []) = refl
length-backup_names (n ∷ m ∷ ms) = let rest : length (backup_names (m ∷ ms)) ≡ length (m ∷ ms) = length-backup_names (m ∷ ms) in omega arith

good_backup : (name : List ℕ) → is_name_within 240 name ≡ true → is_name_within 254 (name ++ backup_ending) ≡ true
good_backup name h =
    let parts = and_parts (is_good_name name) (nat_le (length name) 240) h in
    let fits : length name ≤ 240 = leb-true (length name) 240 parts.1 in
    let size : length (name ++ backup_ending) ≡ length name + 14 = length-append name backup_ending in
    let whole = name ++ backup_ending in
    let some : not (length whole == 0) ≡ true = not_from_false (length whole == 0) (test-from_some (length whole) (omega arith)) in
    let no_dot : not (bytes_eq whole (46 ∷ [])) ≡ true = not_from_false (bytes_eq whole (46 ∷ [])) (longer_differs whole (46 ∷ []) (omega arith)) in
    let no_dots : not (bytes_eq whole (46 ∷ 46 ∷ [])) ≡ true = not_from_false (bytes_eq whole (46 ∷ 46 ∷ [])) (longer_differs whole (46 ∷ 46 ∷ []) (omega arith)) in
    let bytes : list_all is_good_byte whole ≡ true = list_all-append is_good_byte name backup_ending ∙ and_from (list_all is_good_byte name) (list_all is_good_byte backup_ending) (IsGoodName-from_test name parts.0).bytes refl in
    and_from (is_good_name whole) (nat_le (length whole) 254)
    (and_from (not (length whole == 0) && not (bytes_eq whole (46 ∷ [])) && not (bytes_eq whole (46 ∷ 46 ∷ []))) (list_all is_good_byte whole)
    (and_from (not (length whole == 0) && not (bytes_eq whole (46 ∷ []))) (not (bytes_eq whole (46 ∷ 46 ∷ []))) (and_from (not (length whole == 0)) (not (bytes_eq whole (46 ∷ []))) some no_dot) no_dots)
    bytes)
    (le-leb (length whole) 254 (omega arith))

within_more : (name : List ℕ) → is_name_within 240 name ≡ true → is_name_within 254 name ≡ true
within_more name h =
    let parts = and_parts (is_good_name name) (nat_le (length name) 240) h in
    let fits : length name ≤ 240 = leb-true (length name) 240 parts.1 in
    and_from (is_good_name name) (nat_le (length name) 254) parts.0 (le-leb (length name) 254 (omega arith))

good_backups : (names : List (List ℕ)) → list_all (is_name_within 240) names ≡ true → list_all (is_name_within 254) (backup_names names) ≡ true
good_backups [] h = refl
good_backups (n ∷ []) h = and_from (is_name_within 254 (n ++ backup_ending)) true (good_backup n (and_parts (is_name_within 240 n) true h).0) refl
good_backups (n ∷ m ∷ ms) h =
    let parts = and_parts (is_name_within 240 n) (list_all (is_name_within 240) (m ∷ ms)) h in
    and_from (is_name_within 254 n) (list_all (is_name_within 254) (backup_names (m ∷ ms))) (within_more n parts.0) (good_backups (m ∷ ms) parts.1)

-- the backup of a user path is a held path
pub IsHeldPath-backup : (text : List ℕ) → IsUserPath text → IsHeldPath (text ++ backup_ending)
IsHeldPath-backup text e =
    let h = IsWithin-from_fault user_limits text e in
    let size : length (text ++ backup_ending) ≡ length text + 14 = length-append text backup_ending in
    let count : length (names_of (text ++ backup_ending)) ≡ length (names_of text) = ap length (names_of-backup text) ∙ length-backup_names (names_of text) in
    let bytes_most = h.bytes in
    let names_most = h.names in
    fault-from_IsWithin held_limits (text ++ backup_ending) record {
      some = omega arith;
      bytes = omega arith;
      names = omega arith;
      good = ap (list_all (is_name_within 254)) (names_of-backup text) ∙ good_backups (names_of text) h.good;
    }

ends_with-itself : (name : List ℕ) → ends_with nat_eq (name ++ backup_ending) backup_ending ≡ true
ends_with-itself name = (bytes_eq-Decides backup_ending (drop (length (name ++ backup_ending) - length backup_ending) (name ++ backup_ending))).1 (sym (end_rest (name ++ backup_ending) backup_ending name refl))

has_backup-backup : (n : List ℕ) (ns : List (List ℕ)) → has_backup (backup_names (n ∷ ns)) ≡ true
has_backup-backup n [] = or_left (ends_with nat_eq (n ++ backup_ending) backup_ending) false (ends_with-itself n)
has_backup-backup n (m ∷ ms) = or_right (ends_with nat_eq n backup_ending) (has_backup (backup_names (m ∷ ms))) (has_backup-backup m ms)

-- a backup is reserved
pub is_reserved-backup : (text : List ℕ) → is_reserved (backup_names (names_of text)) ≡ true
unfolding is_reserved
is_reserved-backup text =
    let r = has_names text in
    rw r.2 (or_left (has_backup (backup_names (r.0 ∷ r.1))) (begins_with_manifest (backup_names (r.0 ∷ r.1))) (has_backup-backup r.0 r.1))

-- what stands below a reserved path is reserved
pub is_reserved-below : (names : List (List ℕ)) (more : List (List ℕ)) → is_reserved names ≡ true → is_reserved (names ++ more) ≡ true
unfolding is_reserved
is_reserved-below [] more h = let never : ⊥ = cc in absurd never
is_reserved-below (n ∷ ns) more h =
    rw list_any-append (or_wider (has_backup (n ∷ ns)) (has_backup more) (begins_with_manifest (n ∷ ns)) h)
