-- The names of a path's text, cut before the last one.
use Rattle.std.proofs.Common.{◌≡◌, ◌≢◌, ℕ, nat_eq, Bool, true, false, not, ◌&&◌, ◌==◌, nat_le, List, [], ◌∷◌, ◌++◌, All, refl, sym, ap, subst, ◌∙◌, arith, length, get_or, take, drop, lit<}
use Rattle.std.specs.List.{list_all}
use Rattle.std.specs.Str.{bytes_eq, NoCharPasses}
use Rattle.std.specs.Str.Pattern.{RFindsChar, SplitsAroundMatch}
use Rattle.std.specs.declared.option.Option.TheVariants.{None}
use Rattle.std.proofs.lemmas.Bool.Decides.{nat_tests}
use Rattle.std.proofs.lemmas.List.{take-append-drop}
use Rattle.std.proofs.lemmas.List.Elements.{All-from_get_or}
use Rattle.std.proofs.lemmas.List.Folds.{list_all-append}
use Rattle.std.proofs.lemmas.Str.Pattern.{NoCharPasses-char, drop_at_char}
use Rattle.rel_paths.specs.Names.{names_of, is_good_byte, is_good_name, is_name_within, held_limits, IsHeldPath}
use Rattle.rel_paths.proofs.NamesOf.{names_of-between, names_of-one}
use Rattle.rel_paths.proofs.Limits.{IsWithin-from_fault}
use Rattle.tree_fs.specs.EntryName.{IsName}
use Rattle.tree_mem.specs.Keys.{folder_names}

not_slash : (b : ℕ) → b ≢ 47 → nat_eq b 47 ≡ false
not_slash b ne = grind (arith, nat_tests)

no_slash : (bs : List ℕ) → NoCharPasses (λ d. d == 47) bs → All (λ b. nat_eq b 47 ≡ false) bs
no_slash bs h = All-from_get_or (λ b. nat_eq b 47 ≡ false) bs 0 (λ i l. not_slash (get_or bs i 0) (NoCharPasses-char 47 bs i h (lit< tt) l))

pub both : (a b : Bool) → (a && b) ≡ true → (a ≡ true) × (b ≡ true)
both true b h = (refl, h)
both false b h = let none : ⊥ = cc in absurd none

pub joint : (a b : Bool) → a ≡ true → b ≡ true → (a && b) ≡ true
joint a b p q = rw p q

good_byte : (b : ℕ) → is_good_byte b ≡ true → (not (b == 47) && not (b == 0)) ≡ true
good_byte b h = grind (arith, nat_tests)

good_bytes : (bs : List ℕ) → list_all is_good_byte bs ≡ true → list_all (λ b. not (b == 47) && not (b == 0)) bs ≡ true
good_bytes [] h = refl
good_bytes (b ∷ bs) h =
    let parts = both (is_good_byte b) (list_all is_good_byte bs) h in
    joint (not (b == 47) && not (b == 0)) (list_all (λ c. not (c == 47) && not (c == 0)) bs) (good_byte b parts.0) (good_bytes bs parts.1)

within : (n : ℕ) → nat_le n 254 ≡ true → nat_le n 255 ≡ true
within n h = grind (arith, nat_tests)

-- a name of a held path may be the name of an entry
pub IsName-held : (n : List ℕ) → is_name_within 254 n ≡ true → IsName n
IsName-held n h =
    let dot = not (bytes_eq n (46 ∷ [])) in
    let dots = not (bytes_eq n (46 ∷ 46 ∷ [])) in
    let a = both (is_good_name n) (nat_le (length n) 254) h in
    let b = both (not (length n == 0) && dot && dots) (list_all is_good_byte n) a.0 in
    let c = both (not (length n == 0) && dot) dots b.0 in
    let d = both (not (length n == 0)) dot c.0 in
    joint _ _ (joint _ _ (joint _ _ (joint _ _ d.0 (within (length n) a.1)) d.1) c.1) (good_bytes n b.1)

-- where all names are good, what stands before the last is the text of a folder
named : (front back : List ℕ) → list_all (is_name_within 254) (names_of front ++ back ∷ []) ≡ true → (names_of front ≡ folder_names front) × IsName back
unfolding folder_names
named [] back h = let none : ⊥ = cc in absurd none
named (b ∷ bs) back h =
    let parts = both _ _ (sym (list_all-append (is_name_within 254) (names_of (b ∷ bs)) (back ∷ [])) ∙ h) in
    (refl, IsName-held back (both (is_name_within 254 back) true parts.1).0)

pub record IsCut (text front back : List ℕ) : Type 0 where
  pub names : names_of text ≡ folder_names front ++ back ∷ []
  pub good : IsName back

pub cut_at_slash : (text front back : List ℕ) → IsHeldPath text → SplitsAroundMatch (RFindsChar 47) text front back → IsCut text front back
cut_at_slash text front back held h =
    let cut : drop h.0 text ≡ 47 ∷ drop h.1 text = drop_at_char 47 text h.0 h.1 h.2.1 (lit< tt) in
    let whole : text ≡ front ++ 47 ∷ back = sym (take-append-drop h.0 text) ∙ ap (λ l. take h.0 text ++ l) cut ∙ (λ i. sym h.3 i ++ 47 ∷ sym h.4 i) in
    let one : names_of back ≡ back ∷ [] = names_of-one back (subst (λ l. All (λ b. nat_eq b 47 ≡ false) l) (sym h.4) (no_slash (drop h.1 text) h.2.0)) in
    let names : names_of text ≡ names_of front ++ back ∷ [] = ap names_of whole ∙ names_of-between front back ∙ ap (λ l. names_of front ++ l) one in
    let good = named front back (subst (λ l. list_all (is_name_within 254) l ≡ true) names (IsWithin-from_fault held_limits text held).good) in
    record { names = names ∙ ap (λ l. l ++ back ∷ []) good.0; good = good.1 }

pub cut_nowhere : (text : List ℕ) → IsHeldPath text → RFindsChar 47 text None → IsCut text [] text
unfolding folder_names
cut_nowhere text held h =
    let one : names_of text ≡ text ∷ [] = names_of-one text (no_slash text h) in
    let good : (is_name_within 254 text && true) ≡ true = subst (λ l. list_all (is_name_within 254) l ≡ true) one (IsWithin-from_fault held_limits text held).good in
    record { names = one; good = IsName-held text (both (is_name_within 254 text) true good).0 }

-- a held path's text is that of a folder
pub folder_names-held : (text : List ℕ) → IsHeldPath text → folder_names text ≡ names_of text
unfolding folder_names
folder_names-held [] held = let h = IsWithin-from_fault held_limits [] held in absurd (omega (arith, h.some))
folder_names-held (b ∷ bs) held = refl
