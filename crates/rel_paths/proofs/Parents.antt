-- The names of a path's parent.
use Rattle.std.proofs.Common.{◌≡◌, ◌<◌, ◌+◌, ◌-◌, ℕ, nat_eq, ◌==◌, false, List, [], ◌∷◌, ◌++◌, length, take, drop, get_or, refl, sym, ap, subst, ◌∙◌, lit<, arith}
use Rattle.std.specs.declared.option.Option.TheVariants.{None, Some}
use Rattle.std.specs.Str.{NoCharPasses}
use Rattle.std.specs.Str.Pattern.{HasCharAt, RFindsChar}
use Rattle.std.proofs.Math.Seq.{take-append_seam}
use Rattle.std.proofs.lemmas.List.{length-append, take-append-drop}
use Rattle.std.proofs.lemmas.Bool.Decides.{nat_tests}
use Rattle.std.proofs.lemmas.List.Elements.{All-from_get_or}
use Rattle.std.proofs.lemmas.Str.Pattern.{NoCharPasses-char, drop_at_char}
use Rattle.rel_paths.specs.Names.{names_of, parent_names, IsHeldPath}
use Rattle.rel_paths.proofs.Limits.{IsHeldPath-above}
use Rattle.rel_paths.proofs.NamesOf.{HasNoSlash, has_names, names_of-one, names_of-last}

-- the parent of names that end so has the others
pub parent_names-last : (names : List (List ℕ)) (last : List ℕ) → 0 < length names → parent_names (names ++ last ∷ []) ≡ Some names
parent_names-last names last some =
    let size : length (names ++ last ∷ []) ≡ length names + 1 = length-append names (last ∷ []) in
    let many : (length names + 1 == 1) ≡ false = grind (arith, nat_tests) in
    let front : length names + 1 - 1 ≡ length names = omega arith in
    rw (size, many, front, take-append_seam names (last ∷ []))

-- one name has no parent
pub parent_names-one : (name : List ℕ) → parent_names (name ∷ []) ≡ None
parent_names-one name = refl

-- the parent of a path below a folder is the folder
pub parent_names-below : (above last : List ℕ) → HasNoSlash last → parent_names (names_of (above ++ 47 ∷ last)) ≡ Some (names_of above)
parent_names-below above last h =
    let r = has_names above in
    let some : 0 < length (names_of above) = rw r.2 (omega arith) in
    ap parent_names (names_of-last above last h) ∙ parent_names-last (names_of above) last some

pub HasNoSlash-from_char : (text : List ℕ) → NoCharPasses (λ d. d == 47) text → HasNoSlash text
HasNoSlash-from_char text h = All-from_get_or (λ b. nat_eq b 47 ≡ false) text 0 (λ i below. differs (get_or text i 0) (NoCharPasses-char 47 text i h (lit< tt) below))
  where
    differs : (b : ℕ) → (b ≡ 47 → ⊥) → nat_eq b 47 ≡ false
    differs b apart = grind (arith, nat_tests)

-- a text that is cut at its last slash: what stands above is the parent
cut_at : (text above : List ℕ) (i j : ℕ) → HasCharAt 47 text i j → above ≡ take i text → text ≡ above ++ 47 ∷ drop j text
cut_at text above i j h e =
    sym (take-append-drop i text) ∙ ap (λ t. take i text ++ t) (drop_at_char 47 text i j h (lit< tt)) ∙ ap (λ t. t ++ 47 ∷ drop j text) (sym e)

pub parent_names-cut : (text above : List ℕ) (i j : ℕ) → RFindsChar 47 text (Some (i, j)) → above ≡ take i text → parent_names (names_of text) ≡ Some (names_of above)
parent_names-cut text above i j h e =
    ap (λ t. parent_names (names_of t)) (cut_at text above i j h.1 e) ∙ parent_names-below above (drop j text) (HasNoSlash-from_char (drop j text) h.0)

pub IsHeldPath-cut : (text above : List ℕ) (i j : ℕ) → RFindsChar 47 text (Some (i, j)) → above ≡ take i text → IsHeldPath text → IsHeldPath above
IsHeldPath-cut text above i j h e held =
    IsHeldPath-above above (drop j text) (subst IsHeldPath (cut_at text above i j h.1 e) held)

-- a text without a slash has no parent
pub parent_names-uncut : (text : List ℕ) → NoCharPasses (λ d. d == 47) text → parent_names (names_of text) ≡ None
parent_names-uncut text h = ap parent_names (names_of-one text (HasNoSlash-from_char text h))
