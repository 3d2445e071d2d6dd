-- The names of a path with one name more.
use Rattle.std.proofs.Common.{◌≡◌, ◌≢◌, refl, ℕ, nat_eq, nat_le, ◌==◌, true, false, not, ◌&&◌, List, [], ◌∷◌, ◌++◌, length, sym, ap, ◌∙◌, subst}
use Rattle.std.specs.List.{list_all}
use Rattle.std.specs.Str.{bytes_eq}
use Rattle.std.proofs.lemmas.List.Elements.{All-weaker}
use Rattle.std.proofs.lemmas.List.Sums.{AllPass-from_list_all}
use Rattle.rel_paths.specs.declared.error.PathError.{PathError}
use Rattle.rel_paths.specs.declared.error.PathError.TheVariants.{Memory}
use Rattle.fault_count.specs.Causes.{Explains}
use Rattle.rel_paths.specs.Names.{names_of, text_of, path_fault, user_limits, IsUserPath}
use Rattle.rel_paths.proofs.Truths.{both, false_from_not}
use Rattle.rel_paths.proofs.NamesOf.{HasNoSlash, names_of-one, names_of-last, text_of-names_of}
use Rattle.tree_fs.specs.EntryName.{IsName}
use Rattle.std.specs.declared.option.Option.{Option}
use Rattle.std.specs.declared.option.Option.TheVariants.{None, Some}
use Rattle.tree_fs.specs.Spot.{names_below}
use Rattle.stage_scan.specs.Stack.{text_below}

no_slash : (b : ℕ) → (not (b == 47) && not (b == 0)) ≡ true → nat_eq b 47 ≡ false
no_slash b h = false_from_not (b == 47) (both (not (b == 47)) (not (b == 0)) h).0

HasNoSlash-name : (name : List ℕ) → IsName name → HasNoSlash name
HasNoSlash-name name h =
    let bytes = both (not (length name == 0) && nat_le (length name) 255 && not (bytes_eq name (46 ∷ [])) && not (bytes_eq name (46 ∷ 46 ∷ []))) (list_all (λ b. not (b == 47) && not (b == 0)) name) h in
    All-weaker (λ b. (not (b == 47) && not (b == 0)) ≡ true) (λ b. nat_eq b 47 ≡ false) no_slash name (AllPass-from_list_all (λ b. not (b == 47) && not (b == 0)) name bytes.1)

pub names_of-entry : (name : List ℕ) → IsName name → names_of name ≡ name ∷ []
names_of-entry name h = names_of-one name (HasNoSlash-name name h)

pub names_of-below : (above name : List ℕ) → IsName name → names_of (above ++ 47 ∷ name) ≡ names_of above ++ name ∷ []
names_of-below above name h = names_of-last above name (HasNoSlash-name name h)

-- what a text is, the text of its names is
pub user_names : (text : List ℕ) (names : List (List ℕ)) → names_of text ≡ names → IsUserPath text → IsUserPath (text_of names)
user_names text names e h = subst IsUserPath (sym (text_of-names_of text) ∙ ap text_of e) h

pub user_text : (text : List ℕ) (names : List (List ℕ)) → names_of text ≡ names → IsUserPath (text_of names) → IsUserPath text
user_text text names e h = subst IsUserPath (sym (ap text_of e) ∙ text_of-names_of text) h

pub names_of-text : (above : Option (List ℕ)) (name : List ℕ) → IsName name → names_of (text_below above name) ≡ names_below above ++ name ∷ []
names_of-text None name h = names_of-entry name h
names_of-text (Some above) name h = names_of-below above name h

-- a text with a fault is no user path
pub no_user : (text : List ℕ) (names : List (List ℕ)) (fault : Option PathError) (e : PathError) → names_of text ≡ names → path_fault user_limits text ≡ fault → (e ≢ Memory) → Explains Memory fault e → IsUserPath (text_of names) → ⊥
no_user text names fault e is same ne why user = let never : Some e ≡ None = sym (why ne) ∙ sym same ∙ user_text text names is user in cc
