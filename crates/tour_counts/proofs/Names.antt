-- The names of a path with one name more.
use Rattle.std.proofs.Common.{◌≡◌, ℕ, nat_eq, nat_le, ◌==◌, true, false, not, ◌&&◌, List, [], ◌∷◌, ◌++◌, length}
use Rattle.std.specs.List.{list_all}
use Rattle.std.specs.Str.{bytes_eq}
use Rattle.std.specs.declared.option.Option.{Option}
use Rattle.std.specs.declared.option.Option.TheVariants.{None, Some}
use Rattle.std.proofs.lemmas.List.Elements.{All-weaker}
use Rattle.std.proofs.lemmas.List.Sums.{AllPass-from_list_all}
use Rattle.rel_paths.specs.Names.{names_of}
use Rattle.rel_paths.proofs.Truths.{both, false_from_not}
use Rattle.rel_paths.proofs.NamesOf.{HasNoSlash, names_of-one, names_of-last}
use Rattle.tree_fs.specs.EntryName.{IsName}
use Rattle.tree_fs.specs.Spot.{names_below}
use Rattle.tour_counts.specs.Files.{text_below}

no_slash : (b : ℕ) → (not (b == 47) && not (b == 0)) ≡ true → nat_eq b 47 ≡ false
no_slash b h = false_from_not (b == 47) (both (not (b == 47)) (not (b == 0)) h).0

no_slashes : (name : List ℕ) → IsName name → HasNoSlash name
no_slashes name h =
    let bytes = both (not (length name == 0) && nat_le (length name) 255 && not (bytes_eq name (46 ∷ [])) && not (bytes_eq name (46 ∷ 46 ∷ []))) (list_all (λ b. not (b == 47) && not (b == 0)) name) h in
    All-weaker (λ b. (not (b == 47) && not (b == 0)) ≡ true) (λ b. nat_eq b 47 ≡ false) no_slash name (AllPass-from_list_all (λ b. not (b == 47) && not (b == 0)) name bytes.1)

pub names_below-text : (above : Option (List ℕ)) (name : List ℕ) → IsName name → names_of (text_below above name) ≡ names_below above ++ name ∷ []
names_below-text None name h = names_of-one name (no_slashes name h)
names_below-text (Some above) name h = names_of-last above name (no_slashes name h)
