-- What a path lies below, parent by parent.
use Rattle.std.proofs.Common.{◌≡◌, ℕ, ◌<◌, ◌==◌, List, [], ◌∷◌, ◌++◌, length, take, drop, refl, sym, ap, ◌∙◌, subst, inl, inr, arith, length-append, append_assoc}
use Rattle.std.specs.List.{Contains}
use Rattle.std.specs.declared.option.Option.TheVariants.{Some}
use Rattle.std.specs.Str.{NoCharPasses}
use Rattle.std.specs.Str.Pattern.{RFindsChar}
use Rattle.rel_paths.specs.Names.{names_of}
use Rattle.rel_paths.proofs.NamesOf.{has_names, names_of-one, names_of-last, same_text}
use Rattle.rel_paths.proofs.Parents.{HasNoSlash-from_char}
use Rattle.rel_paths.proofs.Extends.{extends-below}
use Rattle.tree_fs.specs.Spot.{parent, below}
use Rattle.tree_fs.specs.Places.{game_spot}
use Rattle.tree_fs.proofs.Spots.{parent-below, same_spot}
use Rattle.move_plan.proofs.Above.{cut_last}
use Rattle.plan_model.proofs.Rows.{below-extends}
use Rattle.plan_lists.proofs.Lies.{extends-lies}
use Rattle.deploy_plan.specs.Search.{IsBelowOne}
use Rattle.deploy_plan.specs.Parents.{IsAtOrAbove}
use Rattle.deploy_plan.proofs.Parented.{up_to_parent}

module _ (paths : List (List ℕ)) (text above : List ℕ) (i j : ℕ) (found : RFindsChar 47 text (Some (i, j))) (is : above ≡ take i text) where
  names : names_of text ≡ names_of above ++ drop j text ∷ []
  names = let cut = cut_last text above i j found is in ap names_of cut.0 ∙ names_of-last above (drop j text) cut.1

  parent_of : parent (game_spot text) ≡ game_spot above
  parent_of = ap parent (same_spot (game_spot text) (below (game_spot above) (drop j text)) refl names) ∙ parent-below (game_spot above) (drop j text)

  pub is_above : Contains paths above → IsBelowOne paths text
  is_above c = record { above = above; among = c; extending = (let cut = cut_last text above i j found is in extends-below text above (drop j text) cut.0) }

  pub comes_down : IsBelowOne paths above → IsBelowOne paths text
  comes_down h =
      let b = extends-lies h.above above h.extending in
      record {
        above = h.above;
        among = h.among;
        extending = below-extends h.above text (record { root = refl; name = b.name; rest = b.rest ++ drop j text ∷ []; names = names ∙ ap (λ l. l ++ drop j text ∷ []) b.names ∙ append_assoc (names_of h.above) (b.name ∷ b.rest) (drop j text ∷ []) });
      }

  pub moves_up : (Contains paths above → ⊥) → IsBelowOne paths text → IsBelowOne paths above
  moves_up none h = by_place (subst (IsAtOrAbove (game_spot h.above)) parent_of (up_to_parent (game_spot h.above) (game_spot text) (extends-lies h.above text h.extending)))
    where
      by_place : IsAtOrAbove (game_spot h.above) (game_spot above) → IsBelowOne paths above
      by_place (inl e) = absurd (none (subst (Contains paths) (same_text h.above above (ap (λ s. s.names) e)) h.among))
      by_place (inr b) = record { above = h.above; among = h.among; extending = below-extends h.above above b }

pub cut_shorter : (text above : List ℕ) (i j : ℕ) → RFindsChar 47 text (Some (i, j)) → above ≡ take i text → length above < length text
cut_shorter text above i j h e =
    let cut = cut_last text above i j h e in
    let n = ap length cut.0 ∙ length-append above (47 ∷ drop j text) in
    omega arith

pub at_top : (paths : List (List ℕ)) (text : List ℕ) → NoCharPasses (λ d. d == 47) text → IsBelowOne paths text → ⊥
at_top paths text none h =
    let b = extends-lies h.above text h.extending in
    let first = has_names h.above in
    let one : text ∷ [] ≡ (first.0 ∷ first.1) ++ b.name ∷ b.rest = sym (names_of-one text (HasNoSlash-from_char text none)) ∙ b.names ∙ ap (λ l. l ++ b.name ∷ b.rest) first.2 in
    let n = length-append (first.0 ∷ first.1) (b.name ∷ b.rest) in
    let m : length (text ∷ []) ≡ length ((first.0 ∷ first.1) ++ b.name ∷ b.rest) = ap length one in
    omega arith
