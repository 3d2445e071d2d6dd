-- The texts of places: equal texts are texts of one place, and their order goes by root, then by path.
use Rattle.std.proofs.Common.{◌≡◌, ◌≢◌, ◌⊎◌, ℕ, Bool, true, false, ◌&&◌, List, [], ◌∷◌, ◌++◌, refl, sym, ap, ◌∙◌, inl, inr}
use Rattle.std.specs.Bool.{Decides}
use Rattle.std.specs.Prelude.{nat_eq}
use Rattle.std.specs.Ordering.{on, nat_cmp}
use Rattle.std.specs.FinMap.{IsAntisymmetric, nat_cmp-IsAntisymmetric, slice_cmp-IsAntisymmetric}
use Rattle.std.specs.Cmp.Lexicographic.{pointwise, slice_cmp}
use Rattle.std.specs.declared.option.Option.{Option}
use Rattle.std.specs.declared.option.Option.TheVariants.{None, Some}
use Rattle.std.proofs.lemmas.Bool.Decides.{Decides-eqb}
use Rattle.std.proofs.lemmas.List.{append_cancel_left}
use Rattle.std.proofs.lemmas.Slice.Eq.{bytes_eq-Decides}
use Rattle.tree_fs.specs.declared.place.Place.{Place}
use Rattle.tree_fs.specs.declared.place.Root.{Root}
use Rattle.tree_fs.specs.declared.place.Root.TheVariants.{Stage, Game, Keep}
use Rattle.tree_fs.specs.Spot.{root_eq}
use Rattle.tree_fs.specs.Texts.{root_word, rel_text, place_text}

abbrev first : List ℕ → ℕ
first [] = 0
first (x ∷ xs) = x

rel_text-same : (a b : Option (List ℕ)) → rel_text a ≡ rel_text b → a ≡ b
rel_text-same None None e = refl
rel_text-same None (Some t) e = absurd (cc)
rel_text-same (Some t) None e = absurd (cc)
rel_text-same (Some t) (Some u) e = let is : t ≡ u = cc in ap Some is

apart : (m n : ℕ) → nat_eq m n ≡ false → m ≡ n → ⊥
apart m n t e = let h : nat_eq m n ≡ true = ap (nat_eq m) (sym e) ∙ (Decides-eqb m m).1 refl in cc

parts_same : (r s : Root) (a b : Option (List ℕ)) → root_word r ++ rel_text a ≡ root_word s ++ rel_text b → (r ≡ s) × (a ≡ b)
parts_same Stage Stage a b e = (refl, rel_text-same a b (append_cancel_left (root_word Stage) _ _ e))
parts_same Game Game a b e = (refl, rel_text-same a b (append_cancel_left (root_word Game) _ _ e))
parts_same Keep Keep a b e = (refl, rel_text-same a b (append_cancel_left (root_word Keep) _ _ e))
parts_same Stage Game a b e = absurd (apart 115 103 refl (ap first e))
parts_same Stage Keep a b e = absurd (apart 115 107 refl (ap first e))
parts_same Game Stage a b e = absurd (apart 103 115 refl (ap first e))
parts_same Game Keep a b e = absurd (apart 103 107 refl (ap first e))
parts_same Keep Stage a b e = absurd (apart 107 115 refl (ap first e))
parts_same Keep Game a b e = absurd (apart 107 103 refl (ap first e))

-- a text is that of one place
pub place_text-same : (p q : Place) → place_text p ≡ place_text q → p ≡ q
place_text-same p q e = let both = parts_same p.root q.root p.rel q.rel e in λ i. record { root = both.0 i; rel = both.1 i }

-- what `==` on places tells, for `grind`
pub place_eq_tells : (p q : Place) → ((pointwise nat_eq (place_text p) (place_text q) ≡ true) × (p ≡ q)) ⊎ ((pointwise nat_eq (place_text p) (place_text q) ≡ false) × (p ≢ q))
place_eq_tells p q = by_test _ (bytes_eq-Decides (place_text p) (place_text q))
  where
    by_test : (b : Bool) → Decides b (place_text p ≡ place_text q) → ((b ≡ true) × (p ≡ q)) ⊎ ((b ≡ false) × (p ≢ q))
    by_test true d = inl (refl, place_text-same p q (d.0 refl))
    by_test false d = inr (refl, λ e. let h : false ≡ true = d.1 (ap place_text e) in cc)

-- places that the order doesn't tell apart are one
pub place_cmp-same : IsAntisymmetric (on place_text (slice_cmp nat_cmp))
place_cmp-same p q e = place_text-same p q (slice_cmp-IsAntisymmetric nat_cmp-IsAntisymmetric _ _ e)

-- `==` and the order, root first
pub place_eq-parts : (r s : Root) (a b : List ℕ) → pointwise nat_eq (root_word r ++ a) (root_word s ++ b) ≡ (root_eq r s && pointwise nat_eq a b)
place_eq-parts Stage Stage a b = refl
place_eq-parts Game Game a b = refl
place_eq-parts Keep Keep a b = refl
place_eq-parts Stage Game a b = refl
place_eq-parts Stage Keep a b = refl
place_eq-parts Game Stage a b = refl
place_eq-parts Game Keep a b = refl
place_eq-parts Keep Stage a b = refl
place_eq-parts Keep Game a b = refl

pub place_cmp-one_root : (r : Root) (a b : List ℕ) → slice_cmp nat_cmp (root_word r ++ a) (root_word r ++ b) ≡ slice_cmp nat_cmp a b
place_cmp-one_root Stage a b = refl
place_cmp-one_root Game a b = refl
place_cmp-one_root Keep a b = refl

pub place_cmp-other_root : (r s : Root) (a b : List ℕ) → root_eq r s ≡ false → slice_cmp nat_cmp (root_word r ++ a) (root_word s ++ b) ≡ slice_cmp nat_cmp (root_word r) (root_word s)
place_cmp-other_root Stage Stage a b e = absurd (cc)
place_cmp-other_root Game Game a b e = absurd (cc)
place_cmp-other_root Keep Keep a b e = absurd (cc)
place_cmp-other_root Stage Game a b e = refl
place_cmp-other_root Stage Keep a b e = refl
place_cmp-other_root Game Stage a b e = refl
place_cmp-other_root Game Keep a b e = refl
place_cmp-other_root Keep Stage a b e = refl
place_cmp-other_root Keep Game a b e = refl
