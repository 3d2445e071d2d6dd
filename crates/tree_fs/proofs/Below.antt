-- What lies below a place, and the folders above it.
use Rattle.std.proofs.Common.{◌≡◌, ◌≢◌, ◌⊎◌, Bool, true, false, List, ℕ, [], ◌∷◌, ◌++◌, refl, sym, ap, ◌∙◌, inl, inr, append_assoc}
use Rattle.tree_fs.specs.declared.place.Root.{Root}
use Rattle.tree_fs.specs.Spot.{Spot, parent, below, IsBelow}
use Rattle.tree_fs.specs.Disk.{Disk, Value, none, file, odd, IsValid}
use Rattle.tree_fs.proofs.Spots.{parent-below, root_or_below}

pub none_or_some : (v : Value) → (v ≡ none) ⊎ (v ≢ none)
none_or_some none = inl refl
none_or_some (file n) = inr (λ e. cc)
none_or_some odd = inr (λ e. cc)

-- an entry lies below its folder
pub below-entry : (s : Spot) (n : List ℕ) → IsBelow s (below s n)
below-entry s n = record { root = refl; name = n; rest = []; names = refl }

pub below-trans : (s x y : Spot) → IsBelow s x → IsBelow x y → IsBelow s y
below-trans s x y b c = record {
  root = c.root ∙ b.root;
  name = b.name;
  rest = b.rest ++ c.name ∷ c.rest;
  names = c.names ∙ ap (λ l. l ++ c.name ∷ c.rest) b.names ∙ append_assoc s.names (b.name ∷ b.rest) (c.name ∷ c.rest);
}

-- a place that is no root lies below its parent
pub below-parent : (q : Spot) → q.names ≢ [] → IsBelow (parent q) q
below-parent q some = elim (root_or_below q) [
  | inl root ↦ absurd (some (ap (λ s. s.names) root.0))
  | inr named ↦ record {
    root = ap (λ s. s.root) named.1;
    name = named.0;
    rest = [];
    names = ap (λ s. s.names) named.1;
  }
]

abbrev at : Root → List (List ℕ) → Spot
at r ns = record { root = r; names = ns }

-- every place above a folder, or above what holds something, is a folder
module _ (d : Disk) (valid : IsValid d) where
  up : (r : Root) (rest ns : List (List ℕ)) (n : List ℕ) → d.folders (parent (at r (ns ++ n ∷ rest))) ≡ true → d.folders (at r ns) ≡ true
  up r [] ns n e = ap d.folders (sym (parent-below (at r ns) n)) ∙ e
  up r (m ∷ rest) ns n e =
      let whole : ns ++ n ∷ (m ∷ rest) ≡ (ns ++ n ∷ []) ++ m ∷ rest = sym (append_assoc ns (n ∷ []) (m ∷ rest)) in
      let next : d.folders (at r (ns ++ n ∷ [])) ≡ true = up r rest (ns ++ n ∷ []) m (ap (λ l. d.folders (parent (at r l))) (sym whole) ∙ e) in
      ap d.folders (sym (parent-below (at r ns) n)) ∙ valid.nested (at r (ns ++ n ∷ [])) next

  above_parent : (s x : Spot) → IsBelow s x → d.folders (parent x) ≡ true → d.folders s ≡ true
  above_parent s x b e =
      let is : x ≡ at s.root (s.names ++ b.name ∷ b.rest) = λ i. record { root = b.root i; names = b.names i } in
      up s.root b.rest s.names b.name (ap (λ y. d.folders (parent y)) (sym is) ∙ e)

  pub above_value : (s x : Spot) → IsBelow s x → d.now x ≢ none → d.folders s ≡ true
  above_value s x b ne = above_parent s x b (valid.parents x (d.now x) (inl refl) ne)

  pub above_folder : (s x : Spot) → IsBelow s x → d.folders x ≡ true → d.folders s ≡ true
  above_folder s x b e = above_parent s x b (valid.nested x e)

  -- below what is no folder there is nothing
  pub none_below : (s x : Spot) → IsBelow s x → d.folders s ≡ false → d.now x ≡ none
  none_below s x b e = elim (none_or_some (d.now x)) [ inl h ↦ h | inr ne ↦ let t : true ≡ false = sym (above_value s x b ne) ∙ e in absurd (cc) ]

  pub no_folder_below : (s x : Spot) → IsBelow s x → d.folders s ≡ false → d.folders x ≡ false
  no_folder_below s x b e = by_test (d.folders x) refl
    where
      by_test : (t : Bool) → d.folders x ≡ t → d.folders x ≡ false
      by_test false is = is
      by_test true is = let t : true ≡ false = sym (above_folder s x b is) ∙ e in absurd (cc)
