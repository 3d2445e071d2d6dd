-- What was pending, by the place.
use Rattle.std.proofs.Common.{◌≡◌, ◌≢◌, inl, inr, ℕ, Bool, true, false, cond, List, [], ◌∷◌, ◌++◌, refl, sym, ap, subst, ◌∙◌}
use Rattle.std.specs.BTreeMap.{UpdatesBy, get, is_at}
use Rattle.std.specs.declared.alloc.Global.{Global}
use Rattle.std.specs.declared.option.Option.{Option}
use Rattle.std.specs.declared.option.Option.TheVariants.{None, Some}
use Rattle.std.specs.declared.vec.Vec.{Vec}
use Rattle.std.proofs.lemmas.Bool.{false_from_ne_true}
use Rattle.std.proofs.lemmas.Map.Text.{is_eq-slice_cmp}
use Rattle.std.proofs.lemmas.Slice.Eq.{bytes_eq-Decides}
use Rattle.tree_fs.specs.declared.place.Place.{Place}
use Rattle.tree_fs.specs.Spot.{Spot, spot_of, spot_eq}
use Rattle.tree_fs.specs.Texts.{place_text}
use Rattle.tree_fs.proofs.Spots.{same_or_other, same_place, spot_eq-same, spot_eq-true}
use Rattle.tree_fs.proofs.Texts.{place_text-same}
use Rattle.tree_mem.specs.declared.disk.MemDisk.{MemDisk}
use Rattle.tree_mem.specs.declared.disk.Past.{Past}
use Rattle.tree_mem.specs.Disks.{item_of, is_folder}
use Rattle.tree_mem.specs.Groups.{number_in, held_files, Groups, by_text, group_items, GroupGrown, IsGroup, IsGrouped}

-- the order tells places apart
pub at-same : (p : Place) → is_at (by_text p) p ≡ true
at-same p = is_eq-slice_cmp (place_text p) (place_text p) ∙ (bytes_eq-Decides (place_text p) (place_text p)).1 refl

pub same-at : (p q : Place) → is_at (by_text p) q ≡ true → p ≡ q
same-at p q t = place_text-same p q ((bytes_eq-Decides (place_text p) (place_text q)).0 (sym (is_eq-slice_cmp (place_text p) (place_text q)) ∙ t))

pub group_grown : (m n : Groups) (at : Place) (number : Option ℕ) (v : Vec (Option ℕ) Global) → UpdatesBy by_text (by_text at) m n (Some v) → v.items ≡ group_items (get by_text m at) ++ number ∷ [] → GroupGrown m n at number
group_grown m n at number v u is = record {
  here = λ p e. (v, u.0 p ∙ ap (λ b. cond b (Some v) (get by_text m p)) (ap (λ q. is_at (by_text at) q) e ∙ at-same at), is ∙ ap (λ q. group_items (get by_text m q) ++ number ∷ []) (sym e));
  others = λ p ne. u.2 p (false_from_ne_true (is_at (by_text at) p) (λ t. ne (sym (same-at at p t))));
}

-- one more past
held_files-here : (past : List Past) (x : Past) (q : Spot) → spot_eq q (spot_of x.at) ≡ true → held_files (past ++ x ∷ []) q ≡ held_files past q ++ number_in x.item ∷ []
held_files-here [] x q e = ap (λ b. cond b (number_in x.item ∷ []) []) e
held_files-here (y ∷ ys) x q e = elim (spot_eq q (spot_of y.at)) as (λ b. cond b (number_in y.item ∷ held_files (ys ++ x ∷ []) q) (held_files (ys ++ x ∷ []) q) ≡ cond b (number_in y.item ∷ held_files ys q) (held_files ys q) ++ number_in x.item ∷ []) [
  | true ↦ ap (λ l. number_in y.item ∷ l) (held_files-here ys x q e)
  | false ↦ held_files-here ys x q e
]

held_files-other : (past : List Past) (x : Past) (q : Spot) → spot_eq q (spot_of x.at) ≡ false → held_files (past ++ x ∷ []) q ≡ held_files past q
held_files-other [] x q e = ap (λ b. cond b (number_in x.item ∷ []) []) e
held_files-other (y ∷ ys) x q e = elim (spot_eq q (spot_of y.at)) as (λ b. cond b (number_in y.item ∷ held_files (ys ++ x ∷ []) q) (held_files (ys ++ x ∷ []) q) ≡ cond b (number_in y.item ∷ held_files ys q) (held_files ys q)) [
  | true ↦ ap (λ l. number_in y.item ∷ l) (held_files-other ys x q e)
  | false ↦ held_files-other ys x q e
]

not_empty : {X : Type 0} (xs : List X) (x : X) → xs ++ x ∷ [] ≢ []
not_empty [] x e = cc
not_empty (y ∷ ys) x e = cc

grown : (folder : Bool) (files : List (Option ℕ)) (o : Option (Vec (Option ℕ) Global)) (v : Vec (Option ℕ) Global) (n : Option ℕ) → folder ≡ false → v.items ≡ group_items o ++ n ∷ [] → IsGroup folder files o
    → IsGroup folder (files ++ n ∷ []) (Some v)
grown folder files None v n plain is (inl f) = let both : true ≡ false = sym f ∙ plain in absurd (cc)
grown folder files None v n plain is (inr e) = (plain, not_empty files n, is ∙ ap (λ l. l ++ n ∷ []) (sym e))
grown folder files (Some g) v n plain is h = (plain, not_empty files n, is ∙ ap (λ l. l ++ n ∷ []) h.2)

skipped : (folder : Bool) (files more : List (Option ℕ)) (o : Option (Vec (Option ℕ) Global)) → folder ≡ true → IsGroup folder files o → IsGroup folder more o
skipped folder files more None there h = inl there
skipped folder files more (Some g) there h = let both : true ≡ false = sym there ∙ h.0 in absurd (cc)

pub grouped_none : (d : MemDisk) (m : Groups) → ((p : Place) → get by_text m p ≡ None) → IsGrouped d [] m
grouped_none d m none p = subst (IsGroup (is_folder (item_of d (spot_of p))) []) (sym (none p)) (inr refl)

other_spot : (p q : Spot) → p ≢ q → spot_eq p q ≡ false
other_spot p q ne = false_from_ne_true (spot_eq p q) (λ t. ne (spot_eq-true p q t))

pub grouped_more : (d : MemDisk) (past : List Past) (x : Past) (m n : Groups) → is_folder (item_of d (spot_of x.at)) ≡ false → GroupGrown m n x.at (number_in x.item) → IsGrouped d past m → IsGrouped d (past ++ x ∷ []) n
grouped_more d past x m n plain g h p = elim (same_or_other (spot_of p) (spot_of x.at)) [
  | inl s ↦
      let here = g.here p (same_place p x.at s) in
      subst (λ l. IsGroup (is_folder (item_of d (spot_of p))) l (get by_text n p)) (sym (held_files-here past x (spot_of p) (ap (spot_eq (spot_of p)) (sym s) ∙ spot_eq-same (spot_of p))))
      (subst (IsGroup (is_folder (item_of d (spot_of p))) (held_files past (spot_of p) ++ number_in x.item ∷ [])) (sym here.1)
      (grown _ (held_files past (spot_of p)) (get by_text m p) here.0 (number_in x.item) (ap (λ q. is_folder (item_of d q)) s ∙ plain) here.2 (h p)))
  | inr ne ↦
      subst (λ l. IsGroup (is_folder (item_of d (spot_of p))) l (get by_text n p)) (sym (held_files-other past x (spot_of p) (other_spot _ _ ne)))
      (subst (IsGroup (is_folder (item_of d (spot_of p))) (held_files past (spot_of p))) (sym (g.others p (λ e. ne (ap spot_of e)))) (h p))
]

pub grouped_skipped : (d : MemDisk) (past : List Past) (x : Past) (m : Groups) → is_folder (item_of d (spot_of x.at)) ≡ true → IsGrouped d past m → IsGrouped d (past ++ x ∷ []) m
grouped_skipped d past x m there h p = elim (same_or_other (spot_of p) (spot_of x.at)) [
  | inl s ↦ skipped _ (held_files past (spot_of p)) _ (get by_text m p) (ap (λ q. is_folder (item_of d q)) s ∙ there) (h p)
  | inr ne ↦ subst (λ l. IsGroup (is_folder (item_of d (spot_of p))) l (get by_text m p)) (sym (held_files-other past x (spot_of p) (other_spot _ _ ne))) (h p)
]
