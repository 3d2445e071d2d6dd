-- What is readied for the steps: parents entry by entry, and folders to sync.
use Rattle.std.proofs.Common.{[], ◌≡◌, ℕ, ◌<◌, List, ◌∷◌, map, length, get_or, Less, refl, sym, ap, ◌∙◌, subst}
use Rattle.std.proofs.lemmas.List as named
use Rattle.std.specs.List.{Contains}
use Rattle.std.specs.List.Sorted.{IsStrictlySortedBy}
use Rattle.std.specs.Ordering.{on, nat_cmp}
use Rattle.std.specs.Cmp.Lexicographic.{slice_cmp, nat_list_cmp_total}
use Rattle.list_laws.proofs.Orders.{text_not_itself}
use Rattle.list_laws.proofs.Rising.{Rising, rising_same}
use Rattle.tree_fs.specs.declared.place.Place.{Place}
use Rattle.tree_fs.specs.Spot.{spot_of, parent}
use Rattle.tree_fs.specs.Texts.{place_text}
use Rattle.tree_fs.proofs.Spots.{same_place}
use Rattle.intent_journal.specs.Ready.{AreParents, AreFolders}

-- of a list that another name has
pub in_named : {X : Type 0} (rows xs : List X) → rows ≡ xs → (i : ℕ) (x : X) → i < length rows → x ≡ get_or rows i x → (i < length xs) × (x ≡ get_or xs i x)
in_named rows xs same i x lt is = (subst (λ l. i < length l) same lt, subst (λ l. x ≡ get_or l i x) same is)

module _ {X : Type 0} (key : X → Place) (items : List X) (above : List Place) (are : AreParents (map key items) above) where
  pub as_many : length above ≡ length items
  as_many = sym (named.length-map above spot_of) ∙ ap length are ∙ named.length-map (map key items) (λ p. parent (spot_of p)) ∙ named.length-map items key

  pub parent_at : (i : ℕ) (x : X) (up : Place) → i < length items → x ≡ get_or items i x → up ≡ get_or above i up → spot_of up ≡ parent (spot_of (key x))
  parent_at i x up lt is up_is =
      let below : i < length (map key items) = subst (λ n. i < n) (sym (named.length-map items key)) lt in
      ap spot_of up_is
      ∙ sym (named.get_or-map spot_of above i up (spot_of up) (subst (λ n. i < n) (sym as_many) lt))
      ∙ ap (λ l. get_or l i (spot_of up)) are
      ∙ named.get_or-map (λ p. parent (spot_of p)) (map key items) i (key x) (spot_of up) below
      ∙ ap (λ p. parent (spot_of p)) (named.get_or-map key items i x (key x) lt ∙ ap key (sym is))

-- the folders are one list
pub folders_same : (places f g : List Place) → AreFolders places f → AreFolders places g → f ≡ g
unfolding IsStrictlySortedBy
folders_same places f g hf hg =
    rising_same (λ p q. slice_cmp nat_cmp (place_text p) (place_text q) ≡ Less) (λ p. text_not_itself (place_text p)) (λ p q r. nat_list_cmp_total.trans (place_text p) (place_text q) (place_text r)) f g
    (rising f hf.rise) (rising g hg.rise)
    (λ p c. to f g hf hg p c) (λ p c. to g f hg hf p c)
  where
    to : (l m : List Place) → AreFolders places l → AreFolders places m → (p : Place) → Contains l p → Contains m p
    to l m hl hm p c =
        let has = hm.all (spot_of p) (hl.only (spot_of p) (record { place = p; listed = c; here = refl })) in
        subst (Contains m) (same_place has.place p has.here) has.listed

    rising : (l : List Place) → IsStrictlySortedBy (on place_text (slice_cmp nat_cmp)) l → Rising (λ p q. slice_cmp nat_cmp (place_text p) (place_text q) ≡ Less) l
    rising [] s = tt
    rising (p ∷ l) s = (s.0, rising l s.1)
