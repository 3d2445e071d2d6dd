-- What lies above a path, parent by parent.
use Rattle.std.proofs.Common.{◌≡◌, ◌⊎◌, ℕ, ◌<◌, Bool, true, false, List, [], ◌∷◌, ◌++◌, length, take, drop, refl, sym, ap, ◌∙◌, inl, inr, append_assoc, arith, lit<}
use Rattle.std.specs.Prelude.{◌||◌, ◌==◌}
use Rattle.std.specs.List.{list_any}
use Rattle.std.specs.Bool.{Decides}
use Rattle.std.specs.declared.option.Option.{Option}
use Rattle.std.specs.declared.option.Option.TheVariants.{None, Some}
use Rattle.std.specs.Str.{NoCharPasses}
use Rattle.std.specs.Str.Pattern.{RFindsChar}
use Rattle.std.proofs.lemmas.Bool.Decides.{Decides-like, Decides-or, same_from_decides}
use Rattle.std.proofs.lemmas.List.{take-append-drop, length-append}
use Rattle.std.proofs.lemmas.Slice.Eq.{bytes_eq-Decides}
use Rattle.std.proofs.lemmas.Str.Pattern.{drop_at_char}
use Rattle.list_laws.proofs.Truths.{same_function}
use Rattle.rel_paths.specs.Names.{names_of}
use Rattle.rel_paths.proofs.NamesOf.{HasNoSlash, names_of-one, names_of-last}
use Rattle.rel_paths.proofs.Parents.{HasNoSlash-from_char}
use Rattle.tree_fs.specs.declared.place.Root.{Root}
use Rattle.tree_fs.specs.declared.place.Place.{Place}
use Rattle.tree_fs.specs.Spot.{spot_of, names_below, IsBelow}
use Rattle.tree_fs.specs.Texts.{place_text}
use Rattle.tree_fs.proofs.Spots.{same_place}
use Rattle.tree_fs.proofs.Texts.{place_text-same}
use Rattle.move_plan.specs.Tests.{some_and, has_text, text_at, is_above, below_some}
use Rattle.move_plan.proofs.Spots.{is_above-Decides}

abbrev at_path : Root → Option (List ℕ) → Place
at_path root rel = record { root = root; rel = rel }

has_text-at : (root : Root) (rel : Option (List ℕ)) (y : Place) → Decides (has_text (text_at root rel) y) (spot_of y ≡ spot_of (at_path root rel))
has_text-at root rel y =
    Decides-like _ (λ e. ap spot_of (place_text-same y (at_path root rel) e)) (λ e. ap place_text (same_place y (at_path root rel) e))
    (bytes_eq-Decides (place_text y) (text_at root rel))

abbrev NamesAbove : List (List ℕ) → List (List ℕ) → Type 0
NamesAbove ys all = (name : List ℕ) × (rest : List (List ℕ)) × (all ≡ ys ++ name ∷ rest)

nothing_longer : (ys : List (List ℕ)) (name : List ℕ) (rest : List (List ℕ)) → ys ++ name ∷ rest ≡ [] → ⊥
nothing_longer [] name rest e = cc
nothing_longer (y ∷ ys) name rest e = cc

at_end : (ys : List (List ℕ)) (name : List ℕ) (rest all : List (List ℕ)) (last : List ℕ) → ys ++ name ∷ rest ≡ all ++ last ∷ [] → (ys ≡ all) ⊎ NamesAbove ys all
at_end [] name rest [] last e = inl refl
at_end [] name rest (a ∷ bs) last e = inr (a, bs, refl)
at_end (y ∷ ys) name rest [] last e = absurd (nothing_longer ys name rest (tail_is y last (ys ++ name ∷ rest) [] e))
  where
    tail_is : (x y : List ℕ) (xs ys : List (List ℕ)) → x ∷ xs ≡ y ∷ ys → xs ≡ ys
    tail_is x y xs ys e = cc
at_end (y ∷ ys) name rest (a ∷ bs) last e = both (head_is y a (ys ++ name ∷ rest) (bs ++ last ∷ []) e) (at_end ys name rest bs last (tail_is y a (ys ++ name ∷ rest) (bs ++ last ∷ []) e))
  where
    tail_is : (x y : List ℕ) (xs ys : List (List ℕ)) → x ∷ xs ≡ y ∷ ys → xs ≡ ys
    tail_is x y xs ys e = cc

    head_is : (x y : List ℕ) (xs ys : List (List ℕ)) → x ∷ xs ≡ y ∷ ys → x ≡ y
    head_is x y xs ys e = cc

    both : y ≡ a → (ys ≡ bs) ⊎ NamesAbove ys bs → (y ∷ ys ≡ a ∷ bs) ⊎ NamesAbove (y ∷ ys) (a ∷ bs)
    both h (inl t) = inl (λ i. h i ∷ t i)
    both h (inr t) = inr (t.0, t.1, λ i. sym h i ∷ t.2 i)

-- what lies above a path is its parent, or lies above that
pub is_above-step : (root : Root) (above last : List ℕ) (y : Place) → HasNoSlash last → is_above root (above ++ 47 ∷ last) y ≡ (has_text (text_at root (Some above)) y || is_above root above y)
is_above-step root above last y slashless =
    same_from_decides _ _ (is_above-Decides root (above ++ 47 ∷ last) y)
    (Decides-like _ into back (Decides-or _ _ (has_text-at root (Some above) y) (is_above-Decides root above y)))
  where
    names : names_of (above ++ 47 ∷ last) ≡ names_of above ++ last ∷ []
    names = names_of-last above last slashless

    into : (spot_of y ≡ record { root = root; names = names_of above }) ⊎ IsBelow (spot_of y) (record { root = root; names = names_of above }) → IsBelow (spot_of y) (record { root = root; names = names_of (above ++ 47 ∷ last) })
    into (inl e) = record { root = sym (ap (λ s. s.root) e); name = last; rest = []; names = names ∙ ap (λ l. l ++ last ∷ []) (sym (ap (λ s. s.names) e)) }
    into (inr b) = record { root = b.root; name = b.name; rest = b.rest ++ last ∷ []; names = names ∙ ap (λ l. l ++ last ∷ []) b.names ∙ append_assoc (names_below y.rel) (b.name ∷ b.rest) (last ∷ []) }

    back : IsBelow (spot_of y) (record { root = root; names = names_of (above ++ 47 ∷ last) }) → (spot_of y ≡ record { root = root; names = names_of above }) ⊎ IsBelow (spot_of y) (record { root = root; names = names_of above })
    back b = sides (at_end (names_below y.rel) b.name b.rest (names_of above) last (sym b.names ∙ names))
      where
        sides : (names_below y.rel ≡ names_of above) ⊎ NamesAbove (names_below y.rel) (names_of above) → (spot_of y ≡ record { root = root; names = names_of above }) ⊎ IsBelow (spot_of y) (record { root = root; names = names_of above })
        sides (inl e) = inl (λ i. record { root = sym b.root i; names = e i })
        sides (inr h) = inr (record { root = b.root; name = h.0; rest = h.1; names = h.2 })

-- what lies above a path of one name is the root
pub is_above-end : (root : Root) (path : List ℕ) (y : Place) → HasNoSlash path → is_above root path y ≡ has_text (text_at root None) y
is_above-end root path y slashless =
    same_from_decides _ _ (is_above-Decides root path y) (Decides-like _ into back (has_text-at root None y))
  where
    names : names_of path ≡ path ∷ []
    names = names_of-one path slashless

    into : spot_of y ≡ record { root = root; names = [] } → IsBelow (spot_of y) (record { root = root; names = names_of path })
    into e = record { root = sym (ap (λ s. s.root) e); name = path; rest = []; names = names ∙ ap (λ l. l ++ path ∷ []) (sym (ap (λ s. s.names) e)) }

    none_longer : (ys : List (List ℕ)) → NamesAbove ys [] → ⊥
    none_longer ys h = nothing_longer ys h.0 h.1 (sym h.2)

    back : IsBelow (spot_of y) (record { root = root; names = names_of path }) → spot_of y ≡ record { root = root; names = [] }
    back b = sides (at_end (names_below y.rel) b.name b.rest [] path (sym b.names ∙ names))
      where
        sides : (names_below y.rel ≡ []) ⊎ NamesAbove (names_below y.rel) [] → spot_of y ≡ record { root = root; names = [] }
        sides (inl e) = λ i. record { root = sym b.root i; names = e i }
        sides (inr h) = absurd (none_longer (names_below y.rel) h)

any-or : {X : Type 0} (p q : X → Bool) (xs : List X) → list_any (λ x. p x || q x) xs ≡ (list_any p xs || list_any q xs)
any-or p q [] = refl
any-or p q (x ∷ xs) = ap (λ b. (p x || q x) || b) (any-or p q xs) ∙ shuffle (p x) (q x) (list_any p xs) (list_any q xs)
  where
    shuffle : (a b c d : Bool) → ((a || b) || (c || d)) ≡ ((a || c) || (b || d))
    shuffle true b c d = refl
    shuffle false true true d = refl
    shuffle false true false d = refl
    shuffle false false true d = refl
    shuffle false false false d = refl

-- a root lies below nothing
pub none_below : {X : Type 0} (key : X → Place) (xs : List X) (p : Place) → p.rel ≡ None → below_some key xs p ≡ false
none_below key [] p e = refl
none_below key (x ∷ xs) p e = λ i. some_and (λ path. is_above p.root path (key x)) (e i) || none_below key xs p e i

-- a text that is cut at its last slash
pub cut_last : (text above : List ℕ) (i j : ℕ) → RFindsChar 47 text (Some (i, j)) → above ≡ take i text → (text ≡ above ++ 47 ∷ drop j text) × HasNoSlash (drop j text)
cut_last text above i j h e =
    (sym (take-append-drop i text) ∙ ap (λ t. take i text ++ t) (drop_at_char 47 text i j h.1 (lit< tt)) ∙ ap (λ t. t ++ 47 ∷ drop j text) (sym e), HasNoSlash-from_char (drop j text) h.0)

module _ {X : Type 0} (key : X → Place) (xs : List X) (root : Root) where
  pub any-step : (text above : List ℕ) (i j : ℕ) → RFindsChar 47 text (Some (i, j)) → above ≡ take i text → list_any (λ x. is_above root text (key x)) xs ≡ (list_any (λ x. has_text (text_at root (Some above)) (key x)) xs || list_any (λ x. is_above root above (key x)) xs)
  any-step text above i j h e =
      let cut = cut_last text above i j h e in
      ap (λ t. list_any (λ x. is_above root t (key x)) xs) cut.0
      ∙ ap (λ f. list_any f xs) (same_function _ _ (λ x. is_above-step root above (drop j text) (key x) cut.1))
      ∙ any-or (λ x. has_text (text_at root (Some above)) (key x)) (λ x. is_above root above (key x)) xs

  pub any-end : (path : List ℕ) → NoCharPasses (λ d. d == 47) path → list_any (λ x. is_above root path (key x)) xs ≡ list_any (λ x. has_text (text_at root None) (key x)) xs
  any-end path h = ap (λ f. list_any f xs) (same_function _ _ (λ x. is_above-end root path (key x) (HasNoSlash-from_char path h)))

  pub shorter : (text above : List ℕ) (i j : ℕ) → RFindsChar 47 text (Some (i, j)) → above ≡ take i text → length above < length text
  shorter text above i j h e =
      let cut = cut_last text above i j h e in
      let n = ap length cut.0 ∙ length-append above (47 ∷ drop j text) in
      omega arith
