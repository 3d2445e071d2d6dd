-- Saves that stand with their destination first, turned.
use Rattle.std.proofs.Common.{◌≡◌, ℕ, ◌+◌, ◌<◌, List, [], ◌∷◌, ◌++◌, length, take, drop, map, slice_set, get_or, sym, ap, ◌∙◌, arith, append_assoc, length-take}
use Rattle.std.proofs.lemmas.List.{append-nil, take_all, drop_all, length-map, map-append}
use Rattle.std.proofs.Math.Seq.{set-append_seam}
use Rattle.list_laws.proofs.Lists.{get_or-any, rest_from, at_seam-item, one_more}
use Rattle.tree_fs.specs.declared.place.Place.{Place}
use Rattle.deploy_plan.specs.Order.{turned}

pub turned_back : (len : ℕ) (items : List (Place × Place)) → len ≡ length items → take len (map turned items ++ drop (length (map turned items)) items) ≡ map turned items
turned_back len items is =
    let n : length (map turned items) ≡ length items = simp length-map in
    ap (λ l. take len (map turned items ++ l)) (drop_all (length (map turned items)) items (omega (arith, n)))
    ∙ ap (take len) (append-nil (map turned items)) ∙ take_all len (map turned items) (omega (arith, n, is))

pub turned_more : (start now : List (Place × Place)) (i : ℕ) (item new : Place × Place) → i < length start → now ≡ map turned (take i start) ++ drop i start → item ≡ get_or now i item → new ≡ turned item → slice_set now i new ≡ map turned (take (i + 1) start) ++ drop (i + 1) start
turned_more start now i item new low is at e =
    let x : Place × Place = get_or start i item in
    let front : List (Place × Place) = map turned (take i start) in
    let back : List (Place × Place) = drop (i + 1) start in
    let here : x ≡ get_or start i x = get_or-any start i item x low in
    let n : length front ≡ i = simp (length-map, length-take) (omega arith) in
    let whole : now ≡ front ++ x ∷ back = is ∙ ap (λ l. front ++ l) (rest_from start i x low here) in
    let same : item ≡ x = at ∙ (λ j. get_or (whole j) (sym n j) item) ∙ at_seam-item front x item back in
    (λ j. slice_set (whole j) (sym n j) new) ∙ set-append_seam front x back new ∙ ap (λ y. front ++ y ∷ back) (e ∙ ap turned same)
    ∙ sym (append_assoc front (turned x ∷ []) back) ∙ ap (λ l. l ++ back) (sym (map-append turned (take i start) (x ∷ []))) ∙ ap (λ l. map turned l ++ back) (sym (one_more start i x low here))
