-- Folders above paths that are added to a list.
use Rattle.std.proofs.Common.{◌≡◌, ◌⊎◌, ◌↔◌, ◌+◌, ◌<◌, ◌≤◌, ℕ, List, [], ◌∷◌, ◌++◌, length, get_or, take, map, Vec, Global, IfOk, length-append, append_assoc, sym, refl, ap, ◌∙◌, subst, inl, inr, arith}
use Rattle.std.specs.List.{Contains}
use Rattle.std.specs.declared.result.Result.{Result}
use Rattle.std.specs.declared.result.Result.TheVariants.{Ok, Err}
use Rattle.std.specs.declared.option.Option.TheVariants.{None, Some}
use Rattle.std.proofs.lemmas.List.{append-nil, map-append, take_all}
use Rattle.list_laws.proofs.Containing.{contains_map, map_contains, contains_none, last_cases, contains_seam}
use Rattle.std.proofs.lemmas.List.Elements.{Contains-append_left}
use Rattle.list_laws.proofs.Lists.{last_of, not_empty, one_more}
use Rattle.list_laws.proofs.Texts.{names_begin}
use Rattle.rel_paths.specs.Names.{names_of, parent_names}
use Rattle.rel_paths.proofs.NamesOf.{has_names}
use Rattle.rel_paths.proofs.Parents.{parent_names-last}
use Rattle.stage_scan.specs.Files.{HasSamePaths}
use Rattle.plan_lists.specs.Above.{IsAbove, IsAboveOne, IsInOne, HasFoldersAbove, AddsAbove}

-- The names of a path's parent, and those above it

-- what stands in front of a last name
front_cases : (front : List (List ℕ)) (last : List ℕ) (folder : List (List ℕ)) (name : List ℕ) (rest : List (List ℕ)) → front ++ last ∷ [] ≡ folder ++ name ∷ rest
    → (folder ≡ front) ⊎ ((n : List ℕ) × (more : List (List ℕ)) × (front ≡ folder ++ n ∷ more))
front_cases [] last [] name rest e = inl refl
front_cases [] last (m ∷ ms) name rest e = let t : [] ≡ ms ++ name ∷ rest = cc in absurd (not_empty ms name rest (sym t))
front_cases (m ∷ front) last [] name rest e = inr (m, front, refl)
front_cases (m ∷ front) last (k ∷ folder) name rest e =
    let head : m ≡ k = cc in
    let tail : front ++ last ∷ [] ≡ folder ++ name ∷ rest = cc in
    elim (front_cases front last folder name rest tail) [
      | inl same ↦ inl (λ i. sym head i ∷ same i)
      | inr more ↦ inr (more.0, more.1, (λ i. head i ∷ more.2 i))
    ]

-- the parent of a path with one name more
pub record IsParent (path above : List ℕ) : Type 0 where
  pub last : List ℕ
  pub names : names_of path ≡ names_of above ++ last ∷ []

last_name : (path : List ℕ) → (front : List (List ℕ)) × (last : List ℕ) × (names_of path ≡ front ++ last ∷ [])
last_name path =
    let h = has_names path in
    let l = last_of (names_of path) (λ e. let n : length (names_of path) ≡ length (h.0 ∷ h.1) = ap length h.2 in omega (arith, n, e)) in
    (l.0, l.1, l.2)

pub parent_is : (path above : List ℕ) → Some (names_of above) ≡ parent_names (names_of path) → IsParent path above
parent_is path above e = by_front (last_name path).0 (last_name path).1 (last_name path).2
  where
    by_front : (front : List (List ℕ)) (last : List ℕ) → names_of path ≡ front ++ last ∷ [] → IsParent path above
    by_front [] last is = let t : Some (names_of above) ≡ None = e ∙ ap parent_names is in absurd (cc)
    by_front (m ∷ ms) last is =
        let t : Some (names_of above) ≡ Some (m ∷ ms) = e ∙ ap parent_names is ∙ parent_names-last (m ∷ ms) last (omega arith) in
        let same : names_of above ≡ m ∷ ms = cc in
        record { last = last; names = is ∙ ap (λ l. l ++ last ∷ []) (sym same) }

pub parent_shorter : (path above : List ℕ) → Some (names_of above) ≡ parent_names (names_of path) → length (names_of above) < length (names_of path)
parent_shorter path above e =
    let p = parent_is path above e in
    omega (arith, ap length p.names, length-append (names_of above) (p.last ∷ []))

-- nothing is above a path of one name
pub none_above : (path : List ℕ) → None ≡ parent_names (names_of path) → (folder : List (List ℕ)) → IsAbove path folder → ⊥
none_above path e folder h = by_front (last_name path).0 (last_name path).1 (last_name path).2
  where
    by_front : (front : List (List ℕ)) (last : List ℕ) → names_of path ≡ front ++ last ∷ [] → ⊥
    by_front (m ∷ ms) last is = let t : None ≡ Some (m ∷ ms) = e ∙ ap parent_names is ∙ parent_names-last (m ∷ ms) last (omega arith) in cc
    by_front [] last is = elim (front_cases [] last folder h.name h.rest (sym is ∙ h.names)) [
      | inl same ↦ h.some same
      | inr more ↦ not_empty folder more.0 more.1 (sym more.2)
    ]

module _ (path above : List ℕ) (p : IsParent path above) where
  -- what is above a path is its parent or is above that
  above_cases : (folder : List (List ℕ)) → IsAbove path folder → (folder ≡ names_of above) ⊎ IsAbove above folder
  above_cases folder h = elim (front_cases (names_of above) p.last folder h.name h.rest (sym p.names ∙ h.names)) [
    | inl same ↦ inl same
    | inr more ↦ inr (record { some = h.some; name = more.0; rest = more.1; names = more.2 })
  ]

  above_parent : IsAbove path (names_of above)
  above_parent =
      let h = has_names above in
      record { some = λ e. let t : h.0 ∷ h.1 ≡ [] = sym h.2 ∙ e in cc; name = p.last; rest = []; names = p.names }

  above_more : (folder : List (List ℕ)) → IsAbove above folder → IsAbove path folder
  above_more folder h = record { some = h.some; name = h.name; rest = h.rest ++ p.last ∷ []; names = p.names ∙ ap (λ l. l ++ p.last ∷ []) h.names ∙ append_assoc folder (h.name ∷ h.rest) (p.last ∷ []) }

-- a folder above a folder above a path is above the path
pub above_trans : (path other : List ℕ) (folder : List (List ℕ)) → IsAbove path (names_of other) → IsAbove other folder → IsAbove path folder
above_trans path other folder h k =
    record { some = k.some; name = k.name; rest = k.rest ++ h.name ∷ h.rest; names = h.names ∙ ap (λ l. l ++ h.name ∷ h.rest) k.names ∙ append_assoc folder (k.name ∷ k.rest) (h.name ∷ h.rest) }

-- Adding them

-- there are none
pub adds_none : (path : List ℕ) (old : List (List ℕ)) → None ≡ parent_names (names_of path) → AddsAbove path old old
adds_none path old e folder = (λ c. inl c, λ h. elim h [ inl c ↦ c | inr a ↦ absurd (none_above path e folder a) ])

-- the parent is among the folders already, and with it those above it
pub adds_noted : (path above : List ℕ) (old : List (List ℕ)) → IsParent path above → HasFoldersAbove old → IsInOne old above → AddsAbove path old old
adds_noted path above old p closed in_one folder = (λ c. inl c, λ h. elim h [ inl c ↦ c | inr a ↦ by_above (above_cases path above p folder a) ])
  where
    by_rest : (l : List (List ℕ)) → names_of in_one.path ≡ names_of above ++ l → (f : List (List ℕ)) → (f ≡ names_of above) ⊎ IsAbove above f → Contains (map names_of old) f
    by_rest [] e f (inl same) = subst (Contains (map names_of old)) (e ∙ append-nil (names_of above) ∙ sym same) (map_contains names_of old in_one.path in_one.among)
    by_rest [] e f (inr up) = closed in_one.path f in_one.among (record { some = up.some; name = up.name; rest = up.rest; names = e ∙ append-nil (names_of above) ∙ up.names })
    by_rest (m ∷ ms) e f (inl same) =
        let h = has_names above in
        closed in_one.path f in_one.among (record { some = λ n. let t : h.0 ∷ h.1 ≡ [] = sym h.2 ∙ sym same ∙ n in cc; name = m; rest = ms; names = e ∙ ap (λ k. k ++ m ∷ ms) (sym same) })
    by_rest (m ∷ ms) e f (inr up) =
        closed in_one.path f in_one.among (record { some = up.some; name = up.name; rest = up.rest ++ m ∷ ms; names = e ∙ ap (λ k. k ++ m ∷ ms) up.names ∙ append_assoc f (up.name ∷ up.rest) (m ∷ ms) })

    by_above : (folder ≡ names_of above) ⊎ IsAbove above folder → Contains (map names_of old) folder
    by_above = by_rest _ (names_begin (names_of in_one.path) (names_of above) in_one.begins) folder

-- those above the parent have come, and then the parent
pub adds_more : (path above : List ℕ) (old now new : List (List ℕ)) → IsParent path above → AddsAbove above old now → new ≡ now ++ above ∷ [] → AddsAbove path old new
adds_more path above old now new p adds is folder = (
  λ c. elim (last_cases (map names_of now) (names_of above) folder (subst (λ l. Contains l folder) whole c)) [
    | inl k ↦ elim ((adds folder).0 k) [ inl was ↦ inl was | inr up ↦ inr (above_more path above p folder up) ]
    | inr e ↦ inr (subst (IsAbove path) (sym e) (above_parent path above p))
  ],
  λ h. subst (λ l. Contains l folder) (sym whole) (elim h [
    | inl was ↦ Contains-append_left (map names_of now) (names_of above ∷ []) folder ((adds folder).1 (inl was))
    | inr a ↦ by_above (above_cases path above p folder a)
  ]),
)
  where
    whole : map names_of new ≡ map names_of now ++ names_of above ∷ []
    whole = ap (map names_of) is ∙ map-append names_of now (above ∷ [])

    by_above : (folder ≡ names_of above) ⊎ IsAbove above folder → Contains (map names_of now ++ names_of above ∷ []) folder
    by_above (inl same) = subst (Contains (map names_of now ++ names_of above ∷ [])) (sym same) (contains_seam (map names_of now) (names_of above) [])
    by_above (inr up) = Contains-append_left (map names_of now) (names_of above ∷ []) folder ((adds folder).1 (inr up))

-- Those of a list of paths

-- just the folders above these are found
abbrev pub AreAbove : (found paths : List (List ℕ)) → Type 0
AreAbove found paths = (folder : List (List ℕ)) → Contains (map names_of found) folder ↔ IsAboveOne paths folder

pub above_nothing : AreAbove [] []
above_nothing folder = (λ c. absurd (contains_none folder c), λ h. absurd (contains_none h.path h.among))

pub above_closed : (found paths : List (List ℕ)) → AreAbove found paths → HasFoldersAbove found
above_closed found paths are path folder c up =
    let one = (are (names_of path)).0 (map_contains names_of found path c) in
    (are folder).1 (record { path = one.path; among = one.among; above = above_trans one.path path folder one.above up })

pub above_step : {X : Type 0} (key : X → List ℕ) (items : List X) (i : ℕ) (item : X) (old new : List (List ℕ)) → i < length items → item ≡ get_or items i item
    → AreAbove old (map key (take i items)) → AddsAbove (key item) old new → AreAbove new (map key (take (i + 1) items))
above_step key items i item old new low is are adds folder = (
  λ c. elim ((adds folder).0 c) [
    | inl was ↦ (let one = (are folder).0 was in record { path = one.path; among = subst (λ l. Contains l one.path) (sym whole) (Contains-append_left (map key (take i items)) (key item ∷ []) one.path one.among); above = one.above })
    | inr up ↦ record { path = key item; among = subst (λ l. Contains l (key item)) (sym whole) (contains_seam (map key (take i items)) (key item) []); above = up }
  ],
  λ one. (adds folder).1 (elim (last_cases (map key (take i items)) (key item) one.path (subst (λ l. Contains l one.path) whole one.among)) [
    | inl was ↦ inl ((are folder).1 (record { path = one.path; among = was; above = one.above }))
    | inr e ↦ inr (subst (λ p. IsAbove p folder) e one.above)
  ]),
)
  where
    whole : map key (take (i + 1) items) ≡ map key (take i items) ++ key item ∷ []
    whole = ap (map key) (one_more items i item low is) ∙ map-append key (take i items) (item ∷ [])

pub above_all : {X : Type 0} (key : X → List ℕ) (items : List X) (i : ℕ) (found left : List (List ℕ)) → length items ≤ i → AreAbove found (map key (take i items)) → HasSamePaths found left → AreAbove left (map key items)
above_all key items i found left low are same folder = (
  λ c.
      let m = contains_map names_of left folder c in
      to_all ((are folder).0 (subst (Contains (map names_of found)) m.2 (map_contains names_of found m.0 ((same m.0).0 m.1)))),
  λ one.
      let m = contains_map names_of found folder ((are folder).1 (from_all one)) in
      subst (Contains (map names_of left)) m.2 (map_contains names_of left m.0 ((same m.0).1 m.1)),
)
  where
    to_all : IsAboveOne (map key (take i items)) folder → IsAboveOne (map key items) folder
    to_all = subst (λ l. IsAboveOne (map key l) folder) (take_all i items low)

    from_all : IsAboveOne (map key items) folder → IsAboveOne (map key (take i items)) folder
    from_all = subst (λ l. IsAboveOne (map key l) folder) (sym (take_all i items low))

pub above_answer : {X E : Type 0} (key : X → List ℕ) (items : List X) (i : ℕ) (found : List (List ℕ)) → length items ≤ i → AreAbove found (map key (take i items))
    → (r : Result (Vec (List ℕ) Global) E) → IfOk r (λ left. HasSamePaths found left.items) → IfOk r (λ left. AreAbove left.items (map key items))
above_answer key items i found low are (Err e) h = tt
above_answer key items i found low are (Ok left) h = above_all key items i found left.items low are h
