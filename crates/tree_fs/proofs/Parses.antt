-- The parts of a place's text: the word before the first slash, and the path behind it.
use Rattle.std.proofs.Common.{◌≡◌, ◌≢◌, ℕ, zero, suc, ◌+◌, ◌-◌, ◌<◌, ◌≤◌, ◌==◌, Bool, true, false, not, nat_lt, nat_le, cond, List, [], ◌∷◌, ◌++◌, length, get_or, take, refl, sym, ap, ◌∙◌, inl, inr, arith}
use Rattle.std.specs.Str.{bytes_eq}
use Rattle.std.specs.Option.{option_map}
use Rattle.std.specs.declared.option.Option.{Option}
use Rattle.std.specs.declared.option.Option.TheVariants.{None, Some}
use Rattle.std.proofs.lemmas.Bool.Decides.{eqb_tells, nat_tests}
use Rattle.list_laws.proofs.Positions.{place_below}
use Rattle.list_laws.proofs.Texts.{bytes_eq_tells}
use Rattle.rel_paths.specs.declared.error.PathError.{PathError}
use Rattle.rel_paths.specs.declared.error.PathError.TheVariants.{Empty, Long, Deep, BadName}
use Rattle.rel_paths.specs.Names.{names_of, is_good_name, is_name_within, user_limits, bad_name_fault, path_fault, held_limits, IsHeldPath, IsUserPath, IsModId, joined, parent_names}
use Rattle.rel_paths.proofs.Limits.{IsWithin-from_fault, IsHeldPath-user, IsHeldPath-joined}
use Rattle.rel_paths.proofs.NamesOf.{has_names}
use Rattle.rel_paths.proofs.Truths.{both, true_le}
use Rattle.rel_paths.proofs.OneName.{IsHeldPath-id, names_of-id, name-from_IsModId}
use Rattle.tree_fs.specs.declared.place.Place.{Place}
use Rattle.tree_fs.specs.declared.place.Root.{Root}
use Rattle.tree_fs.specs.declared.place.Root.TheVariants.{Stage, Game, Keep}
use Rattle.tree_fs.specs.Spot.{spot_of, front_names, has_some, names_below, parent}
use Rattle.tree_fs.specs.Places.{folder_above}
use Rattle.tree_fs.specs.Texts.{root_word, rel_text, place_text, word_of, below_word, root_named, fault_later, fault_below, rel_fault, place_fault, IsHeldRel, IsHeldPlace}

-- no byte of the text is a slash
abbrev pub LacksSlash : List ℕ → Type 0
LacksSlash t = (i : ℕ) → i < length t → get_or t i 0 ≢ 47

lacks-tail : (b : ℕ) (bs : List ℕ) → LacksSlash (b ∷ bs) → LacksSlash bs
lacks-tail b bs h i lt = h (suc i) (omega arith)

lacks-head : (b : ℕ) (bs : List ℕ) → LacksSlash (b ∷ bs) → (b == 47) ≡ false
lacks-head b bs h = elim (eqb_tells b 47) [ inl s ↦ absurd (h zero (omega arith) s.1) | inr s ↦ s.0 ]

pub word_of-at : (xs ys : List ℕ) → LacksSlash xs → word_of (xs ++ 47 ∷ ys) ≡ xs
word_of-at [] ys h = refl
word_of-at (x ∷ xs) ys h = rw (lacks-head x xs h) (ap (λ l. x ∷ l) (word_of-at xs ys (lacks-tail x xs h)))

pub below_word-at : (xs ys : List ℕ) → LacksSlash xs → below_word (xs ++ 47 ∷ ys) ≡ Some ys
below_word-at [] ys h = refl
below_word-at (x ∷ xs) ys h = rw (lacks-head x xs h) (below_word-at xs ys (lacks-tail x xs h))

pub word_of-all : (xs : List ℕ) → LacksSlash xs → word_of xs ≡ xs
word_of-all [] h = refl
word_of-all (x ∷ xs) h = rw (lacks-head x xs h) (ap (λ l. x ∷ l) (word_of-all xs (lacks-tail x xs h)))

pub below_word-none : (xs : List ℕ) → LacksSlash xs → below_word xs ≡ None
below_word-none [] h = refl
below_word-none (x ∷ xs) h = rw (lacks-head x xs h) (below_word-none xs (lacks-tail x xs h))

-- a text with a slash behind its word
pub place_fault-path : (text word path : List ℕ) → text ≡ word ++ 47 ∷ path → LacksSlash word → place_fault text ≡ fault_below (root_named word) (Some path)
unfolding place_fault
place_fault-path text word path e h = ap place_fault_at e ∙ (λ i. fault_below (root_named (word_of-at word path h i)) (below_word-at word path h i))
  where
    place_fault_at : List ℕ → Option PathError
    place_fault_at t = fault_below (root_named (word_of t)) (below_word t)

-- a text without a slash
pub place_fault-root : (text : List ℕ) → LacksSlash text → place_fault text ≡ fault_below (root_named text) None
unfolding place_fault
place_fault-root text h = λ i. fault_below (root_named (word_of-all text h i)) (below_word-none text h i)

-- a root's name is its word
pub root_named-word : (word : List ℕ) (r : Root) → root_named word ≡ Some r → word ≡ root_word r
root_named-word word r e = elim (bytes_eq_tells word (root_word Stage)) [
  | inl s ↦ let is : Stage ≡ r = by_stage s.0 in s.1 ∙ ap root_word is
  | inr not_stage ↦ elim (bytes_eq_tells word (root_word Game)) [
    | inl s ↦ let is : Game ≡ r = by_game not_stage.0 s.0 in s.1 ∙ ap root_word is
    | inr not_game ↦ elim (bytes_eq_tells word (root_word Keep)) [
      | inl s ↦ let is : Keep ≡ r = by_keep not_stage.0 not_game.0 s.0 in s.1 ∙ ap root_word is
      | inr not_keep ↦ absurd (by_none not_stage.0 not_game.0 not_keep.0)
    ]
  ]
]
  where
    by_stage : bytes_eq word (root_word Stage) ≡ true → Stage ≡ r
    by_stage t = let h : Some Stage ≡ Some r = rw t at e in cc

    by_game : bytes_eq word (root_word Stage) ≡ false → bytes_eq word (root_word Game) ≡ true → Game ≡ r
    by_game f t = let h : Some Game ≡ Some r = rw (f, t) at e in cc

    by_keep : bytes_eq word (root_word Stage) ≡ false → bytes_eq word (root_word Game) ≡ false → bytes_eq word (root_word Keep) ≡ true → Keep ≡ r
    by_keep f g t = let h : Some Keep ≡ Some r = rw (f, g, t) at e in cc

    by_none : bytes_eq word (root_word Stage) ≡ false → bytes_eq word (root_word Game) ≡ false → bytes_eq word (root_word Keep) ≡ false → ⊥
    by_none f g k = let h = rw (f, g, k) at e in cc

-- the text of each place is read back
pub word_of-text : (p : Place) → word_of (place_text p) ≡ root_word p.root
word_of-text p = by_parts p.root p.rel
  where
    by_parts : (r : Root) (rel : Option (List ℕ)) → word_of (root_word r ++ rel_text rel) ≡ root_word r
    by_parts Stage None = refl
    by_parts Stage (Some t) = refl
    by_parts Game None = refl
    by_parts Game (Some t) = refl
    by_parts Keep None = refl
    by_parts Keep (Some t) = refl

pub below_word-text : (p : Place) → below_word (place_text p) ≡ p.rel
below_word-text p = by_parts p.root p.rel
  where
    by_parts : (r : Root) (rel : Option (List ℕ)) → below_word (root_word r ++ rel_text rel) ≡ rel
    by_parts Stage None = refl
    by_parts Stage (Some t) = refl
    by_parts Game None = refl
    by_parts Game (Some t) = refl
    by_parts Keep None = refl
    by_parts Keep (Some t) = refl

-- how many names a held path has bounds the place of its first bad name
bad_name_below : (a b c : Bool) (o : Option ℕ) (k : ℕ) → cond a (Some Empty) (cond b (Some Long) (cond c (Some Deep) (bad_name_fault o))) ≡ Some (BadName k) → (c ≡ false) × (o ≡ Some k)
bad_name_below true b c o k e = absurd (cc)
bad_name_below false true c o k e = absurd (cc)
bad_name_below false false true o k e = absurd (cc)
bad_name_below false false false None k e = absurd (cc)
bad_name_below false false false (Some j) k e = let is : j ≡ k = cc in (refl, ap Some is)

pub bad_name-below : (text : List ℕ) (k : ℕ) → path_fault held_limits text ≡ Some (BadName k) → k < 72
unfolding path_fault
bad_name-below text k e =
    let found = bad_name_below _ _ _ _ k e in
    let lt : k < length (names_of text) = place_below (λ n. not (is_name_within 254 n)) (names_of text) k found.1 in
    let few : nat_lt 72 (length (names_of text)) ≡ false = found.0 in
    grind (arith, nat_tests)

-- a user path below a mod's id is a held path
pub IsHeldPath-staged : (id path : List ℕ) → IsModId id → IsUserPath path → IsHeldPath (joined id path)
IsHeldPath-staged id path good user =
    let short = true_le (length id) 240 (both (is_good_name id) (nat_le (length id) 240) (name-from_IsModId id good)).1 in
    let one : length (names_of id) ≡ 1 = ap length (names_of-id id good) in
    let within = IsWithin-from_fault user_limits path user in
    let bytes : length path ≤ 1024 = within.bytes in
    let names : length (names_of path) ≤ 64 = within.names in
    IsHeldPath-joined id path (IsHeldPath-id id good) (IsHeldPath-user path user) (omega arith) (omega arith)

-- all names but the last, in the words of paths
front-take : (names : List (List ℕ)) (n : ℕ) → length names ≡ n + 1 → front_names names ≡ take n names
front-take [] n e = absurd (omega arith)
front-take (x ∷ []) n e = let z : n ≡ 0 = omega arith in rw z refl
front-take (x ∷ y ∷ ys) zero e = absurd (omega arith)
front-take (x ∷ y ∷ ys) (suc n) e = ap (λ l. x ∷ l) (front-take (y ∷ ys) n (omega arith))

-- the names of the parent are all but the last
above_names : (b : Bool) (names : List (List ℕ)) (rel : Option (List ℕ)) → option_map names_of rel ≡ cond b None (Some names) → names_below rel ≡ cond b [] names
above_names true names None e = refl
above_names true names (Some text) e = absurd (cc)
above_names false names None e = absurd (cc)
above_names false names (Some text) e = cc

front_names-cut : (names : List (List ℕ)) → 0 < length names → cond (length names == 1) [] (take (length names - 1) names) ≡ front_names names
front_names-cut names some =
    let front = front-take names (length names - 1) (omega arith) in
    elim (eqb_tells (length names) 1) [
      | inl one ↦
          let is : length names ≡ 1 = one.1 in
          let none_left : length names - 1 ≡ 0 = omega arith in
          rw one.0 (sym (front ∙ ap (λ n. take n names) none_left))
      | inr more ↦ rw more.0 (sym front)
    ]

has_some-length : (names : List (List ℕ)) → has_some names ≡ true → 0 < length names
has_some-length [] e = absurd (cc)
has_some-length (x ∷ xs) e = omega arith

-- the folder of a path, by the path's parent
pub folder_above-path : (r : Root) (text : List ℕ) (rel : Option (List ℕ)) → option_map names_of rel ≡ parent_names (names_of text)
    → Some (spot_of (record { root = r; rel = rel })) ≡ folder_above (spot_of (record { root = r; rel = Some text }))
unfolding parent
folder_above-path r text rel e =
    let first = has_names text in
    let some : has_some (names_of text) ≡ true = ap has_some first.2 in
    let names : names_below rel ≡ front_names (names_of text) = above_names (length (names_of text) == 1) _ rel e ∙ front_names-cut (names_of text) (has_some-length (names_of text) some) in
    rw some (λ i. Some (record { root = r; names = names i }))

-- a text whose word is no root's has that fault first
pub place_fault-unnamed : (text word path : List ℕ) → text ≡ word ++ 47 ∷ path → LacksSlash word → None ≡ root_named word → place_fault text ≡ Some (BadName 0)
place_fault-unnamed text word path parts lacks e = place_fault-path text word path parts lacks ∙ ap (λ r. fault_below r (Some path)) (sym e)

pub place_fault-unnamed_root : (text : List ℕ) → LacksSlash text → None ≡ root_named text → place_fault text ≡ Some (BadName 0)
place_fault-unnamed_root text lacks e = place_fault-root text lacks ∙ ap (λ r. fault_below r None) (sym e)

pub place_fault-named : (text word path : List ℕ) (r : Root) → text ≡ word ++ 47 ∷ path → LacksSlash word → Some r ≡ root_named word → place_fault text ≡ rel_fault (Some path)
place_fault-named text word path r parts lacks e = place_fault-path text word path parts lacks ∙ ap (λ q. fault_below q (Some path)) (sym e)

pub place_fault-named_root : (text : List ℕ) (r : Root) → LacksSlash text → Some r ≡ root_named text → place_fault text ≡ None
place_fault-named_root text r lacks e = place_fault-root text lacks ∙ ap (λ q. fault_below q None) (sym e)

-- the text of each place of a held path is taken
pub place_fault-text : (p : Place) → IsHeldPlace p → place_fault (place_text p) ≡ None
unfolding place_fault
place_fault-text p held =
    (λ i. fault_below (root_named (word_of-text p i)) (below_word-text p i)) ∙ by_parts p.root p.rel held
  where
    by_rel : (rel : Option (List ℕ)) → IsHeldRel rel → rel_fault rel ≡ None
    by_rel None h = refl
    by_rel (Some path) h = ap fault_later h

    by_parts : (r : Root) (rel : Option (List ℕ)) → IsHeldRel rel → fault_below (root_named (root_word r)) rel ≡ None
    by_parts Stage rel h = by_rel rel h
    by_parts Game rel h = by_rel rel h
    by_parts Keep rel h = by_rel rel h
