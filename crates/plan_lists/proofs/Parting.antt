-- The own folders, from the last to the first.
use Rattle.std.proofs.Common.{◌≡◌, ◌⊎◌, ℕ, ◌+◌, ◌<◌, List, [], ◌∷◌, ◌++◌, length, get_or, take, drop, suc, map, sym, ap, ◌∙◌, subst, inl, inr, add-one}
use Rattle.std.specs.List.{Contains}
use Rattle.std.specs.List.Sorted.{IsStrictlySortedBy}
use Rattle.std.specs.Ordering.{nat_cmp}
use Rattle.std.specs.Cmp.Lexicographic.{slice_cmp}
use Rattle.std.specs.declared.cmp.Ordering.TheVariants.{Less}
use Rattle.std.proofs.lemmas.List.{take-append-drop}
use Rattle.std.proofs.lemmas.List.Elements.{Contains-append_left, Contains-append_right}
use Rattle.list_laws.proofs.Alls.{all_item, all_from_contains}
use Rattle.list_laws.proofs.Containing.{contains_map, map_contains, contains_cases, contains_none, contains_here, contains_there, contains_seam, last_cases, at_seam}
use Rattle.list_laws.proofs.Lists.{rest_from, around}
use Rattle.list_laws.proofs.Orders.{text_not_both, text_not_itself}
use Rattle.list_laws.proofs.Sorted.{sorted_front, sorted_back, sorted_more}
use Rattle.rel_paths.proofs.First.{cmp-below}
use Rattle.rel_paths.proofs.Extends.{extends-tells}
use Rattle.tree_fs.specs.Spot.{IsBelow}
use Rattle.tree_fs.specs.Places.{game_spot}
use Rattle.tree_fs.specs.Disk.{Disk}
use Rattle.tree_fs.specs.Calls.{IsFolder}
use Rattle.manifest_json.specs.Paths.{AreRising}
use Rattle.move_plan.specs.declared.plan.Plan.{Plan}
use Rattle.plan_model.specs.Folders.{GoesOff}
use Rattle.plan_model.proofs.Rows.{below-extends}
use Rattle.winner_table.specs.Folders.{IsFolderOf}
use Rattle.plan_lists.specs.declared.folders.Fate.{Fate}
use Rattle.plan_lists.specs.declared.folders.Fate.TheVariants.{Stays, Goes, Gone}
use Rattle.plan_lists.specs.Search.{turned_cmp, AreFalling}
use Rattle.plan_lists.specs.Off.{GoesByOwn, AreOffBelow, IsFate, AreParted, kept_with, off_with}

-- a folder, and those behind it
module _ (own : List (List ℕ)) (rise : AreRising own) (i : ℕ) (path : List ℕ) (low : i < length own) (is : path ≡ get_or own i path) where
  whole : own ≡ take i own ++ path ∷ drop (suc i) own
  whole = around own i path low is

  later : (q : List ℕ) → Contains (drop (suc i) own) q → slice_cmp nat_cmp path q ≡ Less
  later q c = all_item (λ p. slice_cmp nat_cmp path p ≡ Less) (drop (suc i) own) q (sorted_back (slice_cmp nat_cmp) (take i own) path (drop (suc i) own) (subst AreRising whole rise)) c

  same_rest : drop (suc i) own ≡ drop (i + 1) own
  same_rest = ap (λ n. drop n own) (sym (add-one i))

  in_rest : (q : List ℕ) → Contains own q → slice_cmp nat_cmp path q ≡ Less → Contains (drop (i + 1) own) q
  in_rest q c less = by_place (at_seam (take i own) path (drop (suc i) own) q (subst (λ l. Contains l q) whole c))
    where
      by_place : Contains (take i own) q ⊎ (q ≡ path) ⊎ Contains (drop (suc i) own) q → Contains (drop (i + 1) own) q
      by_place (inl front) = absurd (text_not_both path q less (all_item (λ p. slice_cmp nat_cmp p path ≡ Less) (take i own) q (sorted_front (slice_cmp nat_cmp) (take i own) path (drop (suc i) own) (subst AreRising whole rise)) front))
      by_place (inr (inl e)) = absurd (text_not_itself path (subst (λ t. slice_cmp nat_cmp path t ≡ Less) e less))
      by_place (inr (inr back)) = subst (λ l. Contains l q) same_rest back

  pub falling_more : (off : List (List ℕ)) (fate : Fate) → ((q : List ℕ) → Contains off q → Contains (drop (i + 1) own) q) → AreFalling off → AreFalling (off_with fate path off)
  falling_more off Stays among falling = falling
  falling_more off Gone among falling = falling
  falling_more off Goes among falling = sorted_more turned_cmp off path falling (all_from_contains (λ q. turned_cmp q path ≡ Less) off (λ q c. later q (subst (λ l. Contains l q) (sym same_rest) (among q c))))

  in_next : (q : List ℕ) → Contains (drop (i + 1) own) q → Contains (drop i own) q
  in_next q c = subst (λ l. Contains l q) (sym (rest_from own i path low is)) (contains_there path q (drop (i + 1) own) c)

  pub among_more : (off : List (List ℕ)) (fate : Fate) → ((q : List ℕ) → Contains off q → Contains (drop (i + 1) own) q) → (q : List ℕ) → Contains (off_with fate path off) q → Contains (drop i own) q
  among_more off Stays among q c = in_next q (among q c)
  among_more off Gone among q c = in_next q (among q c)
  among_more off Goes among q c = elim (last_cases off path q c) [
    | inl k ↦ in_next q (among q k)
    | inr e ↦ subst (λ l. Contains l q) (sym (rest_from own i path low is)) (subst (Contains (path ∷ drop (i + 1) own)) (sym e) (contains_here path (drop (i + 1) own)))
  ]

module _ (a : Disk) (own files emptied : List (List ℕ)) (plan : Plan) where
  pub parted_none : AreParted a own files plan [] [] []
  parted_none = record {
    goes = λ p. (λ c. absurd (contains_none p c), λ h. absurd (contains_none p h.0));
    stays = λ p. (λ c. absurd (contains_none p c), λ h. absurd (contains_none p h.0));
  }

  module _ (by : GoesByOwn a own files emptied plan) (rise : AreRising own) (i : ℕ) (path : List ℕ) (low : i < length own) (is : path ≡ get_or own i path) (kept off : List (List ℕ)) (was : AreParted a own files plan (drop (i + 1) own) kept off) where
    -- those below it that go are known
    pub off_below : AreOffBelow a own off plan (game_spot path)
    off_below x b = (
      λ c. let m = contains_map game_spot off x c in subst (GoesOff a own plan) m.2 ((was.goes m.0).0 m.1).1,
      λ goes.
          let m = contains_map game_spot own x (by.owned x goes).0 in
          let ext = extends-tells m.0 path (below-extends path m.0 (subst (IsBelow (game_spot path)) (sym m.2) b)) in
          let less : slice_cmp nat_cmp path m.0 ≡ Less = ap (slice_cmp nat_cmp path) ext.1 ∙ cmp-below path ext.0 in
          subst (Contains (map game_spot off)) m.2 (map_contains game_spot off m.0 ((was.goes m.0).1 (in_rest own rise i path low is m.0 m.1 less, subst (GoesOff a own plan) (sym m.2) goes))),
    )

    parted_stays : IsFate a own files plan path Stays → AreParted a own files plan (path ∷ drop (i + 1) own) (kept ++ path ∷ []) off
    parted_stays fate = record {
      goes = λ p. (
        λ c. let h = (was.goes p).0 c in (contains_there path p (drop (i + 1) own) h.0, h.1),
        λ h. elim (contains_cases path p (drop (i + 1) own) h.0) [
          | inl e ↦ absurd (fate.1 (subst (λ q. GoesOff a own plan (game_spot q)) e h.1))
          | inr c ↦ (was.goes p).1 (c, h.1)
        ],
      );
      stays = λ p. (
        λ c. elim (last_cases kept path p c) [
          | inl k ↦ (let h = (was.stays p).0 k in (contains_there path p (drop (i + 1) own) h.0, h.1, h.2))
          | inr e ↦ subst (λ q. Contains (path ∷ drop (i + 1) own) q × (IsFolderOf files q ⊎ IsFolder a (game_spot q)) × (¬ GoesOff a own plan (game_spot q))) (sym e) (contains_here path (drop (i + 1) own), fate.0, fate.1)
        ],
        λ h. elim (contains_cases path p (drop (i + 1) own) h.0) [
          | inl e ↦ subst (Contains (kept ++ path ∷ [])) (sym e) (contains_seam kept path [])
          | inr c ↦ Contains-append_left kept (path ∷ []) p ((was.stays p).1 (c, h.1, h.2))
        ],
      );
    }

    parted_goes : IsFate a own files plan path Goes → AreParted a own files plan (path ∷ drop (i + 1) own) kept (off ++ path ∷ [])
    parted_goes fate = record {
      goes = λ p. (
        λ c. elim (last_cases off path p c) [
          | inl k ↦ (let h = (was.goes p).0 k in (contains_there path p (drop (i + 1) own) h.0, h.1))
          | inr e ↦ subst (λ q. Contains (path ∷ drop (i + 1) own) q × GoesOff a own plan (game_spot q)) (sym e) (contains_here path (drop (i + 1) own), fate)
        ],
        λ h. elim (contains_cases path p (drop (i + 1) own) h.0) [
          | inl e ↦ subst (Contains (off ++ path ∷ [])) (sym e) (contains_seam off path [])
          | inr c ↦ Contains-append_left off (path ∷ []) p ((was.goes p).1 (c, h.1))
        ],
      );
      stays = λ p. (
        λ c. let h = (was.stays p).0 c in (contains_there path p (drop (i + 1) own) h.0, h.1, h.2),
        λ h. elim (contains_cases path p (drop (i + 1) own) h.0) [
          | inl e ↦ absurd (h.2 (subst (λ q. GoesOff a own plan (game_spot q)) (sym e) fate))
          | inr c ↦ (was.stays p).1 (c, h.1, h.2)
        ],
      );
    }

    parted_gone : IsFate a own files plan path Gone → AreParted a own files plan (path ∷ drop (i + 1) own) kept off
    parted_gone fate = record {
      goes = λ p. (
        λ c. let h = (was.goes p).0 c in (contains_there path p (drop (i + 1) own) h.0, h.1),
        λ h. elim (contains_cases path p (drop (i + 1) own) h.0) [
          | inl e ↦ absurd (fate.1 (subst (λ q. IsFolder a (game_spot q)) e (by.owned (game_spot p) h.1).1))
          | inr c ↦ (was.goes p).1 (c, h.1)
        ],
      );
      stays = λ p. (
        λ c. let h = (was.stays p).0 c in (contains_there path p (drop (i + 1) own) h.0, h.1, h.2),
        λ h. elim (contains_cases path p (drop (i + 1) own) h.0) [
          | inl e ↦ elim h.1 [
            | inl below ↦ absurd (fate.0 (subst (IsFolderOf files) e below))
            | inr there ↦ absurd (fate.1 (subst (λ q. IsFolder a (game_spot q)) e there))
          ]
          | inr c ↦ (was.stays p).1 (c, h.1, h.2)
        ],
      );
    }

    by_fate : (fate : Fate) → IsFate a own files plan path fate → AreParted a own files plan (path ∷ drop (i + 1) own) (kept_with fate path kept) (off_with fate path off)
    by_fate Stays h = parted_stays h
    by_fate Goes h = parted_goes h
    by_fate Gone h = parted_gone h

    pub parted_more : (fate : Fate) → IsFate a own files plan path fate → AreParted a own files plan (drop i own) (kept_with fate path kept) (off_with fate path off)
    parted_more fate h = subst (λ l. AreParted a own files plan l (kept_with fate path kept) (off_with fate path off)) (sym (rest_from own i path low is)) (by_fate fate h)

pub falling_none : AreFalling []
unfolding IsStrictlySortedBy
falling_none = tt

-- the folders that stay are old ones
pub kept_more : (own : List (List ℕ)) (path : List ℕ) → Contains own path → (kept : List (List ℕ)) (fate : Fate) → ((q : List ℕ) → Contains kept q → Contains own q) → (q : List ℕ) → Contains (kept_with fate path kept) q → Contains own q
kept_more own path c kept Stays was q h = elim (last_cases kept path q h) [ inl there ↦ was q there | inr e ↦ subst (Contains own) (sym e) c ]
kept_more own path c kept Goes was q h = was q h
kept_more own path c kept Gone was q h = was q h

-- what is left of a list is among it
pub dropped_among : (n : ℕ) (paths : List (List ℕ)) (q : List ℕ) → Contains (drop n paths) q → Contains paths q
dropped_among n paths q c = subst (λ l. Contains l q) (take-append-drop n paths) (Contains-append_right (take n paths) (drop n paths) q c)
