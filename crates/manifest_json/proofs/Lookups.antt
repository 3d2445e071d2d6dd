-- What the sets of sources tell.
use Rattle.std.proofs.Common.{◌≡◌, ℕ, zero, suc, ◌+◌, ◌<◌, ◌≤◌, ◌==◌, eqb, Bool, true, false, ◌&&◌, ◌||◌, inl, inr, List, [], ◌∷◌, ◌++◌, length, take, drop, get_or, slice_index, refl, ap, sym, ◌∙◌, length-append, arith}
use Rattle.std.specs.Bool.{Decides}
use Rattle.std.specs.Borrow.{Bor}
use Rattle.std.specs.Str.{bytes_eq}
use Rattle.std.specs.List.{list_any}
use Rattle.std.specs.Ordering.{nat_cmp, ordering_then, is_eq, match_ordering}
use Rattle.std.specs.declared.cmp.Ordering.{Ordering}
use Rattle.std.specs.declared.cmp.Ordering.TheVariants.{Less, Equal, Greater}
use Rattle.std.specs.Cmp.Lexicographic.{slice_cmp, texts_ties}
use Rattle.std.specs.BTreeSet.{insert_key}
use Rattle.std.proofs.Math.Seq.{take-append_seam}
use Rattle.std.proofs.lemmas.List.{take-append-drop, drop_more}
use Rattle.std.proofs.lemmas.Bool.{cases_lt}
use Rattle.std.proofs.lemmas.Bool.Decides.{same_from_decides, Decides-eqb, Decides-and, Decides-like, Decides-below_or}
use Rattle.std.proofs.lemmas.Slice.Eq.{bytes_eq-Decides}
use Rattle.rel_paths.specs.Names.{extends}
use Rattle.rel_paths.proofs.Extends.{extends-tells, extends-below}
use Rattle.std.proofs.lemmas.Bool.{and_parts}
use Rattle.manifest_json.specs.declared.manifest.Row.{Row}
use Rattle.manifest_json.specs.declared.sources.Sources.{Sources}
use Rattle.manifest_json.specs.Sources.{meets, is_pair, any_below, ends_folder, is_below_one, is_met, HasAdded, IsTold}
use Rattle.manifest_json.proofs.Booleans.{or_true, and_false, same_or, swap_or, spread, three}
use Rattle.manifest_json.proofs.Same.{texts}

pub bytes_eq-sym : (a b : List ℕ) → bytes_eq a b ≡ bytes_eq b a
bytes_eq-sym a b = same_from_decides {P = a ≡ b} _ _ (bytes_eq-Decides a b) (Decides-like (bytes_eq b a) (λ e. sym e) (λ e. sym e) (bytes_eq-Decides b a))

-- ---- keys

abbrev pub key_cmp : Bor (List ℕ) × Bor (List ℕ) → Bor (List ℕ) × Bor (List ℕ) → Ordering
key_cmp x y = ordering_then (slice_cmp nat_cmp x.0.now y.0.now) (slice_cmp nat_cmp x.1.now y.1.now)

tied : (a b : List ℕ) → is_eq (slice_cmp nat_cmp a b) ≡ bytes_eq b a
tied a b = sym (texts_ties a b) ∙ same_from_decides {P = a ≡ b} _ _ (texts a b) (bytes_eq-Decides a b) ∙ bytes_eq-sym a b

both_tied : (o r : Ordering) → is_eq (ordering_then o r) ≡ (is_eq o && is_eq r)
both_tied Less r = refl
both_tied Equal r = refl
both_tied Greater r = refl

pub key_is : (x y : Bor (List ℕ) × Bor (List ℕ)) → is_eq (key_cmp x y) ≡ is_pair y.0.now y.1.now x.0.now x.1.now
key_is x y = both_tied (slice_cmp nat_cmp x.0.now y.0.now) (slice_cmp nat_cmp x.1.now y.1.now) ∙ (λ i. tied x.0.now y.0.now i && tied x.1.now y.1.now i)

-- equal keys have equal texts
key_same : (x y : Bor (List ℕ) × Bor (List ℕ)) → key_cmp x y ≡ Equal → (m p : List ℕ) → is_pair y.0.now y.1.now m p ≡ is_pair x.0.now x.1.now m p
key_same x y e m p =
    let parts = and_parts (bytes_eq y.0.now x.0.now) (bytes_eq y.1.now x.1.now) (sym (key_is x y) ∙ ap is_eq e) in
    λ i. is_pair ((bytes_eq-Decides y.0.now x.0.now).0 parts.0 i) ((bytes_eq-Decides y.1.now x.1.now).0 parts.1 i) m p

insert_any : {K : Type 0} (cmp : K → K → Ordering) (test : K → Bool) (k : K) → ((x : K) → cmp k x ≡ Equal → test x ≡ test k) → (xs : List K) → list_any test (insert_key cmp xs k) ≡ (test k || list_any test xs)
insert_any cmp test k same [] = refl
insert_any cmp test k same (x ∷ xs) =
    elim (cmp k x) as (λ o. cmp k x ≡ o → list_any test (match_ordering o (k ∷ x ∷ xs) (x ∷ xs) (x ∷ insert_key cmp xs k)) ≡ (test k || (test x || list_any test xs))) [
      | Less ↦ λ e. refl
      | Equal ↦ λ e. same_or (test k) (test x) (list_any test xs) (same x e)
      | Greater ↦ λ e. ap (λ b. test x || b) (insert_any cmp test k same xs) ∙ swap_or (test x) (test k) (list_any test xs)
    ] refl

-- a set that got a key has it, and what it had
pub has_inserted : (k : Bor (List ℕ) × Bor (List ℕ)) (ks : List (Bor (List ℕ) × Bor (List ℕ))) (m p : List ℕ)
    → list_any (λ x. is_pair x.0.now x.1.now m p) (insert_key key_cmp ks k) ≡ (is_pair k.0.now k.1.now m p || list_any (λ x. is_pair x.0.now x.1.now m p) ks)
has_inserted k ks m p = insert_any key_cmp (λ x. is_pair x.0.now x.1.now m p) k (λ x e. key_same k x e m p) ks

-- ---- tests of numbers

pub below_at : (n : ℕ) (test : ℕ → Bool) (i : ℕ) → i < n → test i ≡ true → any_below n test ≡ true
below_at zero test i h e = absurd (omega arith)
below_at (suc n) test i h e =
    elim (cases_lt i n) [
      | inl under ↦ ap (λ b. test n || b) (below_at n test i under e) ∙ or_true (test n)
      | inr top ↦ let same : n ≡ i = omega arith in ap (λ k. test k || any_below n test) same ∙ ap (λ b. b || any_below n test) e
    ]

nothing_below : (n : ℕ) (b : ℕ → Bool) → any_below n (λ i. b i && false) ≡ false
nothing_below zero b = refl
nothing_below (suc n) b = (λ i. and_false (b n) i || nothing_below n b i)

spread_below : (n : ℕ) (c : Bool) (b q t : ℕ → Bool) → any_below n (λ i. b i && ((c && q i) || t i)) ≡ ((c && any_below n (λ i. b i && q i)) || any_below n (λ i. b i && t i))
spread_below zero c b q t = (λ i. sym (and_false c) i || false)
spread_below (suc n) c b q t =
    ap (λ x. (b n && ((c && q n) || t n)) || x) (spread_below n c b q t)
    ∙ spread c (b n) (q n) (t n) (any_below n (λ i. b i && q i)) (any_below n (λ i. b i && t i))

-- ---- folders of a path

at_seam : (xs ys : List ℕ) (y : ℕ) → get_or (xs ++ y ∷ ys) (length xs) 0 ≡ y
at_seam [] ys y = refl
at_seam (x ∷ xs) ys y = at_seam xs ys y

pub folder_below : (s p : List ℕ) → any_below (length s) (ends_folder s p) ≡ extends s p
folder_below s p =
    same_from_decides {P = (rest : List ℕ) × (s ≡ p ++ 47 ∷ rest)} _ _
    (Decides-like _
    (λ h. (
      drop (h.0 + 1) s,
      sym (take-append-drop h.0 s) ∙ (λ i. h.2.1 i ++ drop h.0 s) ∙ ap (λ l. p ++ l) (drop_more s h.0 0 h.1 ∙ ap (λ b. b ∷ drop (h.0 + 1) s) h.2.0),
    ))
    (λ r. (
      length p,
      omega (arith, ap length r.1, length-append p (47 ∷ r.0)),
      (ap (λ l. get_or l (length p) 0) r.1 ∙ at_seam p r.0 47, ap (take (length p)) r.1 ∙ take-append_seam p (47 ∷ r.0)),
    ))
    (Decides-below_or (ends_folder s p) (λ i. (slice_index s i ≡ 47) × (take i s ≡ p)) (λ n. any_below n (ends_folder s p)) (λ i. Decides-and _ _ (Decides-eqb (slice_index s i) 47) (bytes_eq-Decides (take i s) p)) refl (λ n. refl) (length s)))
    (extends-tells s p, λ r. extends-below s p r.0 r.1)

-- ---- rows

below_any : (n : ℕ) (s id : List ℕ) (rows : List Row)
    → any_below n (λ i. (slice_index s i == 47) && list_any (λ r. is_pair r.mod_id r.source id (take i s)) rows) ≡ list_any (λ r. bytes_eq r.mod_id id && any_below n (ends_folder s r.source)) rows
below_any n s id [] = nothing_below n (λ i. slice_index s i == 47)
below_any n s id (r ∷ rows) =
    (λ j. any_below n (λ i. (slice_index s i == 47) && ((bytes_eq r.mod_id id && bytes_eq-sym r.source (take i s) j) || list_any (λ x. is_pair x.mod_id x.source id (take i s)) rows)))
    ∙ spread_below n (bytes_eq r.mod_id id) (λ i. slice_index s i == 47) (λ i. bytes_eq (take i s) r.source) (λ i. list_any (λ x. is_pair x.mod_id x.source id (take i s)) rows)
    ∙ ap (λ b. (bytes_eq r.mod_id id && any_below n (ends_folder s r.source)) || b) (below_any n s id rows)

three_any : {X : Type 0} (c p q t : X → Bool) (xs : List X)
    → (list_any (λ x. c x && p x) xs || (list_any (λ x. c x && q x) xs || list_any (λ x. c x && t x) xs)) ≡ list_any (λ x. c x && (p x || (q x || t x))) xs
three_any c p q t [] = refl
three_any c p q t (x ∷ xs) =
    three (c x) (p x) (q x) (t x) (list_any (λ y. c y && p y) xs) (list_any (λ y. c y && q y) xs) (list_any (λ y. c y && t y) xs)
    ∙ ap (λ b. (c x && (p x || (q x || t x))) || b) (three_any c p q t xs)

module _ (rows : List Row) (sources : Sources) (told : IsTold rows sources) where
  lies_below : (id s : List ℕ) → is_below_one sources.taken id s ≡ list_any (λ x. bytes_eq x.mod_id id && extends s x.source) rows
  lies_below id s =
      (λ i. any_below (length s) (λ j. (slice_index s j == 47) && told.taken id (take j s) i))
      ∙ below_any (length s) s id rows
      ∙ (λ i. list_any (λ x. bytes_eq x.mod_id id && folder_below s x.source i) rows)

  -- the look-up tells what the rows do
  pub met_is : (r : Row) → is_met sources r.mod_id r.source ≡ list_any (meets r) rows
  met_is r =
      (λ i. told.taken r.mod_id r.source i || (told.folders r.mod_id r.source i || lies_below r.mod_id r.source i))
      ∙ three_any (λ x. bytes_eq x.mod_id r.mod_id) (λ x. bytes_eq x.source r.source) (λ x. extends x.source r.source) (λ x. extends r.source x.source) rows

  pub told_more : (r : Row) (new : Sources) → HasAdded r.mod_id r.source sources new → IsTold (r ∷ rows) new
  told_more r new added = record {
    taken = λ m p. added.taken m p ∙ ap (λ b. is_pair r.mod_id r.source m p || b) (told.taken m p);
    folders = λ m p. added.folders m p ∙ (λ i. (bytes_eq r.mod_id m && folder_below r.source p i) || told.folders m p i);
  }

pub told_none : (sources : Sources) → sources.taken.keys ≡ [] → sources.folders.keys ≡ [] → IsTold [] sources
told_none sources h k = record {
  taken = λ m p. ap (list_any (λ x. is_pair x.0.now x.1.now m p)) h;
  folders = λ m p. ap (list_any (λ x. is_pair x.0.now x.1.now m p)) k;
}
