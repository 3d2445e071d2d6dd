-- Reading goes from row to row.
use Rattle.std.proofs.Common.{◌≡◌, ℕ, zero, suc, ◌+◌, ◌<◌, ◌≤◌, get_or, arith, add-one, false, List, [], ◌∷◌, ◌++◌, Ok, Err, reverse, map, length, drop, refl, ap, sym, subst, ◌∙◌}
use Rattle.std.specs.List.{list_any, AllByRecursion}
use Rattle.std.specs.List.Sorted.{IsStrictlySortedBy}
use Rattle.std.specs.Ordering.{nat_cmp}
use Rattle.std.specs.Cmp.Lexicographic.{slice_cmp}
use Rattle.std.specs.declared.cmp.Ordering.TheVariants.{Less}
use Rattle.std.proofs.lemmas.List.{reverse-append, reverse-reverse}
use Rattle.serde_json.specs.Data.{Data}
use Rattle.manifest_json.specs.declared.manifest.Row.{Row}
use Rattle.manifest_json.specs.declared.version.FormatVersion.{FormatVersion}
use Rattle.manifest_json.specs.declared.error.ManifestError.{ManifestError}
use Rattle.manifest_json.specs.Paths.{AreRising, AreFlat}
use Rattle.rel_paths.specs.Names.{extends}
use Rattle.manifest_json.specs.Stack.{IsLine}
use Rattle.manifest_json.specs.Records.{paths_of}
use Rattle.manifest_json.specs.Rows.{row_alone, row_behind, row_beside, rows_from}
use Rattle.manifest_json.proofs.Booleans.{neither}
use Rattle.manifest_json.proofs.Ends.{map_reverse}
use Rattle.manifest_json.proofs.Lines.{AreBelow, AreSteps, below_all, steps_of}

module _ (version : FormatVersion) (earlier : List Row) (i : ℕ) (d : Data) (ds : List Data) where
  pub scan_alone : (e : ManifestError) → row_alone version i d ≡ Err e → rows_from version earlier i (d ∷ ds) ≡ Err e
  scan_alone e h = rw h

  pub scan_behind : (r : Row) (e : ManifestError) → row_alone version i d ≡ Ok r → row_behind earlier i r ≡ Err e → rows_from version earlier i (d ∷ ds) ≡ Err e
  scan_behind r e h k = rw (h, k)

  pub scan_beside : (r : Row) (e : ManifestError) → row_alone version i d ≡ Ok r → row_behind earlier i r ≡ Ok r → row_beside earlier i r ≡ Err e → rows_from version earlier i (d ∷ ds) ≡ Err e
  scan_beside r e h k l = rw (h, k, l)

  pub scan_more : (r : Row) → row_alone version i d ≡ Ok r → row_behind earlier i r ≡ Ok r → row_beside earlier i r ≡ Ok r → rows_from version earlier i (d ∷ ds) ≡ rows_from version (r ∷ earlier) (i + 1) ds
  scan_more r h k l = rw (h, k, l)

-- a list that only grows at its end
pub all_push : {X : Type 0} (P : X → Type 0) (xs : List X) (x : X) → AllByRecursion P xs → P x → AllByRecursion P (xs ++ x ∷ [])
all_push P [] x h p = (p, tt)
all_push P (y ∷ ys) x h p = (h.0, all_push P ys x h.1 p)

pub all_reverse : {X : Type 0} (P : X → Type 0) (xs : List X) → AllByRecursion P xs → AllByRecursion P (reverse xs)
all_reverse P [] h = tt
all_reverse P (x ∷ xs) h = subst (AllByRecursion P) (sym (reverse-append (x ∷ []) xs)) (all_push P (reverse xs) x (all_reverse P xs h.1) h.0)

rising_push : (ps : List (List ℕ)) (p : List ℕ) → AreRising ps → AreBelow p ps → AreRising (ps ++ p ∷ [])
unfolding IsStrictlySortedBy
rising_push [] p h k = (tt, tt)
rising_push (q ∷ ps) p h k = (all_push (λ r. slice_cmp nat_cmp q r ≡ Less) ps p h.0 k.0, rising_push ps p h.1 k.1)

flat_push : (ps : List (List ℕ)) (p : List ℕ) → AreFlat ps → AllByRecursion (λ q. extends p q ≡ false) ps → AreFlat (ps ++ p ∷ [])
flat_push [] p h k = (tt, tt)
flat_push (q ∷ ps) p h k = (all_push (λ r. extends r q ≡ false) ps p h.0 k.0, flat_push ps p h.1 k.1)

none_of : (p : List ℕ) (ps : List (List ℕ)) → list_any (extends p) ps ≡ false → AllByRecursion (λ q. extends p q ≡ false) ps
none_of p [] h = tt
none_of p (q ∷ ps) h = let parts = neither (extends p q) (list_any (extends p) ps) h in (parts.0, none_of p ps parts.1)

pub steps_rise : (ps : List (List ℕ)) → AreSteps ps → AreRising (reverse ps)
unfolding IsStrictlySortedBy
steps_rise [] h = tt
steps_rise (p ∷ ps) h = subst AreRising (sym (reverse-append (p ∷ []) ps)) (rising_push (reverse ps) p (steps_rise ps h.1) (all_reverse (λ q. slice_cmp nat_cmp q p ≡ Less) ps (below_all ps p h.1 h.0)))

line_flat : (ps : List (List ℕ)) → IsLine ps → AreFlat (reverse ps)
line_flat [] h = tt
line_flat (p ∷ ps) h = subst AreFlat (sym (reverse-append (p ∷ []) ps)) (flat_push (reverse ps) p (line_flat ps h.2) (all_reverse (λ q. extends p q ≡ false) ps (none_of p ps h.1)))

back : (rows : List Row) → reverse (paths_of (reverse rows)) ≡ paths_of rows
back rows = ap reverse (map_reverse (λ r. r.path) rows) ∙ reverse-reverse (paths_of rows)

pub rows_rise : (rows : List Row) → IsLine (paths_of (reverse rows)) → AreRising (paths_of rows)
rows_rise rows h = subst AreRising (back rows) (steps_rise (paths_of (reverse rows)) (steps_of _ h))

pub rows_flat : (rows : List Row) → IsLine (paths_of (reverse rows)) → AreFlat (paths_of rows)
rows_flat rows h = subst AreFlat (back rows) (line_flat (paths_of (reverse rows)) h)

-- what stands next
pub next : {X Y : Type 0} (f : X → Y) (xs : List X) (i : ℕ) (x : X) → i < length xs → x ≡ get_or xs i x → drop i (map f xs) ≡ f x ∷ drop (i + 1) (map f xs)
next f [] i x h e = absurd (omega arith)
next f (y ∷ xs) zero x h e = ap (λ z. f z ∷ map f xs) (sym e)
next f (y ∷ xs) (suc i) x h e = let ih = next f xs i x (omega arith) e in rw add-one (rw add-one at ih)

pub at_end : {X Y : Type 0} (f : X → Y) (xs : List X) (i : ℕ) → length xs ≤ i → drop i (map f xs) ≡ []
at_end f [] zero h = refl
at_end f [] (suc i) h = refl
at_end f (x ∷ xs) zero h = absurd (omega arith)
at_end f (x ∷ xs) (suc i) h = at_end f xs i (omega arith)
