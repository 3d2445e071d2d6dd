-- The rows that a settlement leaves.
use Rattle.std.proofs.Common.{◌≡◌, ℕ, false, List, [], ◌∷◌, ◌++◌, map, filter_map, option_to_list, refl, sym, ap, ◌∙◌, subst}
use Rattle.std.specs.List.{AllByRecursion, Contains, cons_option}
use Rattle.std.specs.List.Sorted.{IsStrictlySortedBy}
use Rattle.std.specs.Ordering.{nat_cmp}
use Rattle.std.specs.Cmp.Lexicographic.{slice_cmp}
use Rattle.std.specs.declared.cmp.Ordering.TheVariants.{Less}
use Rattle.std.specs.declared.option.Option.{Option}
use Rattle.std.specs.declared.option.Option.TheVariants.{None, Some}
use Rattle.rel_paths.specs.Names.{names_of, IsFreePath, IsModId, extends}
use Rattle.list_laws.proofs.Containing.{contains_filter_map, filter_map_contains}
use Rattle.tree_fs.specs.Disk.{Disk}
use Rattle.manifest_json.specs.declared.manifest.Row.{Row}
use Rattle.manifest_json.specs.Paths.{AreRising, AreFlat}
use Rattle.manifest_json.specs.Records.{paths_of}
use Rattle.manifest_json.specs.Apart.{AreApart, HaveApartSources, HasApartSources}
use Rattle.manifest_json.specs.Sound.{IsRow, AreRows}
use Rattle.desk_model.specs.Places.{Names}
use Rattle.desk_model.specs.Records.{row_at}
use Rattle.desk_model.specs.Settled.{Choice, Deed, left_whole, put_aside, imported, reverted, accepted, linked_again, staged_again, let_go, dropped, deed_of, settled_row, some_rows}
use Rattle.plan_model.proofs.Firsts.{row-some, row-here}
use Rattle.change_settle.specs.Deeds.{next_row, next_rows}
use Rattle.change_settle.specs.Rows.{Renews, IsLeft, AreLeft}

made_of : (r s made : Row) → Renews r s → Some s ≡ Some made → Renews r made
made_of r s made h e = let is : s ≡ made = cc in subst (Renews r) is h

pub renews : (a : Disk) (r made : Row) (d : Deed) → settled_row a r d ≡ Some made → Renews r made
renews a r made left_whole e = made_of r r made (record { path = refl; mod_id = refl; source = refl; shadowed = refl }) e
renews a r made put_aside e = made_of r _ made (record { path = refl; mod_id = refl; source = refl; shadowed = refl }) e
renews a r made imported e = made_of r _ made (record { path = refl; mod_id = refl; source = refl; shadowed = refl }) e
renews a r made reverted e = made_of r _ made (record { path = refl; mod_id = refl; source = refl; shadowed = refl }) e
renews a r made accepted e = made_of r _ made (record { path = refl; mod_id = refl; source = refl; shadowed = refl }) e
renews a r made linked_again e = made_of r _ made (record { path = refl; mod_id = refl; source = refl; shadowed = refl }) e
renews a r made staged_again e = made_of r _ made (record { path = refl; mod_id = refl; source = refl; shadowed = refl }) e
renews a r made let_go e = absurd (cc)
renews a r made dropped e = absurd (cc)

pub some_filtered : (f : Row → Option Row) (rows : List Row) → some_rows (map f rows) ≡ filter_map f rows
some_filtered f [] = refl
some_filtered f (r ∷ rows) = by_row (f r) (some_filtered f rows)
  where
    by_row : (o : Option Row) → some_rows (map f rows) ≡ filter_map f rows → some_rows (o ∷ map f rows) ≡ cons_option o (filter_map f rows)
    by_row None e = e
    by_row (Some s) e = ap (λ l. s ∷ l) e

-- Rows that are left of those of a manifest can be those of one still

pub left_from : (f : Row → Option Row) → ((r made : Row) → f r ≡ Some made → Renews r made) → (rows : List Row) → AreLeft rows (filter_map f rows)
left_from f same [] = refl
left_from f same (r ∷ rows) = (f r, filter_map f rows, by (f r) refl, refl, left_from f same rows)
  where
    by : (o : Option Row) → f r ≡ o → IsLeft r o
    by None e = tt
    by (Some made) e = same r made e

one_option : (o : Option Row) → option_to_list o ≡ cons_option o []
one_option None = refl
one_option (Some r) = refl

pushed_behind : (o p : Option Row) (rest : List Row) → cons_option o rest ++ option_to_list p ≡ cons_option o (rest ++ option_to_list p)
pushed_behind None p rest = refl
pushed_behind (Some r) p rest = refl

-- one row more
pub left_more : (rows left : List Row) (r : Row) (o : Option Row) → AreLeft rows left → IsLeft r o → AreLeft (rows ++ r ∷ []) (left ++ option_to_list o)
left_more [] left r o h is = (o, [], is, ap (λ l. l ++ option_to_list o) h ∙ one_option o, refl)
left_more (q ∷ rows) left r o h is = (h.0, h.1 ++ option_to_list o, h.2, ap (λ l. l ++ option_to_list o) h.3 ∙ pushed_behind h.0 o h.1, left_more rows h.1 r o h.4 is)

left_paths : (P : List ℕ → Type 0) (rows left : List Row) → AreLeft rows left → AllByRecursion P (paths_of rows) → AllByRecursion P (paths_of left)
left_paths P [] left h all = subst (λ l. AllByRecursion P (paths_of l)) (sym h) tt
left_paths P (r ∷ rows) left h all = subst (λ l. AllByRecursion P (paths_of l)) (sym h.3) (by h.0 h.2 (left_paths P rows h.1 h.4 all.1))
  where
    by : (o : Option Row) → IsLeft r o → AllByRecursion P (paths_of h.1) → AllByRecursion P (paths_of (cons_option o h.1))
    by None is rest = rest
    by (Some made) is rest = (subst P (sym is.path) all.0, rest)

left_rise : (rows left : List Row) → AreLeft rows left → AreRising (paths_of rows) → AreRising (paths_of left)
unfolding IsStrictlySortedBy
left_rise [] left h rise = subst (λ l. AreRising (paths_of l)) (sym h) tt
left_rise (r ∷ rows) left h rise = subst (λ l. AreRising (paths_of l)) (sym h.3) (by h.0 h.2 (left_rise rows h.1 h.4 rise.1))
  where
    by : (o : Option Row) → IsLeft r o → AreRising (paths_of h.1) → AreRising (paths_of (cons_option o h.1))
    by None is rest = rest
    by (Some made) is rest = (left_paths (λ q. slice_cmp nat_cmp made.path q ≡ Less) rows h.1 h.4 (subst (λ p. AllByRecursion (λ q. slice_cmp nat_cmp p q ≡ Less) (paths_of rows)) (sym is.path) rise.0), rest)

left_flat : (rows left : List Row) → AreLeft rows left → AreFlat (paths_of rows) → AreFlat (paths_of left)
left_flat [] left h flat = subst (λ l. AreFlat (paths_of l)) (sym h) tt
left_flat (r ∷ rows) left h flat = subst (λ l. AreFlat (paths_of l)) (sym h.3) (by h.0 h.2 (left_flat rows h.1 h.4 flat.1))
  where
    by : (o : Option Row) → IsLeft r o → AreFlat (paths_of h.1) → AreFlat (paths_of (cons_option o h.1))
    by None is rest = rest
    by (Some made) is rest = (left_paths (λ q. extends q made.path ≡ false) rows h.1 h.4 (subst (λ p. AllByRecursion (λ q. extends q p ≡ false) (paths_of rows)) (sym is.path) flat.0), rest)

left_good : (rows left : List Row) → AreLeft rows left → AllByRecursion IsRow rows → AllByRecursion IsRow left
left_good [] left h good = subst (AllByRecursion IsRow) (sym h) tt
left_good (r ∷ rows) left h good = subst (AllByRecursion IsRow) (sym h.3) (by h.0 h.2 (left_good rows h.1 h.4 good.1))
  where
    by : (o : Option Row) → IsLeft r o → AllByRecursion IsRow h.1 → AllByRecursion IsRow (cons_option o h.1)
    by None is rest = rest
    by (Some made) is rest =
        let was : IsRow r = good.0 in
        (record { path = subst IsFreePath (sym is.path) was.path; mod_id = subst IsModId (sym is.mod_id) was.mod_id; source = subst IsFreePath (sym is.source) was.source }, rest)

-- the sources of one row and of others
others_apart : (r made : Row) → Renews r made → (rows left : List Row) → AreLeft rows left → AllByRecursion (HaveApartSources r) rows → AllByRecursion (HaveApartSources made) left
others_apart r made k [] left h all = subst (AllByRecursion (HaveApartSources made)) (sym h) tt
others_apart r made k (s ∷ rows) left h all = subst (AllByRecursion (HaveApartSources made)) (sym h.3) (by h.0 h.2 (others_apart r made k rows h.1 h.4 all.1))
  where
    by : (o : Option Row) → IsLeft s o → AllByRecursion (HaveApartSources made) h.1 → AllByRecursion (HaveApartSources made) (cons_option o h.1)
    by None is rest = rest
    by (Some other) is rest = (λ id. subst (λ t. AreApart t other.source) (sym k.source) (subst (AreApart r.source) (sym is.source) (all.0 (sym k.mod_id ∙ id ∙ is.mod_id))), rest)

left_apart : (rows left : List Row) → AreLeft rows left → HasApartSources rows → HasApartSources left
left_apart [] left h apart = subst HasApartSources (sym h) tt
left_apart (r ∷ rows) left h apart = subst HasApartSources (sym h.3) (by h.0 h.2 (left_apart rows h.1 h.4 apart.1))
  where
    by : (o : Option Row) → IsLeft r o → HasApartSources h.1 → HasApartSources (cons_option o h.1)
    by None is rest = rest
    by (Some made) is rest = (others_apart r made is rows h.1 h.4 apart.0, rest)

pub left_kept : (rows left : List Row) → AreLeft rows left → AreRows rows → AreRows left
left_kept rows left h kept = record { good = left_good rows left h kept.good; rise = left_rise rows left h kept.rise; flat = left_flat rows left h kept.flat; apart = left_apart rows left h kept.apart }

module _ (choice : Choice) (a : Disk) where
  abbrev next : Row → Option Row
  next = next_row choice a

  pub next_renews : (r made : Row) → next r ≡ Some made → Renews r made
  next_renews r made e = renews a r made (deed_of choice a r) e

  pub next_kept : (rows : List Row) → AreRows rows → AreRows (next_rows choice a rows)
  next_kept rows kept = subst AreRows (sym (some_filtered next rows)) (left_kept rows (filter_map next rows) (left_from next next_renews rows) kept)

  -- where a row comes from, and what becomes of one
  pub next_from : (rows : List Row) (made : Row) → Contains (next_rows choice a rows) made → (r : Row) × Contains rows r × (next r ≡ Some made)
  next_from rows made c = contains_filter_map next rows made (subst (λ l. Contains l made) (some_filtered next rows) c)

  pub next_made : (rows : List Row) (r made : Row) → Contains rows r → next r ≡ Some made → Contains (next_rows choice a rows) made
  next_made rows r made c e = subst (λ l. Contains l made) (sym (some_filtered next rows)) (filter_map_contains next rows r made c e)

  abbrev pub next_of : Option Row → Option Row
  next_of None = None
  next_of (Some r) = next r

  -- the row of a path
  pub next_at : (rows : List Row) → AreRows rows → (p : Names) (o : Option Row) → row_at rows p ≡ o → row_at (next_rows choice a rows) p ≡ next_of o
  next_at rows kept p o e = by_rows (row_at (next_rows choice a rows) p) o refl e
    where
      -- a row of afterwards is that of the row before
      from_before : (made : Row) → row_at (next_rows choice a rows) p ≡ Some made → (r : Row) × (row_at rows p ≡ Some r) × (next r ≡ Some made)
      from_before made is =
          let h = row-some (next_rows choice a rows) p made is in
          let f = next_from rows made h.0 in
          let path : names_of f.0.path ≡ p = ap names_of (sym (next_renews f.0 made f.2).path) ∙ h.1 in
          (f.0, ap (row_at rows) (sym path) ∙ row-here rows f.0 kept.rise f.1, f.2)

      kept_row : (r made : Row) → row_at rows p ≡ Some r → next r ≡ Some made → row_at (next_rows choice a rows) p ≡ Some made
      kept_row r made is h =
          let f = row-some rows p r is in
          let path : names_of made.path ≡ p = ap names_of (next_renews r made h).path ∙ f.1 in
          ap (row_at (next_rows choice a rows)) (sym path) ∙ row-here (next_rows choice a rows) made (next_kept rows kept).rise (next_made rows r made f.0 h)

      by_next : (r : Row) (q : Option Row) → row_at rows p ≡ Some r → next r ≡ q → (u : Option Row) → row_at (next_rows choice a rows) p ≡ u → u ≡ q
      by_next r (Some made) is h u there = sym there ∙ kept_row r made is h
      by_next r None is h None there = refl
      by_next r None is h (Some made) there =
          let f = from_before made there in
          let same : Some f.0 ≡ Some r = sym f.1 ∙ is in
          let row : f.0 ≡ r = cc in
          let no : None ≡ Some made = sym h ∙ ap next (sym row) ∙ f.2 in absurd (cc)

      by_rows : (u v : Option Row) → row_at (next_rows choice a rows) p ≡ u → row_at rows p ≡ v → row_at (next_rows choice a rows) p ≡ next_of v
      by_rows u (Some r) there is = there ∙ by_next r (next r) is refl u there
      by_rows None None there is = there
      by_rows (Some made) None there is = let f = from_before made there in let no : None ≡ Some f.0 = sym is ∙ f.1 in absurd (cc)
