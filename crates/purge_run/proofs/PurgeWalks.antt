-- One pass over the rows says what the columns of a purge say.
use Rattle.plan_model.proofs.InOrder.{at_place-some, rise_by, made_in_order, game_ordered, aside_ordered}
use Rattle.move_plan.specs.declared.plan.SetRow.{SetRow}
use Rattle.move_plan.specs.Entries.{Listed, listed, set, save}
use Rattle.move_plan.specs.Rules.{InOrder}
use Rattle.std.specs.List.{AllByRecursion}
use Rattle.tree_fs.specs.declared.place.Place.{Place}
use Rattle.std.proofs.Common.{◌<◌}
use Rattle.purge_run.specs.Holds.{held_row, aside_at, Hold, unheld, over, hold_row, hold_by, hold_of, purge_set, SetsAside, FreesOriginal, purge_moves}
use Rattle.std.proofs.Common.{List, ◌≡◌, ◌↔◌, ℕ, Bool, true, false, if◌then◌else◌, map, refl, sym, ap, ◌∙◌, subst}
use Rattle.tree_fs.specs.Spot.{spot_of, Spot}
use Rattle.move_plan.specs.declared.plan.Plan.{Plan}
use Rattle.move_plan.specs.Rules.{KeepsRule, in_order}
use Rattle.plan_model.specs.Moves.{LaidOut, Move}
use Rattle.plan_model.specs.Lists.{spotted, ends_of, at_place}
use Rattle.list_laws.proofs.Containing.{map_contains, contains_map, contains_filter_map, filter_map_contains}
use Rattle.std.specs.List.{Contains}
use Rattle.std.specs.declared.option.Option.{Option}
use Rattle.std.specs.declared.option.Option.TheVariants.{None, Some}
use Rattle.rel_paths.specs.Names.{names_of}
use Rattle.tree_fs.specs.Places.{game_spot}
use Rattle.tree_fs.specs.Disk.{Disk, is_one_file}
use Rattle.manifest_json.specs.declared.manifest.Row.{Row}
use Rattle.backup_keep.specs.Places.{backup_spot}
use Rattle.desk_model.specs.Places.{Names, in_game}
use Rattle.desk_model.specs.Records.{row_at}
use Rattle.change_detect.specs.Classes.{staged_of}
use Rattle.desk_model.specs.Desk.{is_file}
use Rattle.plan_model.specs.Rows.{has_original}
use Rattle.purge_run.specs.Walk.{row_set, save_held, row_save, row_clear, purge_sets, purge_saves, purge_clears}
use Rattle.plan_model.proofs.Firsts.{Rises, row-some, row-here}
use Rattle.purge_run.proofs.Sets.{HoldCase, hold_case, set_tells}

module _ (a : Disk) (rows : List Row) (n : ℕ) (old : Rises (map (λ r. r.path) rows)) where
  -- the hold of a listed row
  held : (r : Row) → Contains rows r → hold_of a rows (names_of r.path) ≡ hold_by a (Some r)
  unfolding hold_of
  held r c = ap (hold_by a) (row-here rows r old c)

  held_at : (p : Names) (o : Option Row) → row_at rows p ≡ o → hold_of a rows p ≡ hold_by a o
  unfolding hold_of
  held_at p o e = ap (hold_by a) e

  pub purge_sets-are : (x : Spot) (v : Move) → (Contains (purge_sets a n rows) (x, v) ↔ (purge_moves a rows n).sets x ≡ Some v)
  purge_sets-are x v = (to, from)
    where
      to : Contains (purge_sets a n rows) (x, v) → (purge_moves a rows n).sets x ≡ Some v
      to c =
          let h = contains_filter_map (row_set a n) rows (x, v) c in
          let placed = at_place-some (game_spot h.0.path) x (purge_set a n (hold_by a (Some h.0))) v h.2 in
          subst (λ y. (purge_moves a rows n).sets y ≡ Some v) placed.0 (ap (purge_set a n) (held h.0 h.1) ∙ placed.1)

      by_row : (h : Hold) (o : Option Row) → row_at rows x.names ≡ o → hold_of a rows x.names ≡ h → in_game x.names ≡ x → purge_set a n h ≡ Some v → Contains (purge_sets a n rows) (x, v)
      by_row h None is at here e = let t : None ≡ Some v = ap (purge_set a n) (sym (held_at x.names None is) ∙ at) ∙ e in absurd (cc)
      by_row h (Some r) is at here e =
          let f = row-some rows x.names r is in
          let same : hold_by a (Some r) ≡ h = sym (held_at x.names (Some r) is) ∙ at in
          filter_map_contains (row_set a n) rows r (x, v) f.0
          (ap (λ k. at_place (game_spot r.path) (purge_set a n k)) same ∙ ap (at_place (game_spot r.path)) e ∙ ap (λ y. Some (y, v)) (ap in_game f.1 ∙ here))

      by_set : HoldCase a rows n x v → Contains (purge_sets a n rows) (x, v)
      by_set (hold_case h at here e) = by_row h (row_at rows x.names) refl at here e

      from : (purge_moves a rows n).sets x ≡ Some v → Contains (purge_sets a n rows) (x, v)
      from e = by_set (set_tells a rows n x v e)

  -- a row's hold speaks of that row
  over_row : (r s : Row) (one taken : Bool) → hold_row r one taken ≡ over s → (r ≡ s) × (hold_row r one taken ≡ over r)
  over_row r s true taken e = absurd (cc)
  over_row r s false true e = (cc, refl)
  over_row r s false false e = absurd (cc)

  saved : (r : Row) (from to : Spot) (one taken : Bool) → save_held n (hold_row r one taken) ≡ Some (from, to) → (hold_row r one taken ≡ over r) × (game_spot r.path ≡ from) × (aside_at n r.path ≡ to)
  saved r from to true taken e = absurd (cc)
  saved r from to false true e = let t : ◌≡◌ {A = Spot × Spot} (game_spot r.path, aside_at n r.path) (from, to) = cc in (refl, ap (λ z. z.0) t, ap (λ z. z.1) t)
  saved r from to false false e = absurd (cc)

  pub purge_saves-are : (from to : Spot) → (Contains (purge_saves a n rows) (from, to) ↔ SetsAside a rows n from to)
  purge_saves-are from to = (forth, back)
    where
      forth : Contains (purge_saves a n rows) (from, to) → SetsAside a rows n from to
      forth c =
          let h = contains_filter_map (row_save a n) rows (from, to) c in
          let s = saved h.0 from to (is_one_file (a.now (game_spot h.0.path)) (a.now (staged_of h.0))) (is_file (a.now (game_spot h.0.path))) h.2 in
          record { row = h.0; case = held h.0 h.1 ∙ s.0; source = s.1; here = s.2 }

      by_row : (h : SetsAside a rows n from to) (o : Option Row) → row_at rows (names_of h.row.path) ≡ o → Contains (purge_saves a n rows) (from, to)
      by_row h None is = let t : unheld ≡ over h.row = sym (held_at (names_of h.row.path) None is) ∙ h.case in absurd (cc)
      by_row h (Some r) is =
          let t : hold_by a (Some r) ≡ over h.row = sym (held_at (names_of h.row.path) (Some r) is) ∙ h.case in
          let f = row-some rows (names_of h.row.path) r is in
          filter_map_contains (row_save a n) rows r (from, to) f.0 (ap (save_held n) t ∙ (λ i. Some (h.source i, h.here i)))

      back : SetsAside a rows n from to → Contains (purge_saves a n rows) (from, to)
      back h = by_row h (row_at rows (names_of h.row.path)) refl

  pub purge_clears-are : (x : Spot) → (Contains (purge_clears a rows) x ↔ FreesOriginal a rows x)
  purge_clears-are x = (forth, back)
    where
      by_test : (r : Row) (b : Bool) → Contains rows r → has_original a r ≡ b → (if b then Some (backup_spot r.path) else None) ≡ Some x → FreesOriginal a rows x
      by_test r true c o e = record { row = r; at = row-here rows r old c; original = o; here = cc }
      by_test r false c o e = absurd (cc)

      forth : Contains (purge_clears a rows) x → FreesOriginal a rows x
      forth c = let h = contains_filter_map (row_clear a) rows x c in by_test h.0 (has_original a h.0) h.1 refl h.2

      back : FreesOriginal a rows x → Contains (purge_clears a rows) x
      back h =
          filter_map_contains (row_clear a) rows h.row x (row-some rows (names_of h.row.path) h.row h.at).0
          (ap (λ b. if b then Some (backup_spot h.row.path) else None) h.original ∙ ap Some h.here)

module _ (a : Disk) (rows : List Row) (n : ℕ) (plan : Plan) (old : Rises (map (λ (r : Row). r.path) rows)) where
  pub laid_by_pass : map spotted plan.sets ≡ purge_sets a n rows → map ends_of plan.saves ≡ purge_saves a n rows
      → ((x : Spot) → (Contains (map spot_of plan.clears) x ↔ Contains (purge_clears a rows) x))
      → KeepsRule in_order plan → LaidOut (purge_moves a rows n) plan
  laid_by_pass sets saves clears order = record {
    sets = λ x v. (
      λ h. (purge_sets-are a rows n old x v).0 (subst (λ l. Contains l (x, v)) sets (subst (Contains (map spotted plan.sets)) (λ i. (h.here i, h.is i)) (map_contains spotted plan.sets h.row h.listed))),
      λ e. let m = contains_map spotted plan.sets (x, v) (subst (λ l. Contains l (x, v)) (sym sets) ((purge_sets-are a rows n old x v).1 e)) in
          record { row = m.0; listed = m.1; here = ap (λ z. z.0) m.2; is = ap (λ z. z.1) m.2 },
    );
    saves = λ from to. (
      λ h. (purge_saves-are a rows n old from to).0 (subst (λ l. Contains l (from, to)) saves (subst (Contains (map ends_of plan.saves)) (λ i. (h.source i, h.here i)) (map_contains ends_of plan.saves h.save h.listed))),
      λ h. let m = contains_map ends_of plan.saves (from, to) (subst (λ l. Contains l (from, to)) (sym saves) ((purge_saves-are a rows n old from to).1 h)) in
          record { save = m.0; listed = m.1; source = ap (λ z. z.0) m.2; here = ap (λ z. z.1) m.2 },
    );
    clears = λ x. (
      λ h. (purge_clears-are a rows n old x).0 ((clears x).0 (subst (Contains (map spot_of plan.clears)) h.here (map_contains spot_of plan.clears h.place h.listed))),
      λ h. let m = contains_map spot_of plan.clears x ((clears x).1 ((purge_clears-are a rows n old x).1 h)) in
          record { place = m.0; listed = m.1; here = m.2 },
    );
    order = order;
  }

-- The order of sets and saves

set_placed : (a : Disk) (n : ℕ) (r : Row) (v : Spot × Move) (row : SetRow) → row_set a n r ≡ Some v → spotted row ≡ v → spot_of row.to ≡ game_spot r.path
set_placed a n r v row is same = ap (λ z. z.0) same ∙ sym (at_place-some (game_spot r.path) v.0 (purge_set a n (held_row a r)) v.1 is).0

save_placed : (a : Disk) (n : ℕ) (r : Row) (v : Spot × Spot) (s : Place × Place) → row_save a n r ≡ Some v → ends_of s ≡ v → spot_of s.1 ≡ aside_at n r.path
save_placed a n r v s is same =
    ap (λ z. z.1) same ∙ by (is_one_file (a.now (game_spot r.path)) (a.now (staged_of r))) (is_file (a.now (game_spot r.path))) is
  where
    by : (one taken : Bool) → save_held n (hold_row r one taken) ≡ Some v → v.1 ≡ aside_at n r.path
    by true taken e = absurd (cc)
    by false true e = let t : ◌≡◌ {A = Spot × Spot} (game_spot r.path, aside_at n r.path) v = cc in sym (ap (λ z. z.1) t)
    by false false e = absurd (cc)

module _ (a : Disk) (rows : List Row) (n : ℕ) (plan : Plan) (old : Rises (map (λ (r : Row). r.path) rows)) where
  pub sets_ordered : map spotted plan.sets ≡ purge_sets a n rows → AllByRecursion (λ (e : Listed). InOrder e.entry e.front) (listed set 0 None plan.sets)
  sets_ordered e = made_in_order (λ (r : Row). r.path) set spotted (row_set a n) game_spot (set_placed a n) game_ordered (λ row front h. h) rows plan.sets (rise_by (λ (r : Row). r.path) rows old) e

  pub saves_ordered : n < 4294967296 → map ends_of plan.saves ≡ purge_saves a n rows → AllByRecursion (λ (e : Listed). InOrder e.entry e.front) (listed save 0 None plan.saves)
  saves_ordered small e = made_in_order (λ (r : Row). r.path) save ends_of (row_save a n) (aside_at n) (save_placed a n) (aside_ordered n small) (λ s front h. h) rows plan.saves (rise_by (λ (r : Row). r.path) rows old) e
