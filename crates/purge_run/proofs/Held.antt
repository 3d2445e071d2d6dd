-- What is known of a path by what a purge finds there, and of the next aside number.
use Rattle.plan_model.proofs.Rows.{row_free}
use Rattle.manifest_json.specs.declared.manifest.Manifest.{Manifest}
use Rattle.purge_run.proofs.Premises.{row_place, AsideReady}
use Rattle.std.proofs.Common.{◌≡◌, ◌≢◌, ◌⊎◌, ℕ, ◌+◌, ◌<◌, ◌≤◌, Bool, true, false, ◌&&◌, not, List, [], ◌∷◌, refl, sym, ap, ◌∙◌, inl, inr, subst, arith}
use Rattle.std.specs.Fmt.{decimal}
use Rattle.std.specs.declared.option.Option.{Option}
use Rattle.std.specs.declared.option.Option.TheVariants.{None, Some}
use Rattle.rel_paths.specs.Names.{names_of, backup_names, IsFreePath}
use Rattle.tree_fs.specs.declared.name.Kind.{Kind}
use Rattle.tree_fs.specs.declared.name.Kind.TheVariants.{Absent, File, Folder, Other}
use Rattle.tree_fs.specs.declared.place.Root.TheVariants.{Game, Keep}
use Rattle.tree_fs.specs.Spot.{Spot}
use Rattle.tree_fs.specs.Places.{game_spot}
use Rattle.tree_fs.specs.Disk.{Disk, none, kind_of, is_one_file}
use Rattle.manifest_json.specs.declared.manifest.Row.{Row}
use Rattle.backup_keep.specs.Places.{backup_spot}
use Rattle.desk_model.specs.Places.{Names, in_game, in_aside}
use Rattle.desk_model.specs.Records.{row_at}
use Rattle.change_detect.specs.Classes.{staged_of}
use Rattle.backup_keep.specs.Asides.{HasAside, IsNextAside}
use Rattle.desk_model.specs.Desk.{is_file}
use Rattle.desk_model.specs.Purged.{stands_over}
use Rattle.plan_model.specs.Rows.{has_original}
use Rattle.purge_run.specs.Holds.{Hold, unheld, linked, over, bare, hold_row, hold_by, hold_of, purge_set, SetsAside, FreesOriginal, purge_moves}
use Rattle.purge_run.specs.Plans.{CanPurge}
use Rattle.plan_model.proofs.Values.{HasFile, file_true, is_none, file_or_absent-not_odd, one_file-tells}
use Rattle.plan_model.proofs.Firsts.{row-some}
use Rattle.plan_model.proofs.Paths.{good-not_backup}
use Rattle.backup_keep.proofs.Kept.{backup_spot-same}

abbrev pub Found : Disk → List Row → Names → Hold → Type 0
Found a rows p unheld = row_at rows p ≡ None
Found a rows p (linked r) = (row_at rows p ≡ Some r) × HasFile (a.now (game_spot r.path)) × (a.now (game_spot r.path) ≡ a.now (staged_of r))
Found a rows p (over r) = (row_at rows p ≡ Some r) × HasFile (a.now (game_spot r.path)) × (stands_over a r ≡ true)
Found a rows p (bare r) = (row_at rows p ≡ Some r) × (a.now (game_spot r.path) ≡ none)

module _ (a : Disk) (old : Manifest) (n : ℕ) (can : CanPurge a old n) where
  over_is : (taken one : Bool) → taken ≡ true → one ≡ false → (taken && not one) ≡ true
  over_is taken one e f = rw (e, f)

  pub told : (p : Names) → Found a old.rows p (hold_of a old.rows p)
  unfolding hold_of
  told p = by_row (row_at old.rows p) refl
    where
      by_tests : (r : Row) (one taken : Bool) → row_at old.rows p ≡ Some r → is_one_file (a.now (game_spot r.path)) (a.now (staged_of r)) ≡ one → is_file (a.now (game_spot r.path)) ≡ taken → Found a old.rows p (hold_row r one taken)
      by_tests r true taken is e f = let t = one_file-tells (a.now (game_spot r.path)) (a.now (staged_of r)) e in (is, t.0, t.1)
      by_tests r false true is e f = (is, file_true (a.now (game_spot r.path)) f, over_is (is_file (a.now (game_spot r.path))) (is_one_file (a.now (game_spot r.path)) (a.now (staged_of r))) f e)
      by_tests r false false is e f = (is, is_none (a.now (game_spot r.path)) f (file_or_absent-not_odd a (game_spot r.path) (row_place a old.rows can.passes.unblocked r (row-some old.rows p r is).0)))

      by_row : (o : Option Row) → row_at old.rows p ≡ o → Found a old.rows p (hold_by a o)
      by_row None is = is
      by_row (Some r) is = by_tests r (is_one_file (a.now (game_spot r.path)) (a.now (staged_of r))) (is_file (a.now (game_spot r.path))) is refl refl

  pub told_at : (p : Names) (h : Hold) → hold_of a old.rows p ≡ h → Found a old.rows p h
  told_at p h e = subst (Found a old.rows p) e (told p)

  pub hold_none : (p : Names) → row_at old.rows p ≡ None → hold_of a old.rows p ≡ unheld
  unfolding hold_of
  hold_none p e = ap (hold_by a) e

  -- a row that stands over its link
  pub hold_over : (r : Row) → row_at old.rows (names_of r.path) ≡ Some r → stands_over a r ≡ true → hold_of a old.rows (names_of r.path) ≡ over r
  unfolding hold_of
  hold_over r e s = ap (hold_by a) e ∙ by_tests (is_one_file (a.now (game_spot r.path)) (a.now (staged_of r))) (is_file (a.now (game_spot r.path))) s
    where
      by_tests : (one taken : Bool) → (taken && not one) ≡ true → hold_row r one taken ≡ over r
      by_tests true true e = absurd (cc)
      by_tests true false e = absurd (cc)
      by_tests false true e = refl
      by_tests false false e = absurd (cc)

  pub row_good : (p : Names) (r : Row) → row_at old.rows p ≡ Some r → IsFreePath r.path × (names_of r.path ≡ p)
  row_good p r e = let f = row-some old.rows p r e in (row_free old.rows can.rows r f.0, f.1)

  -- a backup's path has no row
  pub behind_row : (t : List ℕ) (o : Option Row) → row_at old.rows (backup_names (names_of t)) ≡ o → o ≡ None
  behind_row t None e = refl
  behind_row t (Some r) e = let f = row_good (backup_names (names_of t)) r e in absurd (good-not_backup r.path t f.0 (sym f.1))

  pub behind_unset : (t : List ℕ) → (purge_moves a old.rows n).sets (backup_spot t) ≡ None
  behind_unset t = ap (purge_set a n) (hold_none (backup_names (names_of t)) (behind_row t (row_at old.rows (backup_names (names_of t))) refl))

  pub path_kept : (t : List ℕ) → IsFreePath t → ¬ FreesOriginal a old.rows (game_spot t)
  path_kept t good h = good-not_backup t h.row.path good (ap (λ (s : Spot). s.names) h.here)

  pub game_unsaved : (p : Names) (y : Spot) → ¬ SetsAside a old.rows n y (in_game p)
  game_unsaved p y h = let t : Keep ≡ Game = ap (λ (s : Spot). s.root) h.here in cc

  pub frees_row : (t : List ℕ) → FreesOriginal a old.rows (backup_spot t) → (r : Row) × (row_at old.rows (names_of t) ≡ Some r) × (has_original a r ≡ true)
  frees_row t h = (h.row, ap (λ q. row_at old.rows (names_of q)) (sym (backup_spot-same h.row.path t h.here)) ∙ h.at, h.original)

-- The next aside number

pub next_once : (a : Disk) (m n : ℕ) → IsNextAside a m → IsNextAside a n → m ≡ n
next_once a m n f g = by_both f.least g.least
  where
    at_least : (k : ℕ) → HasAside a k → 1 ≤ k
    at_least k h = h.0.0

    by_both : (m ≡ 1) ⊎ ((k : ℕ) × HasAside a k × (m ≡ k + 1)) → (n ≡ 1) ⊎ ((k : ℕ) × HasAside a k × (n ≡ k + 1)) → m ≡ n
    by_both (inl d) (inl e) = d ∙ sym e
    by_both (inl d) (inr e) = let lt : e.0 < m = f.above e.0 e.1 in let le = at_least e.0 e.1 in let is = e.2 in absurd (omega arith)
    by_both (inr d) (inl e) = let lt : d.0 < n = g.above d.0 d.1 in let le = at_least d.0 d.1 in let is = d.2 in absurd (omega arith)
    by_both (inr d) (inr e) = let lt : e.0 < m = f.above e.0 e.1 in let gt : d.0 < n = g.above d.0 d.1 in let is = d.2 in let as' = e.2 in omega arith

absent_or : (k : Kind) → (k ≡ Absent) ⊎ (k ≢ Absent)
absent_or Absent = inl refl
absent_or File = inr (λ e. cc)
absent_or Folder = inr (λ e. cc)
absent_or Other = inr (λ e. cc)

-- nothing is there under it
pub next_absent : (a : Disk) (n : ℕ) → AsideReady a n → kind_of a (in_aside (decimal n ∷ [])) ≡ Absent
next_absent a n ready = elim (absent_or (kind_of a (in_aside (decimal n ∷ [])))) [
  | inl e ↦ e
  | inr ne ↦ absurd (by_least ne ready.next.least)
]
  where
    last_not : (k : ℕ) → HasAside a k → k ≢ 4294967295
    last_not k h e = ready.room (subst (HasAside a) e h)

    too_many : 1 ≤ n → n ≤ 4294967295 → kind_of a (in_aside (decimal n ∷ [])) ≢ Absent → ⊥
    too_many lo hi ne = let lt : n < n = ready.next.above n ((lo, hi), ne) in omega arith

    by_least : kind_of a (in_aside (decimal n ∷ [])) ≢ Absent → (n ≡ 1) ⊎ ((k : ℕ) × HasAside a k × (n ≡ k + 1)) → ⊥
    by_least ne (inl e) = too_many (omega arith) (omega arith) ne
    by_least ne (inr h) =
        let is : n ≡ h.0 + 1 = h.2 in
        let hi : h.0 ≤ 4294967295 = h.1.0.1 in
        let last : h.0 ≢ 4294967295 = last_not h.0 h.1 in
        too_many (omega arith) (omega arith) ne
