-- What is known of a path by its case.
use Rattle.plan_model.proofs.Rows.{row_free}
use Rattle.deploy_plan.proofs.Premises.{win_free, win_staged, clean_one_file}
use Rattle.desk_model.specs.Deployed.{still_wins, Win, winner_of, made_row, row_by, won_spot}
use Rattle.manifest_json.specs.declared.manifest.Manifest.{Manifest}
use Rattle.std.proofs.Common.{◌≡◌, Bool, true, false, if◌then◌else◌, List, map, refl, sym, ap, ◌∙◌, subst}
use Rattle.std.specs.Option.{option_map}
use Rattle.std.specs.List.{Contains}
use Rattle.std.specs.declared.option.Option.{Option}
use Rattle.std.specs.declared.option.Option.TheVariants.{None, Some}
use Rattle.rel_paths.specs.Names.{names_of, backup_names, IsFreePath}
use Rattle.rel_paths.proofs.NamesOf.{same_text}
use Rattle.tree_fs.specs.Spot.{Spot}
use Rattle.tree_fs.specs.Places.{game_spot}
use Rattle.tree_fs.specs.Disk.{Disk}
use Rattle.manifest_json.specs.declared.manifest.Row.{Row}
use Rattle.backup_keep.specs.Places.{backup_spot}
use Rattle.desk_model.specs.Places.{Names, in_game}
use Rattle.desk_model.specs.Records.{row_at}
use Rattle.change_detect.specs.Classes.{staged_of}
use Rattle.desk_model.specs.Desk.{is_file}
use Rattle.deploy_plan.specs.Cases.{next_row, Case, untouched, leaves, stays, turns, comes, covers, case_by, case_of, set_by, Covers, Frees, deploy_moves}
use Rattle.plan_model.specs.Rows.{has_original}
use Rattle.deploy_plan.specs.Plans.{CanDeploy}
use Rattle.plan_model.proofs.Values.{HasFile, has_file, one_file-tells}
use Rattle.plan_model.proofs.Firsts.{row-some, win-some, rows-map}
use Rattle.plan_model.proofs.Paths.{good-not_backup}
use Rattle.backup_keep.proofs.Kept.{backup_spot-same}

abbrev pub Told : Disk → List Row → List Win → Names → Case → Type 0
Told a rows wins p untouched = (row_at rows p ≡ None) × (winner_of wins p ≡ None)
Told a rows wins p (leaves r) = (row_at rows p ≡ Some r) × (winner_of wins p ≡ None)
Told a rows wins p (stays r) = (row_at rows p ≡ Some r) × ((w : Win) × (winner_of wins p ≡ Some w) × (still_wins r w ≡ true))
Told a rows wins p (turns r w) = (row_at rows p ≡ Some r) × (winner_of wins p ≡ Some w) × (still_wins r w ≡ false)
Told a rows wins p (comes w) = (row_at rows p ≡ None) × (winner_of wins p ≡ Some w) × (is_file (a.now (in_game p)) ≡ false)
Told a rows wins p (covers w) = (row_at rows p ≡ None) × (winner_of wins p ≡ Some w) × (is_file (a.now (in_game p)) ≡ true)

module _ (a : Disk) (rows : List Row) (wins : List Win) where
  pub told : (p : Names) → Told a rows wins p (case_of a rows wins p)
  unfolding case_of
  told p = by_both (row_at rows p) (winner_of wins p) refl refl
    where
      by_mod : (r : Row) (w : Win) (b : Bool) → row_at rows p ≡ Some r → winner_of wins p ≡ Some w → still_wins r w ≡ b → Told a rows wins p (if b then stays r else turns r w)
      by_mod r w true is won e = (is, (w, won, e))
      by_mod r w false is won e = (is, won, e)

      by_file : (w : Win) (b : Bool) → row_at rows p ≡ None → winner_of wins p ≡ Some w → is_file (a.now (in_game p)) ≡ b → Told a rows wins p (case_by None (Some w) b)
      by_file w true is won e = (is, won, e)
      by_file w false is won e = (is, won, e)

      by_both : (o : Option Row) (v : Option Win) → row_at rows p ≡ o → winner_of wins p ≡ v → Told a rows wins p (case_by o v (is_file (a.now (in_game p))))
      by_both None None is won = (is, won)
      by_both (Some r) None is won = (is, won)
      by_both (Some r) (Some w) is won = by_mod r w (still_wins r w) is won refl
      by_both None (Some w) is won = by_file w (is_file (a.now (in_game p))) is won refl

  pub told_at : (p : Names) (c : Case) → case_of a rows wins p ≡ c → Told a rows wins p c
  told_at p c e = subst (Told a rows wins p) e (told p)

  pub case_is : (p : Names) (o : Option Row) (v : Option Win) (b : Bool) → row_at rows p ≡ o → winner_of wins p ≡ v → is_file (a.now (in_game p)) ≡ b → case_of a rows wins p ≡ case_by o v b
  unfolding case_of
  case_is p o v b is won e i = case_by (is i) (won i) (e i)

  -- the rows of a case
  abbrev pub old_by : Case → Option Row
  old_by untouched = None
  old_by (leaves r) = Some r
  old_by (stays r) = Some r
  old_by (turns r w) = Some r
  old_by (comes w) = None
  old_by (covers w) = None

  abbrev pub next_by : Case → Option Row
  next_by untouched = None
  next_by (leaves r) = None
  next_by (stays r) = Some r
  next_by (turns r w) = Some (made_row a w r.shadowed)
  next_by (comes w) = Some (made_row a w false)
  next_by (covers w) = Some (made_row a w true)

  pub old_is : (p : Names) (c : Case) → Told a rows wins p c → row_at rows p ≡ old_by c
  old_is p untouched h = h.0
  old_is p (leaves r) h = h.0
  old_is p (stays r) h = h.0
  old_is p (turns r w) h = h.0
  old_is p (comes w) h = h.0
  old_is p (covers w) h = h.0

  pub won_path : (w : Win) → (next_row a rows w).path ≡ w.path
  won_path w = by_row (row_at rows (names_of w.path)) refl
    where
      by_mod : (r : Row) (b : Bool) → names_of r.path ≡ names_of w.path → (if b then r else made_row a w r.shadowed).path ≡ w.path
      by_mod r true e = same_text r.path w.path e
      by_mod r false e = refl

      by_row : (o : Option Row) → row_at rows (names_of w.path) ≡ o → (row_by a w o).path ≡ w.path
      by_row None e = refl
      by_row (Some r) e = by_mod r (still_wins r w) (row-some rows (names_of w.path) r e).1

  abbrev pub new_rows : List Row
  new_rows = map (next_row a rows) wins

  -- the row after, by the case
  pub next_is : (p : Names) (c : Case) → Told a rows wins p c → row_at new_rows p ≡ next_by c
  next_is p c h = rows-map (next_row a rows) wins p won_path ∙ by_case c h
    where
      gone : winner_of wins p ≡ None → option_map (next_row a rows) (winner_of wins p) ≡ None
      gone won = ap (option_map (next_row a rows)) won

      row_of : (w : Win) (o : Option Row) → winner_of wins p ≡ Some w → row_at rows p ≡ o → option_map (next_row a rows) (winner_of wins p) ≡ Some (row_by a w o)
      row_of w o won is =
          ap (option_map (next_row a rows)) won
          ∙ ap (λ q. Some (row_by a w (row_at rows q))) (win-some wins p w won).1
          ∙ ap (λ x. Some (row_by a w x)) is

      by_case : (c : Case) → Told a rows wins p c → option_map (next_row a rows) (winner_of wins p) ≡ next_by c
      by_case untouched h = gone h.1
      by_case (leaves r) h = gone h.1
      by_case (stays r) h = row_of h.1.0 (Some r) h.1.1 h.0 ∙ ap (λ b. Some (if b then r else made_row a h.1.0 r.shadowed)) h.1.2
      by_case (turns r w) h = row_of w (Some r) h.1 h.0 ∙ ap (λ b. Some (if b then r else made_row a w r.shadowed)) h.2
      by_case (comes w) h =
          row_of w None h.1 h.0 ∙ ap (λ q. Some (made_row a w (is_file (a.now (in_game q))))) (win-some wins p w h.1).1 ∙ ap (λ b. Some (made_row a w b)) h.2
      by_case (covers w) h =
          row_of w None h.1 h.0 ∙ ap (λ q. Some (made_row a w (is_file (a.now (in_game q))))) (win-some wins p w h.1).1 ∙ ap (λ b. Some (made_row a w b)) h.2

module _ (a : Disk) (old : Manifest) (wins : List Win) (can : CanDeploy a old wins) where
  -- of a path with an old row
  pub record RowFacts (p : Names) (r : Row) : Type 0 where
    pub listed : Contains old.rows r
    pub here : names_of r.path ≡ p
    pub good : IsFreePath r.path
    pub deployed : HasFile (a.now (in_game p))
    pub one_file : a.now (in_game p) ≡ a.now (staged_of r)

  pub row_facts : (p : Names) (r : Row) → row_at old.rows p ≡ Some r → RowFacts p r
  row_facts p r is =
      let f = row-some old.rows p r is in
      let one = one_file-tells (a.now (game_spot r.path)) (a.now (staged_of r)) (clean_one_file a old.rows can.passes.changes r f.0) in
      record {
        listed = f.0;
        here = f.1;
        good = row_free old.rows can.rows r f.0;
        deployed = subst (λ q. HasFile (a.now (in_game q))) f.1 one.0;
        one_file = ap (λ q. a.now (in_game q)) (sym f.1) ∙ one.1;
      }

  -- of a winning path
  pub record WinFacts (p : Names) (w : Win) : Type 0 where
    pub listed : Contains wins w
    pub here : names_of w.path ≡ p
    pub good : IsFreePath w.path
    pub staged : HasFile (a.now (won_spot w))

  pub win_facts : (p : Names) (w : Win) → winner_of wins p ≡ Some w → WinFacts p w
  win_facts p w won =
      let f = win-some wins p w won in
      record { listed = f.0; here = f.1; good = win_free a wins can.won w f.0; staged = has_file a (won_spot w) (win_staged a wins can.won w f.0) }

  -- a backup's path has neither row nor winner
  no_row : (t : List _) (o : Option Row) → row_at old.rows (backup_names (names_of t)) ≡ o → o ≡ None
  no_row t None e = refl
  no_row t (Some r) e = let f = row_facts (backup_names (names_of t)) r e in absurd (good-not_backup r.path t f.good (sym f.here))

  no_win : (t : List _) (o : Option Win) → winner_of wins (backup_names (names_of t)) ≡ o → o ≡ None
  no_win t None e = refl
  no_win t (Some w) e = let f = win_facts (backup_names (names_of t)) w e in absurd (good-not_backup w.path t f.good (sym f.here))

  pub behind_case : (t : List _) → case_of a old.rows wins (backup_names (names_of t)) ≡ untouched
  behind_case t =
      case_is a old.rows wins (backup_names (names_of t)) None None (is_file (a.now (backup_spot t)))
      (no_row t (row_at old.rows (backup_names (names_of t))) refl) (no_win t (winner_of wins (backup_names (names_of t))) refl) refl

  pub behind_unset : (t : List _) → (deploy_moves a old.rows wins).sets (backup_spot t) ≡ None
  behind_unset t = ap (set_by a) (behind_case t)

  -- what is cleared and saved behind a path
  pub frees_case : (t : List _) → Frees a old.rows wins (backup_spot t) → (r : Row) × (case_of a old.rows wins (names_of t) ≡ leaves r) × (has_original a r ≡ true)
  frees_case t h = (h.row, ap (λ q. case_of a old.rows wins (names_of q)) (sym (backup_spot-same h.row.path t h.here)) ∙ h.case, h.original)

  pub covers_case : (t : List _) (y : Spot) → Covers a old.rows wins y (backup_spot t) → (w : Win) × (case_of a old.rows wins (names_of t) ≡ covers w) × (game_spot t ≡ y)
  covers_case t y h =
      let e = backup_spot-same h.win.path t h.here in
      (h.win, ap (λ q. case_of a old.rows wins (names_of q)) (sym e) ∙ h.case, ap game_spot (sym e) ∙ h.source)

  pub path_kept : (t : List _) → IsFreePath t → ¬ Frees a old.rows wins (game_spot t)
  path_kept t good h = good-not_backup t h.row.path good (ap (λ (s : Spot). s.names) h.here)

  pub path_unsaved : (t : List _) (y : Spot) → IsFreePath t → ¬ Covers a old.rows wins y (game_spot t)
  path_unsaved t y good h = good-not_backup t h.win.path good (ap (λ (s : Spot). s.names) h.here)
