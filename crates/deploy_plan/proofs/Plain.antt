-- A deployment keeps the plain game folder.
use Rattle.plan_model.proofs.Rows.{row_free}
use Rattle.deploy_plan.proofs.Premises.{win_free}
use Rattle.deploy_plan.specs.Cases.{next_row, untouched, leaves, covers, set_by, Covers, Frees, deploy_moves}
use Rattle.desk_model.specs.Deployed.{still_wins, Win, winner_of, made_row, row_by}
use Rattle.manifest_json.specs.declared.manifest.Manifest.{Manifest}
use Rattle.std.proofs.Common.{◌≡◌, Bool, true, false, ◌&&◌, if◌then◌else◌, List, refl, sym, ap, ◌∙◌, subst}
use Rattle.std.specs.List.{Contains}
use Rattle.std.specs.declared.option.Option.{Option}
use Rattle.std.specs.declared.option.Option.TheVariants.{None, Some}
use Rattle.rel_paths.specs.Names.{names_of, backup_names}
use Rattle.rel_paths.proofs.Truths.{both}
use Rattle.tree_fs.specs.Spot.{Spot}
use Rattle.tree_fs.specs.Places.{game_spot}
use Rattle.tree_fs.specs.Disk.{Disk, Value, none}
use Rattle.list_laws.proofs.Containing.{contains_map, map_contains}
use Rattle.manifest_json.specs.declared.manifest.Row.{Row}
use Rattle.move_plan.specs.declared.plan.Plan.{Plan}
use Rattle.backup_keep.specs.Places.{backup_spot}
use Rattle.desk_model.specs.Places.{Names, in_game}
use Rattle.desk_model.specs.Desk.{without_manifest, plain, plain_by, is_file}
use Rattle.desk_model.specs.Records.{row_at, row_behind}
use Rattle.desk_model.specs.Outcome.{updated}
use Rattle.desk_model.proofs.Agreeing.{without-agree}
use Rattle.plan_model.specs.Moves.{LaidOut}
use Rattle.plan_model.specs.Rows.{has_original}
use Rattle.deploy_plan.specs.Plans.{CanDeploy}
use Rattle.plan_model.proofs.Values.{is_none, file_or_absent-not_odd}
use Rattle.plan_model.proofs.Moved.{moved-else}
use Rattle.plan_model.proofs.Firsts.{IsBehind, behind-some, behind-none, row-some, row-here, win-some, win-here}
use Rattle.deploy_plan.proofs.Told.{told_at, case_is, next_is, won_path, new_rows, row_facts, win_facts}
use Rattle.deploy_plan.proofs.Kept.{behind_value, plain_managed, seen_behind, free_behind}

module _ (a : Disk) (old : Manifest) (wins : List Win) (can : CanDeploy a old wins) (plan : Plan) (laid : LaidOut (deploy_moves a old.rows wins) plan) where
  abbrev now : Spot → Value
  now = updated plan a.now

  -- the flag of a winner's row
  old_flag : (w : Win) (r : Row) → row_at old.rows (names_of w.path) ≡ Some r → (next_row a old.rows w).shadowed ≡ r.shadowed
  old_flag w r is = ap (λ o. (row_by a w o).shadowed) is ∙ by_mod (still_wins r w)
    where
      by_mod : (b : Bool) → (if b then r else made_row a w r.shadowed).shadowed ≡ r.shadowed
      by_mod true = refl
      by_mod false = refl

  new_flag : (w : Win) → row_at old.rows (names_of w.path) ≡ None → (next_row a old.rows w).shadowed ≡ is_file (a.now (game_spot w.path))
  new_flag w is = ap (λ o. (row_by a w o).shadowed) is

  -- A path without row and winner

  module _ (q : Names) (unrowed : row_at old.rows q ≡ None) (unwon : winner_of wins q ≡ None) where
    abbrev seen : (Spot → Value) → Value
    seen f = without_manifest f (in_game q)

    unset : (deploy_moves a old.rows wins).sets (in_game q) ≡ None
    unset = ap (set_by a) (case_is a old.rows wins q None None (is_file (a.now (in_game q))) unrowed unwon refl)

    -- the backup of a shadowed row
    gone : (r : Row) → IsBehind old.rows q r → winner_of wins (names_of r.path) ≡ None → seen now ≡ none
    gone r behind won =
        let at = row-here old.rows r can.rows.rise behind.listed in
        let good = row_free old.rows can.rows r behind.listed in
        let case = case_is a old.rows wins (names_of r.path) (Some r) None (is_file (a.now (game_spot r.path))) at won refl in
        ap (λ x. without_manifest now (in_game x)) (sym behind.here)
        ∙ seen_behind a old wins can plan laid r.path good now
        ∙ behind_value a old wins can plan laid r.path (leaves r) case
        ∙ by_file (has_original a r) refl
      where
        not_file : (b : Bool) → r.shadowed ≡ true → has_original a r ≡ false → is_file (a.now (backup_spot r.path)) ≡ false
        not_file b s e = sym (ap (λ c. c && is_file (a.now (backup_spot r.path))) s) ∙ e

        by_file : (b : Bool) → has_original a r ≡ b → (if b then none else a.now (backup_spot r.path)) ≡ none
        by_file true e = refl
        by_file false e = is_none (a.now (backup_spot r.path)) (not_file false behind.shadowed e) (file_or_absent-not_odd a (backup_spot r.path) (can.passes.walk.behind r behind.listed won behind.shadowed))

    stays_behind : (r : Row) (w : Win) → IsBehind old.rows q r → winner_of wins (names_of r.path) ≡ Some w → IsBehind (new_rows a old.rows wins) q (next_row a old.rows w)
    stays_behind r w behind won =
        let f = win-some wins (names_of r.path) w won in
        let at = row-here old.rows r can.rows.rise behind.listed in
        record {
          listed = map_contains (next_row a old.rows) wins w f.0;
          shadowed = old_flag w r (ap (row_at old.rows) f.1 ∙ at) ∙ behind.shadowed;
          here = ap (λ t. backup_names (names_of t)) (won_path a old.rows wins w) ∙ ap backup_names f.1 ∙ behind.here;
        }

    hidden : (r : Row) → IsBehind old.rows q r → (v : Option Win) → winner_of wins (names_of r.path) ≡ v → (o : Option Row) → row_behind (new_rows a old.rows wins) q ≡ o → (y : Value) → plain_by None o (seen now) y ≡ none
    hidden r behind v won (Some s) e y = refl
    hidden r behind None won None e y = gone r behind won
    hidden r behind (Some w) won None e y = absurd (behind-none (new_rows a old.rows wins) q (next_row a old.rows w) e (stays_behind r w behind won))

    -- a backup that the plan makes, or a path that is no backup
    made_behind : (s : Row) → row_behind old.rows q ≡ None → IsBehind (new_rows a old.rows wins) q s → none ≡ seen a.now
    made_behind s unbehind behind =
        let m = contains_map (next_row a old.rows) wins s behind.listed in
        by_row m.0 m.1 m.2 (row_at old.rows (names_of m.0.path)) refl
      where
        path_is : (w : Win) → next_row a old.rows w ≡ s → backup_names (names_of w.path) ≡ q
        path_is w same = ap (λ t. backup_names (names_of t)) (sym (won_path a old.rows wins w)) ∙ ap (λ (r : Row). backup_names (names_of r.path)) same ∙ behind.here

        by_row : (w : Win) → Contains wins w → next_row a old.rows w ≡ s → (o : Option Row) → row_at old.rows (names_of w.path) ≡ o → none ≡ seen a.now
        by_row w listed same (Some r) e =
            let f = row-some old.rows (names_of w.path) r e in
            absurd (behind-none old.rows q r unbehind (record {
              listed = f.0;
              shadowed = sym (old_flag w r e) ∙ ap (λ (x : Row). x.shadowed) same ∙ behind.shadowed;
              here = ap backup_names f.1 ∙ path_is w same;
            }))
        by_row w listed same None e =
            let good = win_free a wins can.won w listed in
            let taken = sym (new_flag w e) ∙ ap (λ (x : Row). x.shadowed) same ∙ behind.shadowed in
            sym (free_behind a old wins can plan laid w.path good w e (win-here wins w can.won.rise listed) taken)
            ∙ sym (seen_behind a old wins can plan laid w.path good a.now)
            ∙ ap (λ x. without_manifest a.now (in_game x)) (path_is w same)

    untouched_here : row_behind old.rows q ≡ None → row_behind (new_rows a old.rows wins) q ≡ None → seen now ≡ seen a.now
    untouched_here unbehind still = without-agree now a.now (in_game q) (λ ne. moved-else (deploy_moves a old.rows wins) plan laid a.now (in_game q) unset kept unsaved)
      where
        kept : Frees a old.rows wins (in_game q) → ⊥
        kept h =
            let t = told_at a old.rows wins (names_of h.row.path) (leaves h.row) h.case in
            let f = row_facts a old wins can (names_of h.row.path) h.row t.0 in
            behind-none old.rows q h.row unbehind (record { listed = f.listed; shadowed = (both h.row.shadowed _ h.original).0; here = ap (λ (s : Spot). s.names) h.here })

        unsaved : (y : Spot) → Covers a old.rows wins y (in_game q) → ⊥
        unsaved y h =
            let t = told_at a old.rows wins (names_of h.win.path) (covers h.win) h.case in
            let f = win_facts a old wins can (names_of h.win.path) h.win t.1 in
            behind-none (new_rows a old.rows wins) q (next_row a old.rows h.win) still (record {
              listed = map_contains (next_row a old.rows) wins h.win f.listed;
              shadowed = new_flag h.win t.0 ∙ t.2;
              here = ap (λ x. backup_names (names_of x)) (won_path a old.rows wins h.win) ∙ ap (λ (s : Spot). s.names) h.here;
            })

    by_behind : (o s : Option Row) → row_behind old.rows q ≡ o → row_behind (new_rows a old.rows wins) q ≡ s → (y z : Value) → plain_by None s (seen now) y ≡ plain_by None o (seen a.now) z
    by_behind (Some r) s e f y z = hidden r (behind-some old.rows q r e) (winner_of wins (names_of r.path)) refl s f y
    by_behind None (Some s) e f y z = made_behind s e (behind-some (new_rows a old.rows wins) q s f)
    by_behind None None e f y z = untouched_here e f

    plain_unmanaged : plain (new_rows a old.rows wins) (without_manifest now) q ≡ plain old.rows (without_manifest a.now) q
    unfolding plain
    plain_unmanaged =
        (λ i. plain_by (next_is a old.rows wins q untouched (unrowed, unwon) i) (row_behind (new_rows a old.rows wins) q) (seen now) (without_manifest now (in_game (backup_names q))))
        ∙ by_behind (row_behind old.rows q) (row_behind (new_rows a old.rows wins) q) refl refl _ _
        ∙ sym (λ i. plain_by (unrowed i) (row_behind old.rows q) (seen a.now) (without_manifest a.now (in_game (backup_names q))))

  -- the plain game folder stays
  pub plain_same : (p : Names) → plain (new_rows a old.rows wins) (without_manifest now) p ≡ plain old.rows (without_manifest a.now) p
  plain_same p = by_both (row_at old.rows p) (winner_of wins p) refl refl
    where
      by_both : (o : Option Row) (v : Option Win) → row_at old.rows p ≡ o → winner_of wins p ≡ v → plain (new_rows a old.rows wins) (without_manifest now) p ≡ plain old.rows (without_manifest a.now) p
      by_both (Some r) v is won =
          let f = row_facts a old wins can p r is in
          subst (λ q. plain (new_rows a old.rows wins) (without_manifest now) q ≡ plain old.rows (without_manifest a.now) q) f.here (plain_managed a old wins can plan laid r.path f.good)
      by_both None (Some w) is won =
          let f = win_facts a old wins can p w won in
          subst (λ q. plain (new_rows a old.rows wins) (without_manifest now) q ≡ plain old.rows (without_manifest a.now) q) f.here (plain_managed a old wins can plan laid w.path f.good)
      by_both None None is won = plain_unmanaged p is won
