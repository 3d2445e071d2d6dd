-- What the plan of a deployment makes of each place, and that the plain game folder stays.
use Rattle.plan_model.proofs.Values.{off_manifest, HasFile, file_true, its_file, no_file, is_none, file_or_absent-not_odd, has_file-kind}
use Rattle.manifest_json.specs.declared.manifest.Manifest.{Manifest}
use Rattle.std.proofs.Common.{◌≡◌, ◌≢◌, Bool, true, false, ◌&&◌, if◌then◌else◌, List, refl, sym, ap, ◌∙◌, subst}
use Rattle.std.specs.List.{Contains}
use Rattle.std.specs.declared.option.Option.{Option}
use Rattle.std.specs.declared.option.Option.TheVariants.{None, Some}
use Rattle.rel_paths.specs.Names.{names_of, backup_names, IsFreePath}
use Rattle.rel_paths.proofs.NamesOf.{same_text}
use Rattle.tree_fs.specs.Spot.{Spot}
use Rattle.tree_fs.specs.Places.{game_spot}
use Rattle.tree_fs.specs.Disk.{Disk, Value, none, odd}
use Rattle.tree_fs.proofs.KindOf.{kind-absent}
use Rattle.manifest_json.specs.declared.manifest.Row.{Row}
use Rattle.move_plan.specs.declared.plan.Plan.{Plan}
use Rattle.backup_keep.specs.Places.{backup_spot}
use Rattle.desk_model.specs.Places.{Names}
use Rattle.desk_model.specs.Desk.{without_manifest, plain, plain_by, file_or_none, is_file}
use Rattle.desk_model.specs.Records.{row_at, row_behind}
use Rattle.desk_model.specs.Deployed.{Win, winner_of}
use Rattle.desk_model.specs.Outcome.{own_or, updated}
use Rattle.plan_model.specs.Moves.{Move, LaidOut}
use Rattle.deploy_plan.specs.Cases.{Case, untouched, leaves, stays, turns, comes, covers, case_of, set_by, deploy_moves}
use Rattle.plan_model.specs.Rows.{has_original}
use Rattle.deploy_plan.specs.Plans.{CanDeploy}
use Rattle.plan_model.proofs.Moved.{value_at, moved-clear, moved-set, moved-save, moved-else}
use Rattle.plan_model.proofs.Firsts.{behind-some}
use Rattle.plan_model.proofs.Paths.{good-not_backup, good-off, backup-off, not_manifest}
use Rattle.deploy_plan.proofs.Told.{Told, told_at, old_by, next_by, old_is, next_is, new_rows, row_facts, win_facts, behind_unset, frees_case, covers_case, path_kept, path_unsaved}

module _ (a : Disk) (old : Manifest) (wins : List Win) (can : CanDeploy a old wins) (plan : Plan) (laid : LaidOut (deploy_moves a old.rows wins) plan) where
  abbrev now : Spot → Value
  now = updated plan a.now

  -- the place of a path
  abbrev pub here_by : Option Move → Value → Value
  here_by None here = here
  here_by (Some v) here = value_at a.now v.from

  pub here_value : (t : List _) → IsFreePath t → now (game_spot t) ≡ here_by (set_by a (case_of a old.rows wins (names_of t))) (a.now (game_spot t))
  here_value t good = by_set (set_by a (case_of a old.rows wins (names_of t))) refl
    where
      by_set : (o : Option Move) → (deploy_moves a old.rows wins).sets (game_spot t) ≡ o → now (game_spot t) ≡ here_by o (a.now (game_spot t))
      by_set None e = moved-else (deploy_moves a old.rows wins) plan laid a.now (game_spot t) e (path_kept a old wins can t good) (λ y. path_unsaved a old wins can t y good)
      by_set (Some v) e = moved-set (deploy_moves a old.rows wins) plan laid a.now (game_spot t) v e (path_kept a old wins can t good)

  -- the place of its backup
  abbrev pub behind_by : Case → (here behind : Value) → Value
  behind_by untouched here behind = behind
  behind_by (leaves r) here behind = if has_original a r then none else behind
  behind_by (stays r) here behind = behind
  behind_by (turns r w) here behind = behind
  behind_by (comes w) here behind = behind
  behind_by (covers w) here behind = own_or behind (file_or_none here)

  pub behind_value : (t : List _) (c : Case) → case_of a old.rows wins (names_of t) ≡ c → now (backup_spot t) ≡ behind_by c (a.now (game_spot t)) (a.now (backup_spot t))
  behind_value t c e = by_case c e
    where
      apart : (c : Case) → case_of a old.rows wins (names_of t) ≡ c → ((r : Row) → c ≢ leaves r) → ((w : Win) → c ≢ covers w) → now (backup_spot t) ≡ a.now (backup_spot t)
      apart c is unfreed uncovered =
          moved-else (deploy_moves a old.rows wins) plan laid a.now (backup_spot t) (behind_unset a old wins can t)
          (λ h. let f = frees_case a old wins can t h in unfreed f.0 (sym is ∙ f.1))
          (λ y h. let f = covers_case a old wins can t y h in uncovered f.0 (sym is ∙ f.1))

      let_go : (r : Row) (b : Bool) → case_of a old.rows wins (names_of t) ≡ leaves r → r.path ≡ t → has_original a r ≡ b → now (backup_spot t) ≡ (if b then none else a.now (backup_spot t))
      let_go r true is path orig =
          moved-clear (deploy_moves a old.rows wins) plan laid a.now (backup_spot t) (record { row = r; case = ap (λ q. case_of a old.rows wins (names_of q)) path ∙ is; original = orig; here = ap backup_spot path })
      let_go r false is path orig =
          moved-else (deploy_moves a old.rows wins) plan laid a.now (backup_spot t) (behind_unset a old wins can t)
          (λ h. let f = frees_case a old wins can t h in
          let g : leaves r ≡ leaves f.0 = sym is ∙ f.1 in
          let same : r ≡ f.0 = cc in
          let no : false ≡ true = sym orig ∙ ap (has_original a) same ∙ f.2 in cc)
          (λ y h. let f = covers_case a old wins can t y h in let g : leaves r ≡ covers f.0 = sym is ∙ f.1 in cc)

      covered : (w : Win) → case_of a old.rows wins (names_of t) ≡ covers w → w.path ≡ t → now (backup_spot t) ≡ own_or (a.now (backup_spot t)) (file_or_none (a.now (game_spot t)))
      covered w is path =
          moved-save (deploy_moves a old.rows wins) plan laid a.now (backup_spot t) (game_spot t) (behind_unset a old wins can t)
          (λ h. let f = frees_case a old wins can t h in let g : covers w ≡ leaves f.0 = sym is ∙ f.1 in cc)
          (record { win = w; case = ap (λ q. case_of a old.rows wins (names_of q)) path ∙ is; source = ap game_spot path; here = ap backup_spot path })
          (λ y h. sym (covers_case a old wins can t y h).2)

      by_case : (c : Case) → case_of a old.rows wins (names_of t) ≡ c → now (backup_spot t) ≡ behind_by c (a.now (game_spot t)) (a.now (backup_spot t))
      by_case untouched is = apart untouched is (λ r e. cc) (λ w e. cc)
      by_case (leaves r) is = let h = told_at a old.rows wins (names_of t) (leaves r) is in let_go r (has_original a r) is (same_text r.path t (row_facts a old wins can (names_of t) r h.0).here) refl
      by_case (stays r) is = apart (stays r) is (λ q e. cc) (λ w e. cc)
      by_case (turns r w) is = apart (turns r w) is (λ q e. cc) (λ v e. cc)
      by_case (comes w) is = apart (comes w) is (λ r e. cc) (λ v e. cc)
      by_case (covers w) is = let h = told_at a old.rows wins (names_of t) (covers w) is in covered w is (same_text w.path t (win_facts a old wins can (names_of t) w h.1).here)

  -- A path with a row or a winner

  module _ (t : List _) (good : IsFreePath t) where
    abbrev p : Names
    p = names_of t

    abbrev here : Value
    here = a.now (game_spot t)

    abbrev behind : Value
    behind = a.now (backup_spot t)

    lost : (s b : Bool) (x : Spot) → is_file (a.now x) ≡ b → value_at a.now (if s && b then Some x else None) ≡ (if s then file_or_none (a.now x) else none)
    lost false b x e = refl
    lost true true x e = refl
    lost true false x e = sym (no_file (a.now x) e)

    new_win : (w : Win) → row_at old.rows p ≡ None → winner_of wins p ≡ Some w → Contains wins w × (row_at old.rows (names_of w.path) ≡ None) × (w.path ≡ t)
    new_win w is won = let f = win_facts a old wins can p w won in (f.listed, ap (row_at old.rows) f.here ∙ is, same_text w.path t f.here)

    pub place_not_odd : (w : Win) → row_at old.rows p ≡ None → winner_of wins p ≡ Some w → here ≢ odd
    place_not_odd w is won = let n = new_win w is won in subst (λ q. a.now (game_spot q) ≢ odd) n.2 (file_or_absent-not_odd a (game_spot w.path) (can.passes.walk.place w (n.0, n.1)))

    pub free_behind : (w : Win) → row_at old.rows p ≡ None → winner_of wins p ≡ Some w → is_file here ≡ true → behind ≡ none
    free_behind w is won taken =
        let n = new_win w is won in
        subst (λ q. a.now (backup_spot q) ≡ none) n.2
        (kind-absent a (backup_spot w.path) (can.passes.walk.free w (n.0, n.1) (has_file-kind a (game_spot w.path) can.valid (subst (λ q. HasFile (a.now (game_spot q))) (sym n.2) (file_true here taken))))).1

    plain_case : (c : Case) → Told a old.rows wins p c → plain_by (next_by a old.rows wins c) None (here_by (set_by a c) here) (behind_by c here behind) ≡ plain_by (old_by a old.rows wins c) None here behind
    plain_case untouched h = refl
    plain_case (leaves r) h =
        let f = row_facts a old wins can p r h.0 in
        lost r.shadowed (is_file (a.now (backup_spot r.path))) (backup_spot r.path) refl ∙ ap (λ q. if r.shadowed then file_or_none (a.now (backup_spot q)) else none) (same_text r.path t f.here)
    plain_case (stays r) h = refl
    plain_case (turns r w) h = refl
    plain_case (comes w) h = sym (is_none here h.2 (place_not_odd w h.0 h.1))
    plain_case (covers w) h =
        let file = file_true here h.2 in
        ap (λ v. file_or_none (own_or v (file_or_none here))) (free_behind w h.0 h.1 h.2) ∙ ap file_or_none (its_file here file) ∙ its_file here file

    unbehind : (rows : List Row) → row_behind rows p ≡ None
    unbehind rows = by_behind (row_behind rows p) refl
      where
        by_behind : (o : Option Row) → row_behind rows p ≡ o → o ≡ None
        by_behind None e = refl
        by_behind (Some r) e = absurd (good-not_backup t r.path good (behind-some rows p r e).here)

    pub seen_here : (f : Spot → Value) → without_manifest f (game_spot t) ≡ f (game_spot t)
    seen_here f = off_manifest f (game_spot t) (not_manifest p (good-off t good))

    pub seen_behind : (f : Spot → Value) → without_manifest f (backup_spot t) ≡ f (backup_spot t)
    seen_behind f = off_manifest f (backup_spot t) (not_manifest (backup_names p) (backup-off t good))

    plain_told : (c : Case) → case_of a old.rows wins p ≡ c → plain (new_rows a old.rows wins) (without_manifest now) p ≡ plain old.rows (without_manifest a.now) p
    unfolding plain
    plain_told c is =
        let h = told_at a old.rows wins p c is in
        (λ i. plain_by (next_is a old.rows wins p c h i) (unbehind (new_rows a old.rows wins) i) ((seen_here now ∙ here_value t good ∙ ap (λ x. here_by (set_by a x) here) is) i) ((seen_behind now ∙ behind_value t c is) i))
        ∙ plain_case c h
        ∙ sym (λ i. plain_by (old_is a old.rows wins p c h i) (unbehind old.rows i) (seen_here a.now i) (seen_behind a.now i))

    pub plain_managed : plain (new_rows a old.rows wins) (without_manifest now) p ≡ plain old.rows (without_manifest a.now) p
    plain_managed = plain_told (case_of a old.rows wins p) refl
