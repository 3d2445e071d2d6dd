-- What the plan of a settlement makes of each place.
use Rattle.std.proofs.Common.{◌≡◌, ◌≢◌, ℕ, Bool, true, false, ◌&&◌, if◌then◌else◌, List, refl, sym, ap, ◌∙◌, subst}
use Rattle.std.specs.List.{Contains}
use Rattle.std.specs.declared.option.Option.{Option}
use Rattle.std.specs.declared.option.Option.TheVariants.{None, Some}
use Rattle.rel_paths.specs.Names.{names_of, IsFreePath}
use Rattle.tree_fs.specs.declared.place.Root.TheVariants.{Stage, Game, Keep}
use Rattle.tree_fs.specs.Spot.{Spot}
use Rattle.tree_fs.specs.Places.{game_spot}
use Rattle.tree_fs.specs.Disk.{Disk, Value, none}
use Rattle.tree_fs.proofs.KindOf.{kind-absent}
use Rattle.backup_keep.specs.Places.{backup_spot, aside_spot}
use Rattle.backup_keep.proofs.Kept.{backup_spot-same}
use Rattle.manifest_json.specs.declared.manifest.Row.{Row}
use Rattle.manifest_json.specs.declared.manifest.Manifest.{Manifest}
use Rattle.change_detect.specs.Classes.{staged_of}
use Rattle.move_plan.specs.declared.plan.Plan.{Plan}
use Rattle.desk_model.specs.Records.{row_at}
use Rattle.desk_model.specs.Desk.{file_or_none, is_file}
use Rattle.desk_model.specs.Outcome.{updated}
use Rattle.desk_model.specs.Settled.{Choice, Deed, left_whole, put_aside, imported, reverted, accepted, linked_again, staged_again, let_go, dropped, deed_of, kept_by, kept_spot, settled_row, restages}
use Rattle.desk_model.specs.Settled.{value_at as settled_value}
use Rattle.plan_model.specs.Rows.{has_original, from_backup, IsFileOrAbsent}
use Rattle.plan_model.specs.Moves.{Move, Moves, LaidOut}
use Rattle.plan_model.proofs.Values.{HasFile, its_file, no_file, is_none, file_or_absent-not_odd}
use Rattle.plan_model.proofs.Moved.{value_at, moved-clear, moved-set, moved-else}
use Rattle.plan_model.proofs.Firsts.{row-here}
use Rattle.plan_model.proofs.Paths.{good-not_backup}
use Rattle.change_settle.specs.Deeds.{original_move, game_move, stage_move, cleared_spot, settle_moves, next_row}
use Rattle.change_settle.specs.Refusals.{NeedsBackup}
use Rattle.change_settle.specs.Plans.{CanSettle}
use Rattle.change_settle.proofs.Premises.{told_at, free_path, kind_has_file}
use Rattle.change_settle.proofs.Sets.{game_set, stage_set, behind_unset}
use Rattle.change_settle.proofs.Stands.{Cleared, given_up, gone_back, clears_cleared}

module _ (choice : Choice) (a : Disk) (old : Manifest) (n : ℕ) (can : CanSettle choice a old n) (plan : Plan) (laid : LaidOut (settle_moves choice a old.rows n) plan) where
  abbrev m : Moves
  m = settle_moves choice a old.rows n

  abbrev now : Spot → Value
  now = updated plan a.now

  -- saves go below the aside folder, and clears lie there or at backups
  pub users_unsaved : (x y : Spot) → x.root ≢ Keep → ¬ m.saves y x
  users_unsaved x y ne h = ne (ap (λ (s : Spot). s.root) (sym h.here))

  pub path_uncleared : (t : List ℕ) → IsFreePath t → ¬ m.clears (game_spot t)
  path_uncleared t good h = by_cleared (clears_cleared choice a old n can (game_spot t) h)
    where
      by_cleared : Cleared choice a old n can (game_spot t) → ⊥
      by_cleared (given_up r c e here) = let k : Keep ≡ Game = ap (λ (s : Spot). s.root) here in cc
      by_cleared (gone_back r c s o here) = good-not_backup t r.path good (ap (λ (x : Spot). x.names) here)

  pub stage_uncleared : (x : Spot) → x.root ≡ Stage → ¬ m.clears x
  stage_uncleared x root h = by_cleared (clears_cleared choice a old n can x h)
    where
      by_cleared : Cleared choice a old n can x → ⊥
      by_cleared (given_up r c e here) = let k : Keep ≡ Stage = ap (λ (s : Spot). s.root) here ∙ root in cc
      by_cleared (gone_back r c s o here) = let k : Game ≡ Stage = ap (λ (s : Spot). s.root) here ∙ root in cc

  -- the place of a set, or one that is left alone
  abbrev pub here_by : Option Move → Value → Value
  here_by None here = here
  here_by (Some v) here = value_at a.now v.from

  here_value : (x : Spot) → x.root ≢ Keep → ¬ m.clears x → now x ≡ here_by (m.sets x) (a.now x)
  here_value x users kept = by_set (m.sets x) refl
    where
      by_set : (o : Option Move) → m.sets x ≡ o → now x ≡ here_by o (a.now x)
      by_set None e = moved-else m plan laid a.now x e kept (λ y. users_unsaved x y users)
      by_set (Some v) e = moved-set m plan laid a.now x v e kept

  game_root : Game ≢ Keep
  game_root e = cc

  stage_root : Stage ≢ Keep
  stage_root e = cc

  pub game_value : (r : Row) → Contains old.rows r → now (game_spot r.path) ≡ here_by (game_move a n r (deed_of choice a r)) (a.now (game_spot r.path))
  game_value r c = here_value (game_spot r.path) game_root (path_uncleared r.path (free_path choice a old n can r c)) ∙ ap (λ o. here_by o (a.now (game_spot r.path))) (game_set choice a old n can r c)

  pub stage_value : (r : Row) → Contains old.rows r → now (staged_of r) ≡ here_by (stage_move n r (deed_of choice a r)) (a.now (staged_of r))
  stage_value r c = here_value (staged_of r) stage_root (stage_uncleared (staged_of r) refl) ∙ ap (λ o. here_by o (a.now (staged_of r))) (stage_set choice a old n can r c)

  -- The found file of a row that stays

  -- both names of a row that stays have a file afterwards, that of its line
  pub record Stays (r : Row) : Type 0 where
    pub file : HasFile (now (game_spot r.path))
    pub value : now (game_spot r.path) ≡ settled_value a (kept_spot r (kept_by (deed_of choice a r)))

  pub stays : (r made : Row) → Contains old.rows r → next_row choice a r ≡ Some made → Stays r
  stays r made c e = by_deed (deed_of choice a r) refl e
    where
      left : (d : Deed) → deed_of choice a r ≡ d → game_move a n r d ≡ None → kept_spot r (kept_by d) ≡ Some (game_spot r.path) → HasFile (a.now (game_spot r.path)) → Stays r
      left d is still kept f =
          let same : now (game_spot r.path) ≡ a.now (game_spot r.path) = game_value r c ∙ ap (λ k. here_by (game_move a n r k) (a.now (game_spot r.path))) is ∙ ap (λ o. here_by o (a.now (game_spot r.path))) still in
          record { file = subst HasFile (sym same) f; value = same ∙ sym (ap (λ k. settled_value a (kept_spot r (kept_by k))) is ∙ ap (settled_value a) kept) }

      linked : (d : Deed) (back : Option Spot) → deed_of choice a r ≡ d → game_move a n r d ≡ Some (record { from = Some (staged_of r); back = back }) → kept_spot r (kept_by d) ≡ Some (staged_of r) → HasFile (a.now (staged_of r)) → Stays r
      linked d back is set kept f =
          let same : now (game_spot r.path) ≡ a.now (staged_of r) =
          game_value r c ∙ ap (λ k. here_by (game_move a n r k) (a.now (game_spot r.path))) is ∙ ap (λ o. here_by o (a.now (game_spot r.path))) set ∙ its_file (a.now (staged_of r)) f in
          record { file = subst HasFile (sym same) f; value = same ∙ sym (ap (λ k. settled_value a (kept_spot r (kept_by k))) is ∙ ap (settled_value a) kept) }

      by_deed : (d : Deed) → deed_of choice a r ≡ d → settled_row a r d ≡ Some made → Stays r
      by_deed left_whole is s = left left_whole is refl refl (kind_has_file a (game_spot r.path) (told_at choice a old n can r c left_whole is).here)
      by_deed imported is s = left imported is refl refl (kind_has_file a (game_spot r.path) (told_at choice a old n can r c imported is).here)
      by_deed accepted is s = left accepted is refl refl (kind_has_file a (game_spot r.path) (told_at choice a old n can r c accepted is).here)
      by_deed staged_again is s = left staged_again is refl refl (kind_has_file a (game_spot r.path) (told_at choice a old n can r c staged_again is).here)
      by_deed put_aside is s = linked put_aside _ is refl refl (kind_has_file a (staged_of r) (told_at choice a old n can r c put_aside is).staged)
      by_deed reverted is s = linked reverted _ is refl refl (kind_has_file a (staged_of r) (told_at choice a old n can r c reverted is).staged)
      by_deed linked_again is s = linked linked_again _ is refl refl (kind_has_file a (staged_of r) (told_at choice a old n can r c linked_again is).staged)
      by_deed let_go is s = absurd (cc)
      by_deed dropped is s = absurd (cc)

  -- The path of a row that goes

  abbrev pub original_of : Row → Value
  original_of r = if r.shadowed then file_or_none (a.now (backup_spot r.path)) else none

  pub from_original : (r : Row) → value_at a.now (from_backup a r) ≡ original_of r
  from_original r = by_tests r.shadowed (is_file (a.now (backup_spot r.path))) refl
    where
      by_tests : (s b : Bool) → is_file (a.now (backup_spot r.path)) ≡ b → value_at a.now (if s && b then Some (backup_spot r.path) else None) ≡ (if s then file_or_none (a.now (backup_spot r.path)) else none)
      by_tests false b e = refl
      by_tests true true e = refl
      by_tests true false e = sym (no_file (a.now (backup_spot r.path)) e)

  -- a row goes where it is let go or dropped
  pub data Leaves (r : Row) : Type 0 where
    lets_go : deed_of choice a r ≡ let_go → Leaves r
    drops : deed_of choice a r ≡ dropped → Leaves r

  pub leaves : (r : Row) → next_row choice a r ≡ None → Leaves r
  leaves r e = by_deed (deed_of choice a r) refl e
    where
      by_deed : (d : Deed) → deed_of choice a r ≡ d → settled_row a r d ≡ None → Leaves r
      by_deed let_go is s = lets_go is
      by_deed dropped is s = drops is
      by_deed left_whole is s = absurd (cc)
      by_deed put_aside is s = absurd (cc)
      by_deed imported is s = absurd (cc)
      by_deed reverted is s = absurd (cc)
      by_deed accepted is s = absurd (cc)
      by_deed linked_again is s = absurd (cc)
      by_deed staged_again is s = absurd (cc)

  pub given_back : (r : Row) → Contains old.rows r → Leaves r → now (game_spot r.path) ≡ original_of r
  given_back r c (lets_go is) = game_value r c ∙ ap (λ d. here_by (game_move a n r d) (a.now (game_spot r.path))) is ∙ from_original r
  given_back r c (drops is) =
      game_value r c ∙ ap (λ d. here_by (game_move a n r d) (a.now (game_spot r.path))) is
      ∙ by_original (has_original a r) refl ∙ from_original r
    where
      by_original : (b : Bool) → has_original a r ≡ b → here_by (original_move r b) (a.now (game_spot r.path)) ≡ value_at a.now (if b then Some (backup_spot r.path) else None)
      by_original true e = refl
      by_original false e = (kind-absent a (game_spot r.path) (told_at choice a old n can r c dropped is).here).1

  pub leaving_value : (r : Row) → Leaves r → settled_value a (kept_spot r (kept_by (deed_of choice a r))) ≡ none
  leaving_value r (lets_go is) = ap (λ d. settled_value a (kept_spot r (kept_by d))) is
  leaving_value r (drops is) = ap (λ d. settled_value a (kept_spot r (kept_by d))) is

  -- Backup places

  behind_else : (t : List ℕ) → ¬ m.clears (backup_spot t) → now (backup_spot t) ≡ a.now (backup_spot t)
  behind_else t kept = moved-else m plan laid a.now (backup_spot t) (behind_unset choice a old n can t) kept (λ y. users_unsaved (backup_spot t) y game_root)

  one_row : (r s : Row) → Contains old.rows r → Contains old.rows s → s.path ≡ r.path → r ≡ s
  one_row r s c d e =
      let t : Some r ≡ Some s = sym (row-here old.rows r can.rows.rise c) ∙ ap (λ p. row_at old.rows (names_of p)) (sym e) ∙ row-here old.rows s can.rows.rise d in cc

  -- that of a row that stays
  pub behind_kept : (r made : Row) → Contains old.rows r → next_row choice a r ≡ Some made → now (backup_spot r.path) ≡ a.now (backup_spot r.path)
  behind_kept r made c e = behind_else r.path (λ h. by_cleared h.row h.listed (cleared_by h.row h.cleared))
    where
      -- a clear at a backup is that of a row that leaves
      cleared_by : (s : Row) → cleared_spot a n s (deed_of choice a s) ≡ Some (backup_spot r.path) → (next_row choice a s ≡ None) × (backup_spot s.path ≡ backup_spot r.path)
      cleared_by s h = by_deed (deed_of choice a s) refl h
        where
          by_original : (b : Bool) → (if b then Some (backup_spot s.path) else None) ≡ Some (backup_spot r.path) → backup_spot s.path ≡ backup_spot r.path
          by_original true k = cc
          by_original false k = absurd (cc)

          by_deed : (d : Deed) → deed_of choice a s ≡ d → cleared_spot a n s d ≡ Some (backup_spot r.path) → (next_row choice a s ≡ None) × (backup_spot s.path ≡ backup_spot r.path)
          by_deed let_go is k = (ap (settled_row a s) is, by_original (has_original a s) k)
          by_deed dropped is k = (ap (settled_row a s) is, by_original (has_original a s) k)
          by_deed reverted is k = let t : aside_spot n (game_spot s.path) ≡ backup_spot r.path = cc in let root : Keep ≡ Game = ap (λ (x : Spot). x.root) t in absurd (cc)
          by_deed left_whole is k = absurd (cc)
          by_deed put_aside is k = absurd (cc)
          by_deed imported is k = absurd (cc)
          by_deed accepted is k = absurd (cc)
          by_deed linked_again is k = absurd (cc)
          by_deed staged_again is k = absurd (cc)

      by_cleared : (s : Row) → Contains old.rows s → (next_row choice a s ≡ None) × (backup_spot s.path ≡ backup_spot r.path) → ⊥
      by_cleared s d h =
          let same : r ≡ s = one_row r s c d (backup_spot-same s.path r.path h.1) in
          let t : Some made ≡ None = sym e ∙ ap (next_row choice a) same ∙ h.0 in cc

  -- that of a shadowed row that goes is empty
  pub behind_empty : (r : Row) → Contains old.rows r → Leaves r → r.shadowed ≡ true → now (backup_spot r.path) ≡ none
  behind_empty r c leaving shadowed = by_original (has_original a r) refl
    where
      cleared : (d : Deed) → deed_of choice a r ≡ d → cleared_spot a n r d ≡ from_backup a r → has_original a r ≡ true → m.clears (backup_spot r.path)
      cleared d is at o = record { row = r; listed = c; cleared = ap (cleared_spot a n r) is ∙ at ∙ ap (λ b. if b then Some (backup_spot r.path) else None) o }

      open_behind : Leaves r → IsFileOrAbsent a (backup_spot r.path)
      open_behind (lets_go is) = can.passes.walk.behind r c (subst (NeedsBackup r) (sym is) shadowed)
      open_behind (drops is) = can.passes.walk.behind r c (subst (NeedsBackup r) (sym is) shadowed)

      clears : Leaves r → has_original a r ≡ true → m.clears (backup_spot r.path)
      clears (lets_go is) o = cleared let_go is refl o
      clears (drops is) o = cleared dropped is refl o

      not_file : has_original a r ≡ false → is_file (a.now (backup_spot r.path)) ≡ false
      not_file o = sym (ap (λ c. c && is_file (a.now (backup_spot r.path))) shadowed) ∙ o

      uncleared : has_original a r ≡ false → m.clears (backup_spot r.path) → ⊥
      uncleared o h = by_cleared (clears_cleared choice a old n can (backup_spot r.path) h)
        where
          by_cleared : Cleared choice a old n can (backup_spot r.path) → ⊥
          by_cleared (given_up s d e here) = let k : Keep ≡ Game = ap (λ (x : Spot). x.root) here in cc
          by_cleared (gone_back s d t u here) =
              let same : r ≡ s = one_row r s c d (backup_spot-same s.path r.path here) in
              let k : false ≡ true = sym o ∙ ap (has_original a) same ∙ u in cc

      by_original : (b : Bool) → has_original a r ≡ b → now (backup_spot r.path) ≡ none
      by_original true o = moved-clear m plan laid a.now (backup_spot r.path) (clears leaving o)
      by_original false o = behind_else r.path (uncleared o) ∙ is_none (a.now (backup_spot r.path)) (not_file o) (file_or_absent-not_odd a (backup_spot r.path) (open_behind leaving))

  -- Staged places

  pub staged_value : (r : Row) → Contains old.rows r → now (staged_of r) ≡ (if restages (deed_of choice a r) then a.now (game_spot r.path) else a.now (staged_of r))
  staged_value r c = stage_value r c ∙ by_deed (deed_of choice a r) refl
    where
      by_deed : (d : Deed) → deed_of choice a r ≡ d → here_by (stage_move n r d) (a.now (staged_of r)) ≡ (if restages d then a.now (game_spot r.path) else a.now (staged_of r))
      by_deed imported is = its_file (a.now (game_spot r.path)) (kind_has_file a (game_spot r.path) (told_at choice a old n can r c imported is).here)
      by_deed staged_again is = its_file (a.now (game_spot r.path)) (kind_has_file a (game_spot r.path) (told_at choice a old n can r c staged_again is).here)
      by_deed left_whole is = refl
      by_deed put_aside is = refl
      by_deed reverted is = refl
      by_deed accepted is = refl
      by_deed linked_again is = refl
      by_deed let_go is = refl
      by_deed dropped is = refl
