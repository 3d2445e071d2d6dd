-- Where the sets of a settlement stand, by the rows.
use Rattle.std.proofs.Common.{◌≡◌, ℕ, List, refl, sym, ap}
use Rattle.std.specs.List.{Contains}
use Rattle.std.specs.declared.option.Option.{Option}
use Rattle.std.specs.declared.option.Option.TheVariants.{None, Some}
use Rattle.rel_paths.specs.Names.{names_of, backup_names}
use Rattle.tree_fs.specs.declared.place.Root.{Root}
use Rattle.tree_fs.specs.declared.place.Root.TheVariants.{Stage, Game, Keep}
use Rattle.tree_fs.specs.Spot.{Spot}
use Rattle.tree_fs.specs.Places.{game_spot}
use Rattle.tree_fs.specs.Disk.{Disk}
use Rattle.backup_keep.specs.Places.{backup_spot}
use Rattle.manifest_json.specs.declared.manifest.Row.{Row}
use Rattle.manifest_json.specs.declared.manifest.Manifest.{Manifest}
use Rattle.change_detect.specs.Classes.{staged_of}
use Rattle.desk_model.specs.Places.{Names, in_game, in_stage}
use Rattle.desk_model.specs.Records.{row_at, row_staged}
use Rattle.desk_model.specs.Settled.{Choice, deed_of}
use Rattle.desk_model.proofs.Sourced.{row_staged-some}
use Rattle.plan_model.specs.Moves.{Move}
use Rattle.plan_model.proofs.Firsts.{row-some}
use Rattle.plan_model.proofs.Paths.{good-not_backup}
use Rattle.change_settle.specs.Deeds.{game_move, stage_move, at_row, set_of, settle_moves}
use Rattle.change_settle.specs.Plans.{CanSettle}
use Rattle.change_settle.proofs.Premises.{at_path, at_staged, free_path}

-- a set stands at the game path of a row, or at its staged place
pub data SetCase (choice : Choice) (a : Disk) (rows : List Row) (n : ℕ) (x : Spot) (v : Move) : Type 0 where
  at_game : (r : Row) → Contains rows r → game_spot r.path ≡ x → game_move a n r (deed_of choice a r) ≡ Some v → SetCase choice a rows n x v
  at_stage : (r : Row) → Contains rows r → staged_of r ≡ x → stage_move n r (deed_of choice a r) ≡ Some v → SetCase choice a rows n x v

pub set_tells : (choice : Choice) (a : Disk) (rows : List Row) (n : ℕ) (x : Spot) (v : Move) → (settle_moves choice a rows n).sets x ≡ Some v → SetCase choice a rows n x v
set_tells choice a rows n x v e = by_root x.root x.names e
  where
    in_game_path : (p : Names) (o : Option Row) → row_at rows p ≡ o → at_row choice a (game_move a n) o ≡ Some v → SetCase choice a rows n (in_game p) v
    in_game_path p None is e = absurd (cc)
    in_game_path p (Some r) is e = let f = row-some rows p r is in at_game r f.0 (ap in_game f.1) e

    in_stage_path : (p : Names) (o : Option Row) → row_staged rows p ≡ o → at_row choice a (stage_move n) o ≡ Some v → SetCase choice a rows n (in_stage p) v
    in_stage_path p None is e = absurd (cc)
    in_stage_path p (Some r) is e = let f = row_staged-some rows p r is in at_stage r f.0 (ap in_stage f.1) e

    by_root : (root : Root) (p : Names) → set_of choice a rows n root p ≡ Some v → SetCase choice a rows n (record { root = root; names = p }) v
    by_root Stage p e = in_stage_path p (row_staged rows p) refl e
    by_root Game p e = in_game_path p (row_at rows p) refl e
    by_root Keep p e = absurd (cc)

module _ (choice : Choice) (a : Disk) (old : Manifest) (n : ℕ) (can : CanSettle choice a old n) where
  pub game_set : (r : Row) → Contains old.rows r → (settle_moves choice a old.rows n).sets (game_spot r.path) ≡ game_move a n r (deed_of choice a r)
  game_set r c = ap (at_row choice a (game_move a n)) (at_path choice a old n can r c)

  pub stage_set : (r : Row) → Contains old.rows r → (settle_moves choice a old.rows n).sets (staged_of r) ≡ stage_move n r (deed_of choice a r)
  stage_set r c = ap (at_row choice a (stage_move n)) (at_staged choice a old n can r c)

  -- a backup's path has no row
  pub behind_row : (t : List ℕ) (o : Option Row) → row_at old.rows (backup_names (names_of t)) ≡ o → o ≡ None
  behind_row t None e = refl
  behind_row t (Some r) e = let f = row-some old.rows (backup_names (names_of t)) r e in absurd (good-not_backup r.path t (free_path choice a old n can r f.0) (sym f.1))

  pub behind_unset : (t : List ℕ) → (settle_moves choice a old.rows n).sets (backup_spot t) ≡ None
  behind_unset t = ap (at_row choice a (game_move a n)) (behind_row t (row_at old.rows (backup_names (names_of t))) refl)
