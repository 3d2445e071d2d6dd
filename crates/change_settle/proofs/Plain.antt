-- A settlement keeps the plain game folder.
use Rattle.std.proofs.Common.{◌≡◌, if◌then◌else◌, ℕ, List, refl, sym, ap, ◌∙◌, subst}
use Rattle.std.specs.List.{Contains}
use Rattle.std.specs.declared.option.Option.{Option}
use Rattle.std.specs.declared.option.Option.TheVariants.{None, Some}
use Rattle.rel_paths.specs.Names.{names_of, backup_names, IsFreePath}
use Rattle.rel_paths.proofs.Truths.{both}
use Rattle.tree_fs.specs.declared.place.Root.TheVariants.{Game, Keep}
use Rattle.tree_fs.specs.Spot.{Spot}
use Rattle.tree_fs.specs.Places.{game_spot}
use Rattle.tree_fs.specs.Disk.{Disk, Value, none}
use Rattle.backup_keep.specs.Places.{backup_spot}
use Rattle.manifest_json.specs.declared.manifest.Row.{Row}
use Rattle.manifest_json.specs.declared.manifest.Manifest.{Manifest}
use Rattle.move_plan.specs.declared.plan.Plan.{Plan}
use Rattle.desk_model.specs.Places.{Names, in_game}
use Rattle.desk_model.specs.Desk.{without_manifest, plain, plain_by, file_or_none, is_file}
use Rattle.desk_model.specs.Records.{row_at, row_behind}
use Rattle.desk_model.specs.Outcome.{updated}
use Rattle.desk_model.specs.Settled.{Choice}
use Rattle.desk_model.proofs.Agreeing.{without-agree}
use Rattle.plan_model.specs.Moves.{Moves, LaidOut}
use Rattle.plan_model.proofs.Values.{off_manifest}
use Rattle.plan_model.proofs.Moved.{moved-else}
use Rattle.plan_model.proofs.Firsts.{IsBehind, behind-some, behind-none, row-some}
use Rattle.plan_model.proofs.Paths.{good-not_backup, good-off, backup-off, not_manifest}
use Rattle.change_settle.specs.Deeds.{at_row, game_move, settle_moves, next_row, next_rows}
use Rattle.change_settle.specs.Plans.{CanSettle}
use Rattle.change_settle.proofs.Premises.{at_path, free_path}
use Rattle.change_settle.proofs.Stands.{Cleared, given_up, gone_back, clears_cleared}
use Rattle.change_settle.proofs.NextRows.{next_at, next_from, next_made, next_renews}
use Rattle.change_settle.proofs.Kept.{users_unsaved, original_of, leaves, given_back, behind_kept, behind_empty}

pub seen_here : (t : List ℕ) (f : Spot → Value) → IsFreePath t → without_manifest f (game_spot t) ≡ f (game_spot t)
seen_here t f good = off_manifest f (game_spot t) (not_manifest (names_of t) (good-off t good))

pub seen_behind : (t : List ℕ) (f : Spot → Value) → IsFreePath t → without_manifest f (backup_spot t) ≡ f (backup_spot t)
seen_behind t f good = off_manifest f (backup_spot t) (not_manifest (backup_names (names_of t)) (backup-off t good))

module _ (choice : Choice) (a : Disk) (old : Manifest) (n : ℕ) (can : CanSettle choice a old n) (plan : Plan) (laid : LaidOut (settle_moves choice a old.rows n) plan) where
  abbrev m : Moves
  m = settle_moves choice a old.rows n

  abbrev now : Spot → Value
  now = updated plan a.now

  abbrev news : List Row
  news = next_rows choice a old.rows

  -- a free path is no backup
  unbehind : (rows : List Row) (t : List ℕ) → IsFreePath t → (o : Option Row) → row_behind rows (names_of t) ≡ o → o ≡ None
  unbehind rows t good None e = refl
  unbehind rows t good (Some r) e = absurd (good-not_backup t r.path good (behind-some rows (names_of t) r e).here)

  -- The path of a row

  module _ (r : Row) (c : Contains old.rows r) where
    abbrev p : Names
    p = names_of r.path

    good : IsFreePath r.path
    good = free_path choice a old n can r c

    was : plain old.rows (without_manifest a.now) p ≡ original_of choice a old n can plan laid r
    unfolding plain
    was = λ i. plain_by (at_path choice a old n can r c i) (row_behind old.rows p) (without_manifest a.now (game_spot r.path)) (seen_behind r.path a.now good i)

    row_now : (o : Option Row) → next_row choice a r ≡ o → plain_by o None (now (game_spot r.path)) (now (backup_spot r.path)) ≡ original_of choice a old n can plan laid r
    row_now None e = given_back choice a old n can plan laid r c (leaves choice a old n can plan laid r e)
    row_now (Some made) e = λ i. if (next_renews choice a r made e).shadowed i then file_or_none (behind_kept choice a old n can plan laid r made c e i) else none

    managed : plain news (without_manifest now) p ≡ plain old.rows (without_manifest a.now) p
    unfolding plain
    managed =
        (λ i. plain_by (next_at choice a old.rows can.rows p (Some r) (at_path choice a old n can r c) i) (unbehind news r.path good (row_behind news p) refl i) (seen_here r.path now good i) (seen_behind r.path now good i))
        ∙ row_now (next_row choice a r) refl ∙ sym was

  -- A path without a row

  module _ (q : Names) (unrowed : row_at old.rows q ≡ None) where
    abbrev seen : (Spot → Value) → Value
    seen f = without_manifest f (in_game q)

    -- the backup of a shadowed row that goes is empty
    gone : (r : Row) → IsBehind old.rows q r → next_row choice a r ≡ None → seen now ≡ none
    gone r behind e =
        let good = free_path choice a old n can r behind.listed in
        ap (λ x. without_manifest now (in_game x)) (sym behind.here) ∙ seen_behind r.path now good
        ∙ behind_empty choice a old n can plan laid r behind.listed (leaves choice a old n can plan laid r e) behind.shadowed

    still_behind : (r made : Row) → IsBehind old.rows q r → next_row choice a r ≡ Some made → IsBehind news q made
    still_behind r made behind e = let h = next_renews choice a r made e in record {
      listed = next_made choice a old.rows r made behind.listed e;
      shadowed = h.shadowed ∙ behind.shadowed;
      here = ap (λ t. backup_names (names_of t)) h.path ∙ behind.here;
    }

    was_behind : (made : Row) → IsBehind news q made → (r : Row) × IsBehind old.rows q r
    was_behind made behind =
        let f = next_from choice a old.rows made behind.listed in
        let h = next_renews choice a f.0 made f.2 in
        (f.0, record { listed = f.1; shadowed = sym h.shadowed ∙ behind.shadowed; here = ap (λ t. backup_names (names_of t)) (sym h.path) ∙ behind.here })

    hidden : (r : Row) → IsBehind old.rows q r → (o : Option Row) → next_row choice a r ≡ o → (s : Option Row) → row_behind news q ≡ s → (y : Value) → plain_by None s (seen now) y ≡ none
    hidden r behind o e (Some s) f y = refl
    hidden r behind None e None f y = gone r behind e
    hidden r behind (Some made) e None f y = absurd (behind-none news q made f (still_behind r made behind e))

    left_alone : row_behind old.rows q ≡ None → seen now ≡ seen a.now
    left_alone unbehind = without-agree now a.now (in_game q) (λ ne. moved-else m plan laid a.now (in_game q) (ap (at_row choice a (game_move a n)) unrowed) kept (λ y. users_unsaved choice a old n can plan laid (in_game q) y (λ e. cc)))
      where
        kept : m.clears (in_game q) → ⊥
        kept h = by_cleared (clears_cleared choice a old n can (in_game q) h)
          where
            by_cleared : Cleared choice a old n can (in_game q) → ⊥
            by_cleared (given_up r c e here) = let k : Keep ≡ Game = ap (λ (s : Spot). s.root) here in cc
            by_cleared (gone_back r c t o here) = behind-none old.rows q r unbehind (record { listed = c; shadowed = (both r.shadowed (is_file (a.now (backup_spot r.path))) o).0; here = ap (λ (s : Spot). s.names) here })

    by_behind : (o s : Option Row) → row_behind old.rows q ≡ o → row_behind news q ≡ s → (y z : Value) → plain_by None s (seen now) y ≡ plain_by None o (seen a.now) z
    by_behind (Some r) s e f y z = hidden r (behind-some old.rows q r e) (next_row choice a r) refl s f y
    by_behind None (Some s) e f y z = let h = was_behind s (behind-some news q s f) in absurd (behind-none old.rows q h.0 e h.1)
    by_behind None None e f y z = left_alone e

    unmanaged : plain news (without_manifest now) q ≡ plain old.rows (without_manifest a.now) q
    unfolding plain
    unmanaged =
        (λ i. plain_by (next_at choice a old.rows can.rows q None unrowed i) (row_behind news q) (seen now) (without_manifest now (in_game (backup_names q))))
        ∙ by_behind (row_behind old.rows q) (row_behind news q) refl refl _ _
        ∙ sym (λ i. plain_by (unrowed i) (row_behind old.rows q) (seen a.now) (without_manifest a.now (in_game (backup_names q))))

  -- the plain game folder stays
  pub plain_same : (p : Names) → plain news (without_manifest now) p ≡ plain old.rows (without_manifest a.now) p
  plain_same p = by_row (row_at old.rows p) refl
    where
      by_row : (o : Option Row) → row_at old.rows p ≡ o → plain news (without_manifest now) p ≡ plain old.rows (without_manifest a.now) p
      by_row None e = unmanaged p e
      by_row (Some r) e = let f = row-some old.rows p r e in subst (λ q. plain news (without_manifest now) q ≡ plain old.rows (without_manifest a.now) q) f.1 (managed r f.0)
