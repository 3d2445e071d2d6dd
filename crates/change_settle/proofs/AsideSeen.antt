-- What a settlement leaves below the aside folder.
use Rattle.std.proofs.Common.{◌≡◌, ◌≢◌, ℕ, Bool, true, false, if◌then◌else◌, [], ◌∷◌, refl, sym, ap, ◌∙◌}
use Rattle.std.specs.List.{Contains}
use Rattle.std.specs.declared.option.Option.{Option}
use Rattle.std.specs.declared.option.Option.TheVariants.{None, Some}
use Rattle.tree_fs.specs.declared.place.Root.{Root}
use Rattle.tree_fs.specs.declared.place.Root.TheVariants.{Stage, Game, Keep}
use Rattle.tree_fs.specs.Spot.{Spot}
use Rattle.tree_fs.specs.Places.{game_spot}
use Rattle.tree_fs.specs.Disk.{Disk, Value, none}
use Rattle.backup_keep.specs.Places.{aside_spot, backup_spot}
use Rattle.backup_keep.specs.Asides.{IsNextAside}
use Rattle.backup_keep.specs.Origins.{origin_of}
use Rattle.backup_keep.proofs.Kept.{origin_of-aside, aside-origin_of}
use Rattle.manifest_json.specs.declared.manifest.Row.{Row}
use Rattle.manifest_json.specs.declared.manifest.Manifest.{Manifest}
use Rattle.change_detect.specs.Classes.{staged_of}
use Rattle.move_plan.specs.declared.plan.Plan.{Plan}
use Rattle.desk_model.specs.Places.{Names, in_game, in_stage, in_aside, manifest_spot}
use Rattle.desk_model.specs.Desk.{without_manifest, aside_of, file_or_none}
use Rattle.desk_model.specs.Records.{row_at, row_staged}
use Rattle.desk_model.specs.Outcome.{own_or, updated}
use Rattle.desk_model.specs.Settled.{Choice, Deed, left_whole, put_aside, imported, reverted, accepted, linked_again, staged_again, let_go, dropped, deed_of, sets_found_aside, sets_staged_aside, set_aside, kept_of, settled_aside}
use Rattle.desk_model.proofs.Sourced.{row_staged-some}
use Rattle.plan_model.specs.Rows.{old_of, has_original}
use Rattle.plan_model.specs.Moves.{Moves, LaidOut}
use Rattle.plan_model.proofs.Values.{its_file, off_manifest}
use Rattle.plan_model.proofs.Moved.{moved-clear, moved-save, moved-else}
use Rattle.plan_model.proofs.Firsts.{row-some}
use Rattle.purge_run.proofs.Premises.{AsideReady}
use Rattle.purge_run.proofs.Held.{next_once}
use Rattle.change_settle.specs.Deeds.{saved_spot, cleared_spot, settle_moves}
use Rattle.change_settle.specs.Plans.{CanSettle}
use Rattle.change_settle.proofs.Premises.{at_path, at_staged}
use Rattle.change_settle.proofs.RowPlaces.{RowPlace, in_mod}
use Rattle.change_settle.proofs.RowPlaces.{in_game as in_game_place}
use Rattle.change_settle.proofs.Saved.{ready, origin, aside_none}

module _ (choice : Choice) (a : Disk) (n : ℕ) (can : CanSettle choice a (old_of a) n) (plan : Plan) (laid : LaidOut (settle_moves choice a (old_of a).rows n) plan) where
  abbrev old : Manifest
  old = old_of a

  abbrev m : Moves
  m = settle_moves choice a old.rows n

  abbrev now : Spot → Value
  now = updated plan a.now

  -- a clear below the aside folder is the place of a file that is given up
  record GivenUp (x : Spot) : Type 0 where
    row : Row
    listed : Contains old.rows row
    deed : deed_of choice a row ≡ reverted
    here : aside_spot n (game_spot row.path) ≡ x

  given_up : (x : Spot) → x.root ≡ Keep → m.clears x → GivenUp x
  given_up x root h = by_deed (deed_of choice a h.row) refl h.cleared
    where
      of_some : (y : Spot) → Some y ≡ Some x → y ≡ x
      of_some y e = cc

      by_original : (b : Bool) → (if b then Some (backup_spot h.row.path) else None) ≡ Some x → GivenUp x
      by_original true e = let k : Game ≡ Keep = ap (λ (s : Spot). s.root) (of_some (backup_spot h.row.path) e) ∙ root in absurd (cc)
      by_original false e = absurd (cc)

      by_deed : (d : Deed) → deed_of choice a h.row ≡ d → cleared_spot a n h.row d ≡ Some x → GivenUp x
      by_deed reverted is e = record { row = h.row; listed = h.listed; deed = is; here = of_some (aside_spot n (game_spot h.row.path)) e }
      by_deed let_go is e = by_original (has_original a h.row) e
      by_deed dropped is e = by_original (has_original a h.row) e
      by_deed left_whole is e = absurd (cc)
      by_deed put_aside is e = absurd (cc)
      by_deed imported is e = absurd (cc)
      by_deed accepted is e = absurd (cc)
      by_deed linked_again is e = absurd (cc)
      by_deed staged_again is e = absurd (cc)

  module _ (number : ℕ) (next : IsNextAside a number) (p : Names) where
    abbrev x : Spot
    x = in_aside p

    -- a save to this place is named after where it comes from
    named : (y : Spot) → m.saves y x → origin_of number x ≡ Some y
    named y h =
        let same = next_once a number n next (ready choice a old n can h.row y h.listed h.saved).next in
        ap (λ k. origin_of k x) same ∙ ap (origin_of n) (sym h.here) ∙ origin_of-aside n y

    -- and so is a place that is cleared here
    cleared_save : (g : GivenUp x) → m.saves (game_spot g.row.path) x
    cleared_save g = record { row = g.row; listed = g.listed; saved = ap (saved_spot g.row) g.deed; here = g.here }

    unnamed_kept : ((y : Spot) → ¬ m.saves y x) → ¬ m.clears x
    unnamed_kept unsaved h = let g = given_up x refl h in unsaved (game_spot g.row.path) (cleared_save g)

    untouched : ((y : Spot) → ¬ m.saves y x) → now x ≡ a.now x
    untouched unsaved = moved-else m plan laid a.now x refl (unnamed_kept unsaved) unsaved

    -- the place where the file of a row is set aside
    module _ (r : Row) (y : Spot) (c : Contains old.rows r) (saved : saved_spot r (deed_of choice a r) ≡ Some y) (from : origin_of number x ≡ Some y) where
      is_ready : AsideReady a n
      is_ready = ready choice a old n can r y c saved

      here : aside_spot n y ≡ x
      here = sym (aside-origin_of n x y (ap (λ k. origin_of k x) (sym (next_once a number n next is_ready.next)) ∙ from))

      empty : a.now x ≡ none
      empty = ap a.now (sym here) ∙ aside_none choice a old n can y is_ready

      the_save : m.saves y x
      the_save = record { row = r; listed = c; saved = saved; here = here }

      only : (z : Spot) → m.saves z x → z ≡ y
      only z h = let t : Some z ≡ Some y = sym (named z h) ∙ from in cc

      -- it gets the file, unless it is given up
      gets : ¬ m.clears x → now x ≡ a.now y
      gets kept =
          moved-save m plan laid a.now x y refl kept the_save only
          ∙ ap (λ v. own_or v (file_or_none (a.now y))) empty
          ∙ its_file (a.now y) (origin choice a old n can r y c saved).file

      loses : m.clears x → now x ≡ a.now x
      loses cleared = moved-clear m plan laid a.now x cleared ∙ sym empty

    -- what is cleared here is a file of the game folder that is given up
    cleared_row : m.clears x → (r : Row) (y : Spot) → Contains old.rows r → origin_of number x ≡ Some y → (game_spot r.path ≡ y) → deed_of choice a r ≡ reverted
    cleared_row h r y c from is =
        let g = given_up x refl h in
        let t : Some (game_spot g.row.path) ≡ Some y = sym (named (game_spot g.row.path) (cleared_save g)) ∙ from in
        let s : game_spot g.row.path ≡ game_spot r.path = (let u : game_spot g.row.path ≡ y = cc in u) ∙ sym is in
        let rows : Some g.row ≡ Some r = sym (at_path choice a old n can g.row g.listed) ∙ ap (λ (z : Spot). row_at old.rows z.names) s ∙ at_path choice a old n can r c in
        let row : g.row ≡ r = cc in
        ap (deed_of choice a) (sym row) ∙ g.deed

    stage_kept : (q : Names) → origin_of number x ≡ Some (in_stage q) → ¬ m.clears x
    stage_kept q from h =
        let g = given_up x refl h in
        let t : Some (game_spot g.row.path) ≡ Some (in_stage q) = sym (named (game_spot g.row.path) (cleared_save g)) ∙ from in
        let s : game_spot g.row.path ≡ in_stage q = cc in
        let root : Game ≡ Stage = ap (λ (z : Spot). z.root) s in cc

    -- a save from this place is that of its row
    game_saved : (q : Names) (y : Spot) → origin_of number x ≡ Some (in_game q) → m.saves y x → (r : Row) × (row_at old.rows q ≡ Some r) × (saved_spot r (deed_of choice a r) ≡ Some (game_spot r.path))
    game_saved q y from h =
        let t : Some y ≡ Some (in_game q) = sym (named y h) ∙ from in
        let s : y ≡ in_game q = cc in
        by_deed (deed_of choice a h.row) refl (h.saved ∙ ap Some s)
      where
        found : saved_spot h.row (deed_of choice a h.row) ≡ Some (game_spot h.row.path) → game_spot h.row.path ≡ in_game q → (r : Row) × (row_at old.rows q ≡ Some r) × (saved_spot r (deed_of choice a r) ≡ Some (game_spot r.path))
        found e is = (h.row, ap (λ (z : Spot). row_at old.rows z.names) (sym is) ∙ at_path choice a old n can h.row h.listed, e)

        of_some : (z w : Spot) → Some z ≡ Some w → z ≡ w
        of_some z w e = cc

        by_deed : (d : Deed) → deed_of choice a h.row ≡ d → saved_spot h.row (deed_of choice a h.row) ≡ Some (in_game q) → (r : Row) × (row_at old.rows q ≡ Some r) × (saved_spot r (deed_of choice a r) ≡ Some (game_spot r.path))
        by_deed put_aside is e = let k = ap (saved_spot h.row) is in found k (of_some (game_spot h.row.path) (in_game q) (sym k ∙ e))
        by_deed reverted is e = let k = ap (saved_spot h.row) is in found k (of_some (game_spot h.row.path) (in_game q) (sym k ∙ e))
        by_deed let_go is e = let k = ap (saved_spot h.row) is in found k (of_some (game_spot h.row.path) (in_game q) (sym k ∙ e))
        by_deed imported is e = let k : staged_of h.row ≡ in_game q = of_some (staged_of h.row) (in_game q) (sym (ap (saved_spot h.row) is) ∙ e) in let root : Stage ≡ Game = ap (λ (z : Spot). z.root) k in absurd (cc)
        by_deed left_whole is e = let k : None ≡ Some (in_game q) = sym (ap (saved_spot h.row) is) ∙ e in absurd (cc)
        by_deed accepted is e = let k : None ≡ Some (in_game q) = sym (ap (saved_spot h.row) is) ∙ e in absurd (cc)
        by_deed linked_again is e = let k : None ≡ Some (in_game q) = sym (ap (saved_spot h.row) is) ∙ e in absurd (cc)
        by_deed staged_again is e = let k : None ≡ Some (in_game q) = sym (ap (saved_spot h.row) is) ∙ e in absurd (cc)
        by_deed dropped is e = let k : None ≡ Some (in_game q) = sym (ap (saved_spot h.row) is) ∙ e in absurd (cc)

    stage_saved : (q : Names) (y : Spot) → origin_of number x ≡ Some (in_stage q) → m.saves y x → (r : Row) × (row_staged old.rows q ≡ Some r) × (deed_of choice a r ≡ imported)
    stage_saved q y from h =
        let t : Some y ≡ Some (in_stage q) = sym (named y h) ∙ from in
        let s : y ≡ in_stage q = cc in
        by_deed (deed_of choice a h.row) refl (h.saved ∙ ap Some s)
      where
        not_stage : game_spot h.row.path ≡ in_stage q → ⊥
        not_stage e = let root : Game ≡ Stage = ap (λ (z : Spot). z.root) e in cc

        of_some : (z w : Spot) → Some z ≡ Some w → z ≡ w
        of_some z w e = cc

        by_deed : (d : Deed) → deed_of choice a h.row ≡ d → saved_spot h.row (deed_of choice a h.row) ≡ Some (in_stage q) → (r : Row) × (row_staged old.rows q ≡ Some r) × (deed_of choice a r ≡ imported)
        by_deed imported is e =
            let k : staged_of h.row ≡ in_stage q = of_some (staged_of h.row) (in_stage q) (sym (ap (saved_spot h.row) is) ∙ e) in
            (h.row, ap (λ (z : Spot). row_staged old.rows z.names) (sym k) ∙ at_staged choice a old n can h.row h.listed, is)
        by_deed put_aside is e = absurd (not_stage (of_some (game_spot h.row.path) (in_stage q) (sym (ap (saved_spot h.row) is) ∙ e)))
        by_deed reverted is e = absurd (not_stage (of_some (game_spot h.row.path) (in_stage q) (sym (ap (saved_spot h.row) is) ∙ e)))
        by_deed let_go is e = absurd (not_stage (of_some (game_spot h.row.path) (in_stage q) (sym (ap (saved_spot h.row) is) ∙ e)))
        by_deed left_whole is e = let k : None ≡ Some (in_stage q) = sym (ap (saved_spot h.row) is) ∙ e in absurd (cc)
        by_deed accepted is e = let k : None ≡ Some (in_stage q) = sym (ap (saved_spot h.row) is) ∙ e in absurd (cc)
        by_deed linked_again is e = let k : None ≡ Some (in_stage q) = sym (ap (saved_spot h.row) is) ∙ e in absurd (cc)
        by_deed staged_again is e = let k : None ≡ Some (in_stage q) = sym (ap (saved_spot h.row) is) ∙ e in absurd (cc)
        by_deed dropped is e = let k : None ≡ Some (in_stage q) = sym (ap (saved_spot h.row) is) ∙ e in absurd (cc)

    -- by the row of the origin
    game_row : (q : Names) (o : Option Row) → origin_of number x ≡ Some (in_game q) → row_at old.rows q ≡ o → now x ≡ set_aside a (λ r. sets_found_aside (deed_of choice a r)) (in_game q) (a.now x) o
    game_row q None from e = untouched (λ y h. let f = game_saved q y from h in let t : None ≡ Some f.0 = sym e ∙ f.1 in cc)
    game_row q (Some r) from e = by_deed (deed_of choice a r) refl
      where
        c : Contains old.rows r
        c = (row-some old.rows q r e).0

        place : game_spot r.path ≡ in_game q
        place = ap in_game (row-some old.rows q r e).1

        its_origin : origin_of number x ≡ Some (game_spot r.path)
        its_origin = from ∙ ap Some (sym place)

        goes : (d : Deed) → deed_of choice a r ≡ d → saved_spot r d ≡ Some (game_spot r.path) → d ≢ reverted → now x ≡ a.now (in_game q)
        goes d is saved other =
            gets r (game_spot r.path) c (ap (saved_spot r) is ∙ saved) its_origin (λ h. other (sym is ∙ cleared_row h r (in_game q) c from place)) ∙ ap a.now place

        stays : (d : Deed) → deed_of choice a r ≡ d → saved_spot r d ≢ Some (game_spot r.path) → now x ≡ a.now x
        stays d is other = untouched (λ y h.
            let f = game_saved q y from h in
            let t : Some r ≡ Some f.0 = sym e ∙ f.1 in
            let row : r ≡ f.0 = cc in
            other (ap (saved_spot r) (sym is) ∙ ap (λ s. saved_spot s (deed_of choice a s)) row ∙ f.2 ∙ ap (λ (s : Row). Some (game_spot s.path)) (sym row)))

        given : deed_of choice a r ≡ reverted → now x ≡ a.now x
        given is = loses r (game_spot r.path) c (ap (saved_spot r) is) its_origin (record {
          row = r;
          listed = c;
          cleared = ap (cleared_spot a n r) is ∙ ap Some (here r (game_spot r.path) c (ap (saved_spot r) is) its_origin);
        })

        by_deed : (d : Deed) → deed_of choice a r ≡ d → now x ≡ (if sets_found_aside (deed_of choice a r) then a.now (in_game q) else a.now x)
        by_deed put_aside is = goes put_aside is refl (λ k. cc) ∙ sym (ap (λ d. if sets_found_aside d then a.now (in_game q) else a.now x) is)
        by_deed let_go is = goes let_go is refl (λ k. cc) ∙ sym (ap (λ d. if sets_found_aside d then a.now (in_game q) else a.now x) is)
        by_deed reverted is = given is ∙ sym (ap (λ d. if sets_found_aside d then a.now (in_game q) else a.now x) is)
        by_deed imported is = stays imported is (λ k. let t : staged_of r ≡ game_spot r.path = cc in let root : Stage ≡ Game = ap (λ (z : Spot). z.root) t in cc) ∙ sym (ap (λ d. if sets_found_aside d then a.now (in_game q) else a.now x) is)
        by_deed left_whole is = stays left_whole is (λ k. cc) ∙ sym (ap (λ d. if sets_found_aside d then a.now (in_game q) else a.now x) is)
        by_deed accepted is = stays accepted is (λ k. cc) ∙ sym (ap (λ d. if sets_found_aside d then a.now (in_game q) else a.now x) is)
        by_deed linked_again is = stays linked_again is (λ k. cc) ∙ sym (ap (λ d. if sets_found_aside d then a.now (in_game q) else a.now x) is)
        by_deed staged_again is = stays staged_again is (λ k. cc) ∙ sym (ap (λ d. if sets_found_aside d then a.now (in_game q) else a.now x) is)
        by_deed dropped is = stays dropped is (λ k. cc) ∙ sym (ap (λ d. if sets_found_aside d then a.now (in_game q) else a.now x) is)

    stage_row : (q : Names) (o : Option Row) → origin_of number x ≡ Some (in_stage q) → row_staged old.rows q ≡ o → now x ≡ set_aside a (λ r. sets_staged_aside (deed_of choice a r)) (in_stage q) (a.now x) o
    stage_row q None from e = untouched (λ y h. let f = stage_saved q y from h in let t : None ≡ Some f.0 = sym e ∙ f.1 in cc)
    stage_row q (Some r) from e = by_deed (deed_of choice a r) refl
      where
        c : Contains old.rows r
        c = (row_staged-some old.rows q r e).0

        place : staged_of r ≡ in_stage q
        place = ap in_stage (row_staged-some old.rows q r e).1

        stays : (d : Deed) → deed_of choice a r ≡ d → d ≢ imported → now x ≡ a.now x
        stays d is other = untouched (λ y h.
            let f = stage_saved q y from h in
            let t : Some r ≡ Some f.0 = sym e ∙ f.1 in
            let row : r ≡ f.0 = cc in
            other (sym is ∙ ap (deed_of choice a) row ∙ f.2))

        by_deed : (d : Deed) → deed_of choice a r ≡ d → now x ≡ (if sets_staged_aside (deed_of choice a r) then a.now (in_stage q) else a.now x)
        by_deed imported is =
            gets r (staged_of r) c (ap (saved_spot r) is) (from ∙ ap Some (sym place)) (stage_kept q from) ∙ ap a.now place
            ∙ sym (ap (λ d. if sets_staged_aside d then a.now (in_stage q) else a.now x) is)
        by_deed put_aside is = stays put_aside is (λ k. cc) ∙ sym (ap (λ d. if sets_staged_aside d then a.now (in_stage q) else a.now x) is)
        by_deed let_go is = stays let_go is (λ k. cc) ∙ sym (ap (λ d. if sets_staged_aside d then a.now (in_stage q) else a.now x) is)
        by_deed reverted is = stays reverted is (λ k. cc) ∙ sym (ap (λ d. if sets_staged_aside d then a.now (in_stage q) else a.now x) is)
        by_deed left_whole is = stays left_whole is (λ k. cc) ∙ sym (ap (λ d. if sets_staged_aside d then a.now (in_stage q) else a.now x) is)
        by_deed accepted is = stays accepted is (λ k. cc) ∙ sym (ap (λ d. if sets_staged_aside d then a.now (in_stage q) else a.now x) is)
        by_deed linked_again is = stays linked_again is (λ k. cc) ∙ sym (ap (λ d. if sets_staged_aside d then a.now (in_stage q) else a.now x) is)
        by_deed staged_again is = stays staged_again is (λ k. cc) ∙ sym (ap (λ d. if sets_staged_aside d then a.now (in_stage q) else a.now x) is)
        by_deed dropped is = stays dropped is (λ k. cc) ∙ sym (ap (λ d. if sets_staged_aside d then a.now (in_stage q) else a.now x) is)

    users_only : (y : Spot) → m.saves y x → (y.root ≡ Keep) → ⊥
    users_only y h root = by_place (origin choice a old n can h.row y h.listed h.saved).place
      where
        by_place : RowPlace old.rows y → ⊥
        by_place (in_game_place r c e) = let k : Game ≡ Keep = ap (λ (z : Spot). z.root) e ∙ root in cc
        by_place (in_mod r c e) = let k : Stage ≡ Keep = ap (λ (z : Spot). z.root) e ∙ root in cc

    by_root : (root : Root) (q : Names) → origin_of number x ≡ Some (record { root = root; names = q }) → now x ≡ kept_of choice a (a.now x) root q
    by_root Game q e = game_row q (row_at old.rows q) e refl
    by_root Stage q e = stage_row q (row_staged old.rows q) e refl
    by_root Keep q e = untouched (λ y h.
        let t : Some y ≡ Some (record { root = Keep; names = q }) = sym (named y h) ∙ e in
        let s : y ≡ record { root = Keep; names = q } = cc in
        users_only y h (ap (λ (z : Spot). z.root) s))

    by_origin : (o : Option Spot) → origin_of number x ≡ o → now x ≡ settled_aside choice a (a.now x) o
    by_origin None e = untouched (λ y h. let t : None ≡ Some y = sym e ∙ named y h in cc)
    by_origin (Some y) e = by_root y.root y.names e

    not_the_manifest : x ≢ manifest_spot
    not_the_manifest e = let t : Keep ≡ Game = ap (λ (s : Spot). s.root) e in cc

    seen_aside : without_manifest now x ≡ settled_aside choice a (without_manifest a.now x) (origin_of number x)
    seen_aside = off_manifest now x not_the_manifest ∙ by_origin (origin_of number x) refl ∙ ap (λ v. settled_aside choice a v (origin_of number x)) (sym (off_manifest a.now x not_the_manifest))

  pub aside_seen : (number : ℕ) → IsNextAside a number → (p : Names) → aside_of (without_manifest now) p ≡ settled_aside choice a (aside_of (without_manifest a.now) p) (origin_of number (in_aside p))
  aside_seen number next [] = refl
  aside_seen number next (k ∷ ks) = seen_aside number next (k ∷ ks)
