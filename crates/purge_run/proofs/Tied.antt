-- The own folders of a purge, by the paths where originals come and those where no file is left.
use Rattle.std.proofs.Common.{◌≡◌, ◌≢◌, ◌⊎◌, ◌↔◌, ℕ, Bool, true, false, List, map, refl, sym, ap, ◌∙◌, subst, inl, inr}
use Rattle.std.specs.List.{Contains}
use Rattle.std.specs.declared.option.Option.{Option}
use Rattle.std.specs.declared.option.Option.TheVariants.{None, Some}
use Rattle.list_laws.proofs.Containing.{map_contains}
use Rattle.rel_paths.specs.Names.{names_of}
use Rattle.tree_fs.specs.declared.name.Kind.{Kind}
use Rattle.tree_fs.specs.declared.name.Kind.TheVariants.{Absent, File, Folder, Other}
use Rattle.tree_fs.specs.declared.place.Root.TheVariants.{Game, Keep}
use Rattle.tree_fs.specs.Spot.{Spot, below, IsBelow}
use Rattle.tree_fs.specs.Places.{game_spot}
use Rattle.tree_fs.specs.Disk.{Disk, Value, none, kind_of}
use Rattle.tree_fs.specs.Calls.{IsFolder}
use Rattle.tree_fs.proofs.Below.{below-entry}
use Rattle.tree_fs.proofs.KindOf.{kind-absent, kind-file, kind-folder, folder-kind, absent-kind}
use Rattle.manifest_json.specs.declared.manifest.Row.{Row}
use Rattle.manifest_json.specs.declared.manifest.Manifest.{Manifest}
use Rattle.move_plan.specs.declared.plan.Plan.{Plan}
use Rattle.desk_model.specs.Places.{Names, in_game}
use Rattle.desk_model.specs.Records.{row_at}
use Rattle.desk_model.specs.Outcome.{is_one_of, updated}
use Rattle.desk_model.proofs.Lookups.{one_of-false, one_of-true}
use Rattle.plan_model.specs.Rows.{has_original}
use Rattle.plan_model.specs.Moves.{Moves, LaidOut}
use Rattle.plan_model.specs.Folders.{IsMade, GoesOff, EntriesGo}
use Rattle.plan_model.proofs.Firsts.{row-some}
use Rattle.plan_model.proofs.GoesBy.{goes_entries, entries_goes}
use Rattle.plan_model.proofs.Moved.{moved-clear, moved-else}
use Rattle.plan_model.proofs.Paths.{above_backup}
use Rattle.plan_model.proofs.Rows.{below-extends}
use Rattle.plan_model.proofs.Values.{HasFile, file_some, has_file}
use Rattle.winner_table.specs.Folders.{IsFolderOf}
use Rattle.plan_lists.specs.Off.{EntryGoes, absent, given_up, folder, GoesByOwn}
use Rattle.plan_lists.proofs.Leaving.{placed}
use Rattle.plan_lists.proofs.Lies.{extends-lies}
use Rattle.purge_run.specs.Holds.{purge_set, FreesOriginal, purge_moves}
use Rattle.purge_run.specs.Plans.{CanPurge}
use Rattle.purge_run.proofs.Held.{hold_none, game_unsaved}
use Rattle.purge_run.proofs.Gets.{only_own_goes}
use Rattle.purge_run.proofs.Here.{restored_now, emptied_now}
use Rattle.purge_run.proofs.Made.{made-missing}
use Rattle.purge_run.proofs.Premises.{row_place}

-- the game place of a row whose original is kept
pub record RestoredAt (a : Disk) (rows : List Row) (x : Spot) : Type 0 where
  pub row : Row
  pub listed : Contains rows row
  pub original : has_original a row ≡ true
  pub here : game_spot row.path ≡ x

-- that of a row whose original isn't, where there is a file
pub record EmptiedAt (a : Disk) (rows : List Row) (x : Spot) : Type 0 where
  pub row : Row
  pub listed : Contains rows row
  pub original : has_original a row ≡ false
  pub stood : HasFile (a.now (game_spot row.path))
  pub here : game_spot row.path ≡ x

module _ (a : Disk) (old : Manifest) (n : ℕ) (can : CanPurge a old n) (plan : Plan) (laid : LaidOut (purge_moves a old.rows n) plan) where
  abbrev m : Moves
  m = purge_moves a old.rows n

  abbrev now : Spot → Value
  now = updated plan a.now

  -- what a purge does at a place in the game folder
  data Acts (x : Spot) : Type 0 where
    frees : FreesOriginal a old.rows x → now x ≡ none → Acts x
    at_row : (r : Row) → Contains old.rows r → game_spot r.path ≡ x → Acts x
    stays : now x ≡ a.now x → Acts x

  acts : (p : Names) → Acts (in_game p)
  acts p = by_row (row_at old.rows p) refl
    where
      by_clear : (b : Bool) → row_at old.rows p ≡ None → is_one_of plan.clears (in_game p) ≡ b → Acts (in_game p)
      by_clear true is e = let f = (laid.clears (in_game p)).0 (one_of-true plan.clears (in_game p) e) in frees f (moved-clear m plan laid a.now (in_game p) f)
      by_clear false is e =
          stays (moved-else m plan laid a.now (in_game p) (ap (purge_set a n) (hold_none a old n can p is)) (λ f. one_of-false plan.clears (in_game p) e ((laid.clears (in_game p)).1 f)) (λ y. game_unsaved a old n can p y))

      by_row : (o : Option Row) → row_at old.rows p ≡ o → Acts (in_game p)
      by_row None e = by_clear (is_one_of plan.clears (in_game p)) e refl
      by_row (Some r) e = let f = row-some old.rows p r e in at_row r f.0 (ap in_game f.1)

  module _ (restored emptied : List (List ℕ)) (restored_is : (x : Spot) → Contains (map game_spot restored) x ↔ RestoredAt a old.rows x)
      (emptied_is : (x : Spot) → Contains (map game_spot emptied) x ↔ EmptiedAt a old.rows x) where
    restored_below : (path : List ℕ) (r : Row) → Contains old.rows r → has_original a r ≡ true → IsBelow (game_spot path) (game_spot r.path) → IsFolderOf restored path
    restored_below path r c o b = record {
      below = r.path;
      among = placed restored r.path ((restored_is (game_spot r.path)).1 (record { row = r; listed = c; original = o; here = refl }));
      extending = below-extends path r.path b;
    }

    -- an own folder below which no original comes
    module _ (path : List ℕ) (alone : ¬ IsFolderOf restored path) where
      abbrev at : List ℕ → Spot
      at name = below (game_spot path) name

      off_row : (name : List ℕ) (r : Row) → Contains old.rows r → game_spot r.path ≡ at name → (b : Bool) → has_original a r ≡ b → b ≡ false
      off_row name r c here false o = refl
      off_row name r c here true o = absurd (alone (restored_below path r c o (subst (IsBelow (game_spot path)) (sym here) (below-entry (game_spot path) name))))

      row_none : (name : List ℕ) (r : Row) → Contains old.rows r → game_spot r.path ≡ at name → now (at name) ≡ none
      row_none name r c here = ap now (sym here) ∙ emptied_now a old n can plan laid r c (off_row name r c here (has_original a r) refl)

      -- where nothing was nothing comes
      stays_none : (name : List ℕ) → a.now (at name) ≡ none → now (at name) ≡ none
      stays_none name free = by_acts (acts (at name).names)
        where
          by_acts : Acts (at name) → now (at name) ≡ none
          by_acts (frees f e) = e
          by_acts (at_row r c here) = row_none name r c here
          by_acts (stays e) = e ∙ free

      no_value : (name : List ℕ) → EntryGoes a old.folders emptied plan (at name) → now (at name) ≡ none
      no_value name (absent e) = stays_none name (kind-absent a (at name) e).1
      no_value name (given_up e f c) = let r = (emptied_is (at name)).0 c in ap now (sym r.here) ∙ emptied_now a old n can plan laid r.row r.listed r.original
      no_value name (folder e g) = stays_none name (can.valid.bare (at name) (kind-folder a (at name) e))

      goes_on : (name : List ℕ) → EntryGoes a old.folders emptied plan (at name) → IsFolder a (at name) ⊎ IsMade a plan (at name) → GoesOff a old.folders plan (at name)
      goes_on name entry (inl there) = by_entry entry
        where
          by_entry : EntryGoes a old.folders emptied plan (at name) → GoesOff a old.folders plan (at name)
          by_entry (absent e) = let no : Absent ≡ Folder = sym e ∙ folder-kind a (at name) there in absurd (cc)
          by_entry (given_up e f c) = absurd (f (folder-kind a (at name) there))
          by_entry (folder e g) = g
      goes_on name entry (inr made) =
          let missing = made-missing a old n can plan laid (at name) made in
          let no : Keep ≡ Game = missing.below.root in
          absurd (cc)

      -- what is left of an entry of a folder that goes
      entry_of : (name : List ℕ) → EntriesGo a old.folders plan (game_spot path) → EntryGoes a old.folders emptied plan (at name)
      entry_of name e = by_kind (kind_of a (at name)) refl
        where
          some_there : kind_of a (at name) ≢ Absent → kind_of a (at name) ≢ Folder → EntryGoes a old.folders emptied plan (at name)
          some_there some no_folder = by_acts (acts (at name).names)
            where
              unfold_kind : (b : Bool) → a.folders (at name) ≡ b → a.now (at name) ≡ none → ⊥
              unfold_kind true f free = no_folder (folder-kind a (at name) f)
              unfold_kind false f free = some (absent-kind a (at name) f free)

              row_stood : (r : Row) → Contains old.rows r → game_spot r.path ≡ at name → HasFile (a.now (game_spot r.path))
              row_stood r c here = elim (row_place a old.rows can.passes.unblocked r c) [
                | inl gone ↦ absurd (some (ap (kind_of a) (sym here) ∙ gone))
                | inr is ↦ has_file a (game_spot r.path) (kind-file a (game_spot r.path) is).1
              ]

              by_acts : Acts (at name) → EntryGoes a old.folders emptied plan (at name)
              by_acts (frees f n) =
                  absurd (alone (restored_below path f.row (row-some old.rows (names_of f.row.path) f.row f.at).0 f.original
                  (above_backup (game_spot path) f.row.path (subst (IsBelow (game_spot path)) (sym f.here) (below-entry (game_spot path) name)))))
              by_acts (at_row r c here) =
                  given_up some no_folder ((emptied_is (at name)).1 (record { row = r; listed = c; original = off_row name r c here (has_original a r) refl; stood = row_stood r c here; here = here }))
              by_acts (stays is) = absurd (unfold_kind (a.folders (at name)) refl (sym is ∙ e.no_value name))

          by_kind : (k : Kind) → kind_of a (at name) ≡ k → EntryGoes a old.folders emptied plan (at name)
          by_kind Absent k = absent k
          by_kind Folder k = folder k (e.goes name (inl (kind-folder a (at name) k)))
          by_kind File k = some_there (λ h. let no : File ≡ Absent = sym k ∙ h in absurd (cc)) (λ h. let no : File ≡ Folder = sym k ∙ h in absurd (cc))
          by_kind Other k = some_there (λ h. let no : Other ≡ Absent = sym k ∙ h in absurd (cc)) (λ h. let no : Other ≡ Folder = sym k ∙ h in absurd (cc))

    pub goes_by_own : GoesByOwn a old.folders restored emptied plan
    goes_by_own = record {
      owned = λ s goes.
          let own = only_own_goes a old n can plan laid s goes in
          (subst (Contains (map game_spot old.folders)) (sym own.here) (map_contains game_spot old.folders own.path own.listed), own.is_there);
      kept = λ path h goes.
          let r = (restored_is (game_spot h.below)).0 (map_contains game_spot restored h.below h.among) in
          file_some (now (game_spot h.below)) (subst (λ x. HasFile (now x)) r.here (restored_now a old n can plan laid r.row r.listed r.original))
          (goes.no_value (game_spot h.below) (extends-lies path h.below h.extending));
      goes = λ path among alone there. (
        λ entries. entries_goes a old.folders can.valid plan (game_spot path) (record {
          listed = inl (record { path = path; listed = among; here = refl; is_there = there });
          no_value = λ name. no_value path alone name (entries name);
          goes = λ name h. goes_on path alone name (entries name) h;
        }),
        λ goes name. entry_of path alone name (goes_entries a old.folders can.valid plan (game_spot path) goes),
      );
    }
