-- How a settlement's folders go by the entries of own folders, and which it makes.
use Rattle.std.proofs.Common.{◌≡◌, ◌≢◌, ◌⊎◌, ◌↔◌, ℕ, Bool, true, false, if◌then◌else◌, List, map, refl, sym, ap, ◌∙◌, inl, inr, subst}
use Rattle.std.specs.List.{Contains}
use Rattle.std.specs.declared.option.Option.{Option}
use Rattle.std.specs.declared.option.Option.TheVariants.{None, Some}
use Rattle.list_laws.proofs.Containing.{map_contains}
use Rattle.rel_paths.proofs.NamesOf.{same_text}
use Rattle.tree_fs.specs.declared.name.Kind.{Kind}
use Rattle.tree_fs.specs.declared.name.Kind.TheVariants.{Absent, File, Folder, Other}
use Rattle.tree_fs.specs.declared.place.Root.TheVariants.{Game, Keep}
use Rattle.tree_fs.specs.Spot.{Spot, below, IsBelow}
use Rattle.tree_fs.specs.Places.{game_spot}
use Rattle.tree_fs.specs.Disk.{Disk, Value, none, kind_of}
use Rattle.tree_fs.specs.Calls.{IsFolder}
use Rattle.tree_fs.proofs.KindOf.{kind-absent, kind-folder, folder-kind, absent-kind}
use Rattle.tree_fs.proofs.Below.{below-entry, below-trans, none_below}
use Rattle.backup_keep.specs.Places.{backup_spot, aside_spot}
use Rattle.manifest_json.specs.declared.manifest.Row.{Row}
use Rattle.manifest_json.specs.declared.manifest.Manifest.{Manifest}
use Rattle.manifest_json.specs.Paths.{AreRising}
use Rattle.winner_table.specs.Folders.{IsFolderOf}
use Rattle.move_plan.specs.declared.plan.Plan.{Plan}
use Rattle.move_plan.specs.Places.{IsDestination}
use Rattle.desk_model.specs.Places.{Names, in_game, IsUsers}
use Rattle.desk_model.specs.Records.{row_at}
use Rattle.desk_model.specs.Outcome.{updated}
use Rattle.desk_model.specs.Settled.{Choice, Deed, left_whole, put_aside, imported, reverted, accepted, linked_again, staged_again, let_go, dropped, deed_of, settled_row}
use Rattle.plan_model.specs.Rows.{has_original}
use Rattle.plan_model.specs.Moves.{Moves, LaidOut}
use Rattle.plan_model.specs.Folders.{IsMade, IsListed, GoesOff, EntriesGo, OwnLaidOut}
use Rattle.plan_model.proofs.Values.{HasFile, file_some, its_file}
use Rattle.plan_model.proofs.Moved.{moved-clear, moved-else, set-moved, save-moved}
use Rattle.plan_model.proofs.Firsts.{row-some}
use Rattle.plan_model.proofs.GoesBy.{goes_entries, entries_goes}
use Rattle.plan_model.proofs.FolderRules.{gets-destination}
use Rattle.desk_model.proofs.Lookups.{one_of-false, one_of-true}
use Rattle.desk_model.specs.Outcome.{is_one_of}
use Rattle.rel_paths.proofs.Truths.{both}
use Rattle.desk_model.specs.Desk.{file_or_none, is_file}
use Rattle.plan_model.proofs.Moved.{value_at}
use Rattle.plan_model.proofs.Rows.{below-extends}
use Rattle.plan_lists.specs.Off.{EntryGoes, absent, given_up, folder, GoesByOwn, AreParted}
use Rattle.plan_lists.proofs.Lies.{extends-lies}
use Rattle.change_settle.specs.Deeds.{at_row, game_move, original_move, cleared_spot, settle_moves}
use Rattle.change_settle.specs.Plans.{CanSettle}
use Rattle.change_settle.specs.Tasks.{original_for, holding, emptied_told}
use Rattle.change_settle.proofs.Premises.{free_path}
use Rattle.change_settle.proofs.Sets.{game_set}
use Rattle.change_settle.proofs.Stands.{original_file}
use Rattle.change_settle.proofs.Kept.{users_unsaved, path_uncleared, stays, Leaves, lets_go, drops, given_back, game_value, here_by}
use Rattle.change_settle.proofs.Gets.{gets_file, only_own_goes}

-- a row at whose path there is a file in the end
pub record HoldsAt (choice : Choice) (a : Disk) (rows : List Row) (path : List ℕ) : Type 0 where
  pub row : Row
  pub listed : Contains rows row
  pub holds : holding row (deed_of choice a row) (original_for a row (deed_of choice a row)) ≡ Some path

-- a row by which there is no file any more at a place
pub record EmptiedAt (choice : Choice) (a : Disk) (rows : List Row) (x : Spot) : Type 0 where
  pub row : Row
  pub listed : Contains rows row
  pub emptied : emptied_told row (deed_of choice a row) (original_for a row (deed_of choice a row)) ≡ Some x

module _ (choice : Choice) (a : Disk) (old : Manifest) (n : ℕ) (can : CanSettle choice a old n) (plan : Plan) (laid : LaidOut (settle_moves choice a old.rows n) plan) where
  abbrev m : Moves
  m = settle_moves choice a old.rows n

  abbrev now : Spot → Value
  now = updated plan a.now

  abbrev Holds : List ℕ → Type 0
  Holds = HoldsAt choice a old.rows

  abbrev Emptied : Spot → Type 0
  Emptied = EmptiedAt choice a old.rows

  full : (v : Value) → HasFile v → v ≡ none → ⊥
  full v f e = file_some v f e

  -- what a settlement makes of a game place
  data Acts (x : Spot) : Type 0 where
    empties : Emptied x → now x ≡ none → Acts x
    fills : (r : Row) → Contains old.rows r → Holds r.path → game_spot r.path ≡ x → HasFile (now x) → Acts x
    nothing : now x ≡ a.now x → ¬ IsDestination plan x → Acts x

  undestined : (x : Spot) → x.root ≡ Game → m.sets x ≡ None → ¬ IsDestination plan x
  undestined x root unset (inl set) = let s = set-moved m plan laid a.now x set in let t : None ≡ Some s.0 = sym unset ∙ s.1 in cc
  undestined x root unset (inr save) = let s = save-moved m plan laid a.now x save in let t : Keep ≡ Game = ap (λ (z : Spot). z.root) s.1.here ∙ root in cc

  not_keep : (x : Spot) → x.root ≡ Game → x.root ≢ Keep
  not_keep x root e = let t : Game ≡ Keep = sym root ∙ e in cc

  -- a place that is neither set nor cleared
  left_alone : (x : Spot) → x.root ≡ Game → m.sets x ≡ None → ¬ m.clears x → Acts x
  left_alone x root unset kept = nothing (moved-else m plan laid a.now x unset kept (λ y. users_unsaved choice a old n can plan laid x y (not_keep x root))) (undestined x root unset)

  -- a row holds its path where its file, or its original, is there in the end
  kept_file : (r made : Row) (d : Deed) → Contains old.rows r → deed_of choice a r ≡ d → settled_row a r d ≡ Some made → HasFile (now (game_spot r.path))
  kept_file r made d c is e = (stays choice a old n can plan laid r made c (ap (settled_row a r) is ∙ e)).file

  back_file : (r : Row) → Contains old.rows r → Leaves choice a old n can plan laid r → has_original a r ≡ true → HasFile (now (game_spot r.path))
  back_file r c leaving o =
      let f = original_file a r o in
      let shadowed = (both r.shadowed (is_file (a.now (backup_spot r.path))) o).0 in
      let value : now (game_spot r.path) ≡ a.now (backup_spot r.path) = given_back choice a old n can plan laid r c leaving ∙ ap (λ b. if b then file_or_none (a.now (backup_spot r.path)) else none) shadowed ∙ its_file (a.now (backup_spot r.path)) f in
      subst HasFile (sym value) f

  held_file : (r : Row) (path : List ℕ) → Contains old.rows r → holding r (deed_of choice a r) (original_for a r (deed_of choice a r)) ≡ Some path → HasFile (now (game_spot r.path)) × (r.path ≡ path)
  held_file r path c e = by_deed (deed_of choice a r) refl e
    where
      of_some : Some r.path ≡ Some path → r.path ≡ path
      of_some e = cc

      back : (b : Bool) → has_original a r ≡ b → Leaves choice a old n can plan laid r → (if b then Some r.path else None) ≡ Some path → HasFile (now (game_spot r.path)) × (r.path ≡ path)
      back true o leaving e = (back_file r c leaving o, of_some e)
      back false o leaving e = absurd (cc)

      by_deed : (d : Deed) → deed_of choice a r ≡ d → holding r d (original_for a r d) ≡ Some path → HasFile (now (game_spot r.path)) × (r.path ≡ path)
      by_deed left_whole is e = (kept_file r _ left_whole c is refl, of_some e)
      by_deed put_aside is e = (kept_file r _ put_aside c is refl, of_some e)
      by_deed imported is e = (kept_file r _ imported c is refl, of_some e)
      by_deed reverted is e = (kept_file r _ reverted c is refl, of_some e)
      by_deed accepted is e = (kept_file r _ accepted c is refl, of_some e)
      by_deed linked_again is e = (kept_file r _ linked_again c is refl, of_some e)
      by_deed staged_again is e = (kept_file r _ staged_again c is refl, of_some e)
      by_deed let_go is e = back (has_original a r) refl (lets_go is) e
      by_deed dropped is e = back (has_original a r) refl (drops is) e

  -- the path of a row, by what is done with it
  acts_row : (r : Row) → Contains old.rows r → Acts (game_spot r.path)
  acts_row r c = by_deed (deed_of choice a r) refl
    where
      filled : (d : Deed) → deed_of choice a r ≡ d → holding r d (original_for a r d) ≡ Some r.path → Acts (game_spot r.path)
      filled d is h =
          let holds = ap (λ e. holding r e (original_for a r e)) is ∙ h in
          fills r c (record { row = r; listed = c; holds = holds }) refl (held_file r r.path c holds).0

      let_it_go : (b : Bool) → deed_of choice a r ≡ let_go → has_original a r ≡ b → Acts (game_spot r.path)
      let_it_go true is o = filled let_go is (ap (λ b. if b then Some r.path else None) o)
      let_it_go false is o =
          empties (record { row = r; listed = c; emptied = ap (λ e. emptied_told r e (original_for a r e)) is ∙ ap (λ b. Some (if b then backup_spot r.path else game_spot r.path)) o })
          (game_value choice a old n can plan laid r c ∙ ap (λ e. here_by choice a old n can plan laid (game_move a n r e) (a.now (game_spot r.path))) is ∙ ap (λ b. value_at a.now (if b then Some (backup_spot r.path) else None)) o)

      drop_it : (b : Bool) → deed_of choice a r ≡ dropped → has_original a r ≡ b → Acts (game_spot r.path)
      drop_it true is o = filled dropped is (ap (λ b. if b then Some r.path else None) o)
      drop_it false is o = left_alone (game_spot r.path) refl (game_set choice a old n can r c ∙ ap (game_move a n r) is ∙ ap (original_move r) o) (path_uncleared choice a old n can plan laid r.path (free_path choice a old n can r c))

      by_deed : (d : Deed) → deed_of choice a r ≡ d → Acts (game_spot r.path)
      by_deed left_whole is = filled left_whole is refl
      by_deed put_aside is = filled put_aside is refl
      by_deed imported is = filled imported is refl
      by_deed reverted is = filled reverted is refl
      by_deed accepted is = filled accepted is refl
      by_deed linked_again is = filled linked_again is refl
      by_deed staged_again is = filled staged_again is refl
      by_deed let_go is = let_it_go (has_original a r) is refl
      by_deed dropped is = drop_it (has_original a r) is refl

  -- what is cleared in the game folder is an original that goes back
  cleared_game : (x : Spot) → x.root ≡ Game → (h : m.clears x) → Emptied x
  cleared_game x root h = record { row = h.row; listed = h.listed; emptied = by_deed (deed_of choice a h.row) h.cleared }
    where
      by_original : (b : Bool) → (if b then Some (backup_spot h.row.path) else None) ≡ Some x → Some (if b then backup_spot h.row.path else game_spot h.row.path) ≡ Some x
      by_original true e = e
      by_original false e = absurd (cc)

      by_deed : (d : Deed) → cleared_spot a n h.row d ≡ Some x → emptied_told h.row d (original_for a h.row d) ≡ Some x
      by_deed let_go e = by_original (has_original a h.row) e
      by_deed dropped e = e
      by_deed reverted e = let t : aside_spot n (game_spot h.row.path) ≡ x = cc in let k : Keep ≡ Game = ap (λ (z : Spot). z.root) t ∙ root in absurd (cc)
      by_deed left_whole e = absurd (cc)
      by_deed put_aside e = absurd (cc)
      by_deed imported e = absurd (cc)
      by_deed accepted e = absurd (cc)
      by_deed linked_again e = absurd (cc)
      by_deed staged_again e = absurd (cc)

  -- whether a row's backup is cleared
  acts_clear : (x : Spot) → x.root ≡ Game → m.clears x → Acts x
  acts_clear x root h = empties (cleared_game x root h) (moved-clear m plan laid a.now x h)

  is_cleared : (x : Spot) → m.clears x ⊎ (m.clears x → ⊥)
  is_cleared x = by_test (is_one_of plan.clears x) refl
    where
      by_test : (b : Bool) → is_one_of plan.clears x ≡ b → m.clears x ⊎ (m.clears x → ⊥)
      by_test true e = inl ((laid.clears x).0 (one_of-true plan.clears x e))
      by_test false e = inr (λ h. one_of-false plan.clears x e ((laid.clears x).1 h))

  acts_game : (p : Names) → Acts (in_game p)
  acts_game p = elim (is_cleared (in_game p)) [
    | inl h ↦ acts_clear (in_game p) refl h
    | inr kept ↦ by_row kept (row_at old.rows p) refl
  ]
    where
      by_row : ¬ m.clears (in_game p) → (o : Option Row) → row_at old.rows p ≡ o → Acts (in_game p)
      by_row kept None e = left_alone (in_game p) refl (ap (at_row choice a (game_move a n)) e) kept
      by_row kept (Some r) e = let f = row-some old.rows p r e in subst Acts (ap in_game f.1) (acts_row r f.0)

  acts : (x : Spot) → x.root ≡ Game → Acts x
  acts x root = subst Acts (λ i. record { root = sym root i; names = x.names }) (acts_game x.names)

  -- Own folders

  module _ (held : List (List ℕ)) (held_is : (path : List ℕ) → Contains held path ↔ Holds path) where
    held_below : (path : List ℕ) (r : Row) → Holds r.path → IsBelow (game_spot path) (game_spot r.path) → IsFolderOf held path
    held_below path r h b = record { below = r.path; among = (held_is r.path).1 h; extending = below-extends path r.path b }

    -- where a destination lies below what is missing, a row holds its path there
    made_for : (s y : Spot) → s.root ≡ Game → a.folders s ≡ false → IsBelow s y → IsDestination plan y → (r : Row) × Holds r.path × (game_spot r.path ≡ y)
    made_for s y root gone b to = by_acts (acts y (b.root ∙ root))
      where
        free : a.now y ≡ none
        free = none_below a can.valid s y b gone

        users : IsUsers y.root
        users = subst IsUsers (sym (b.root ∙ root)) tt

        by_acts : Acts y → (r : Row) × Holds r.path × (game_spot r.path ≡ y)
        by_acts (empties h e) = absurd (full (now y) (gets_file choice a old n can plan laid y users to free) e)
        by_acts (fills r c h here f) = (r, h, here)
        by_acts (nothing e off) = absurd (off to)

    module _ (emptied : List (List ℕ)) (emptied_is : (x : Spot) → Contains (map game_spot emptied) x ↔ Emptied x) where
      emptied_none : (x : Spot) → x.root ≡ Game → Emptied x → now x ≡ none
      emptied_none x root h = by_deed (deed_of choice a h.row) refl h.emptied
        where
          some_is : (z : Spot) → Some z ≡ Some x → z ≡ x
          some_is z e = cc

          cleared : (d : Deed) → deed_of choice a h.row ≡ d → cleared_spot a n h.row d ≡ Some x → now x ≡ none
          cleared d is e = moved-clear m plan laid a.now x (record { row = h.row; listed = h.listed; cleared = ap (cleared_spot a n h.row) is ∙ e })

          going : (b : Bool) → deed_of choice a h.row ≡ let_go → has_original a h.row ≡ b → Some (if b then backup_spot h.row.path else game_spot h.row.path) ≡ Some x → now x ≡ none
          going true is o e = cleared let_go is (ap (λ b. if b then Some (backup_spot h.row.path) else None) o ∙ e)
          going false is o e =
              ap now (sym (some_is (game_spot h.row.path) e))
              ∙ game_value choice a old n can plan laid h.row h.listed ∙ ap (λ d. here_by choice a old n can plan laid (game_move a n h.row d) (a.now (game_spot h.row.path))) is ∙ ap (λ b. value_at a.now (if b then Some (backup_spot h.row.path) else None)) o

          by_deed : (d : Deed) → deed_of choice a h.row ≡ d → emptied_told h.row d (original_for a h.row d) ≡ Some x → now x ≡ none
          by_deed let_go is e = going (has_original a h.row) is refl e
          by_deed dropped is e = cleared dropped is e
          by_deed left_whole is e = absurd (cc)
          by_deed put_aside is e = absurd (cc)
          by_deed imported is e = absurd (cc)
          by_deed reverted is e = absurd (cc)
          by_deed accepted is e = absurd (cc)
          by_deed linked_again is e = absurd (cc)
          by_deed staged_again is e = absurd (cc)

      -- an own folder that no held path lies below
      module _ (path : List ℕ) (alone : ¬ IsFolderOf held path) where
        abbrev at : List ℕ → Spot
        at name = below (game_spot path) name

        off_row : (name : List ℕ) (r : Row) → Holds r.path → game_spot r.path ≡ at name → ⊥
        off_row name r h here = alone (held_below path r h (subst (IsBelow (game_spot path)) (sym here) (below-entry (game_spot path) name)))

        -- where nothing was nothing comes
        stays_none : (name : List ℕ) → a.now (at name) ≡ none → now (at name) ≡ none
        stays_none name free = by_acts (acts (at name) refl)
          where
            by_acts : Acts (at name) → now (at name) ≡ none
            by_acts (empties h e) = e
            by_acts (fills r c h here f) = absurd (off_row name r h here)
            by_acts (nothing e off) = e ∙ free

        no_value : (name : List ℕ) → EntryGoes a old.folders emptied plan (at name) → now (at name) ≡ none
        no_value name (absent e) = stays_none name (kind-absent a (at name) e).1
        no_value name (given_up e f c) = emptied_none (at name) refl ((emptied_is (at name)).0 c)
        no_value name (folder e g) = stays_none name (can.valid.bare (at name) (kind-folder a (at name) e))

        goes_on : (name : List ℕ) → EntryGoes a old.folders emptied plan (at name) → IsFolder a (at name) ⊎ IsMade a plan (at name) → GoesOff a old.folders plan (at name)
        goes_on name entry (inl there) = by_entry entry
          where
            by_entry : EntryGoes a old.folders emptied plan (at name) → GoesOff a old.folders plan (at name)
            by_entry (absent e) = let no : Absent ≡ Folder = sym e ∙ folder-kind a (at name) there in absurd (cc)
            by_entry (given_up e f c) = absurd (f (folder-kind a (at name) there))
            by_entry (folder e g) = g
        goes_on name entry (inr made) =
            let h = made_for (at name) made.place refl made.missing made.below made.to in
            absurd (alone (held_below path h.0 h.1 (below-trans (game_spot path) (at name) (game_spot h.0.path) (below-entry (game_spot path) name) (subst (IsBelow (at name)) (sym h.2) made.below))))

        -- what is left of an entry of a folder that goes
        entry_of : (name : List ℕ) → EntriesGo a old.folders plan (game_spot path) → EntryGoes a old.folders emptied plan (at name)
        entry_of name e = by_kind (kind_of a (at name)) refl
          where
            some_there : kind_of a (at name) ≢ Absent → kind_of a (at name) ≢ Folder → EntryGoes a old.folders emptied plan (at name)
            some_there some no_folder = by_acts (acts (at name) refl)
              where
                unfold_kind : (b : Bool) → a.folders (at name) ≡ b → a.now (at name) ≡ none → ⊥
                unfold_kind true f free = no_folder (folder-kind a (at name) f)
                unfold_kind false f free = some (absent-kind a (at name) f free)

                by_acts : Acts (at name) → EntryGoes a old.folders emptied plan (at name)
                by_acts (empties h is) = given_up some no_folder ((emptied_is (at name)).1 h)
                by_acts (fills r c h here f) = absurd (full (now (at name)) f (e.no_value name))
                by_acts (nothing is off) = absurd (unfold_kind (a.folders (at name)) refl (sym is ∙ e.no_value name))

            by_kind : (k : Kind) → kind_of a (at name) ≡ k → EntryGoes a old.folders emptied plan (at name)
            by_kind Absent k = absent k
            by_kind Folder k = folder k (e.goes name (inl (kind-folder a (at name) k)))
            by_kind File k = some_there (λ h. let no : File ≡ Absent = sym k ∙ h in absurd (cc)) (λ h. let no : File ≡ Folder = sym k ∙ h in absurd (cc))
            by_kind Other k = some_there (λ h. let no : Other ≡ Absent = sym k ∙ h in absurd (cc)) (λ h. let no : Other ≡ Folder = sym k ∙ h in absurd (cc))

      pub goes_by_own : GoesByOwn a old.folders held emptied plan
      goes_by_own = record {
        owned = λ s goes.
            let own = only_own_goes choice a old n can plan laid s goes in
            (subst (Contains (map game_spot old.folders)) (sym own.here) (map_contains game_spot old.folders own.path own.listed), own.is_there);
        kept = λ path h goes.
            let at = (held_is h.below).0 h.among in
            let f = held_file at.row h.below at.listed at.holds in
            full (now (game_spot h.below)) (subst (λ q. HasFile (now (game_spot q))) f.1 f.0) (goes.no_value (game_spot h.below) (extends-lies path h.below h.extending));
        goes = λ path among alone there. (
          λ entries. entries_goes a old.folders can.valid plan (game_spot path) (record {
            listed = inl (record { path = path; listed = among; here = refl; is_there = there });
            no_value = λ name. no_value path alone name (entries name);
            goes = λ name h. goes_on path alone name (entries name) h;
          }),
          λ goes name. entry_of path alone name (goes_entries a old.folders can.valid plan (game_spot path) goes),
        );
      }

      -- The new list of own folders

      module _ (kept off next : List (List ℕ)) (parted : AreParted a old.folders held plan old.folders kept off)
          (joined : (p : List ℕ) → Contains next p ↔ Contains kept p ⊎ IsMade a plan (game_spot p)) (rise : AreRising next) where
        listed_by : (p : List ℕ) → Contains old.folders p → IsFolderOf held p ⊎ IsFolder a (game_spot p) → IsListed a old.folders plan (game_spot p)
        listed_by p c (inr there) = inl (record { path = p; listed = c; here = refl; is_there = there })
        listed_by p c (inl h) = by_test (a.folders (game_spot p)) refl
          where
            by_test : (b : Bool) → a.folders (game_spot p) ≡ b → IsListed a old.folders plan (game_spot p)
            by_test true e = inl (record { path = p; listed = c; here = refl; is_there = e })
            by_test false e =
                let at = (held_is h.below).0 h.among in
                let f = held_file at.row h.below at.listed at.holds in
                let b = extends-lies p h.below h.extending in
                let file : HasFile (now (game_spot h.below)) = subst (λ q. HasFile (now (game_spot q))) f.1 f.0 in
                let free = none_below a can.valid (game_spot p) (game_spot h.below) b e in
                inr (refl, record { missing = e; place = game_spot h.below; to = gets-destination plan a.now (game_spot h.below) free (λ is. full (now (game_spot h.below)) file is); below = b })

        listed_from : (p : List ℕ) → Contains next p → IsListed a old.folders plan (game_spot p) × (¬ GoesOff a old.folders plan (game_spot p))
        listed_from p c = by_part ((joined p).0 c)
          where
            by_part : Contains kept p ⊎ IsMade a plan (game_spot p) → IsListed a old.folders plan (game_spot p) × (¬ GoesOff a old.folders plan (game_spot p))
            by_part (inl k) = let h = (parted.stays p).0 k in (listed_by p h.0 h.1, h.2)
            by_part (inr is) =
                (inr (refl, is), λ goes. let own = only_own_goes choice a old n can plan laid (game_spot p) goes in let no : true ≡ false = sym own.is_there ∙ is.missing in absurd (cc))

        next_from : (p : List ℕ) → IsListed a old.folders plan (game_spot p) → ¬ GoesOff a old.folders plan (game_spot p) → Contains next p
        next_from p (inl own) stay =
            let same : p ≡ own.path = same_text p own.path (ap (λ (s : Spot). s.names) own.here) in
            (joined p).1 (inl ((parted.stays p).1 (subst (Contains old.folders) (sym same) own.listed, inr own.is_there, stay)))
        next_from p (inr is) stay = (joined p).1 (inr is.1)

        pub own_laid_out : OwnLaidOut a old.folders plan next
        own_laid_out = record {
          folders = λ p. (λ c. listed_from p c, λ h. next_from p h.0 h.1);
          order = rise;
        }
