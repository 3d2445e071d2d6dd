-- The folders of the plan of a deployment, by what the walk found.
use Rattle.std.proofs.Common.{◌≡◌, ◌≢◌, ◌⊎◌, ◌↔◌, ℕ, Bool, true, false, cond, List, map, filter_map, refl, sym, ap, ◌∙◌, subst, inl, inr}
use Rattle.std.specs.List.{AllByRecursion, Contains}
use Rattle.std.specs.declared.option.Option.{Option}
use Rattle.std.specs.declared.option.Option.TheVariants.{None, Some}
use Rattle.std.proofs.lemmas.Bool.{and_parts}
use Rattle.list_laws.proofs.Alls.{all_from_contains}
use Rattle.list_laws.proofs.Containing.{contains_map, map_contains}
use Rattle.rel_paths.specs.Names.{names_of, extends}
use Rattle.rel_paths.proofs.NamesOf.{same_text}
use Rattle.tree_fs.specs.declared.name.Kind.{Kind}
use Rattle.tree_fs.specs.declared.name.Kind.TheVariants.{Absent, File, Folder, Other}
use Rattle.tree_fs.specs.Spot.{Spot, below, IsBelow}
use Rattle.tree_fs.specs.Places.{game_spot}
use Rattle.tree_fs.specs.Disk.{Disk, Value, none, IsFile, kind_of}
use Rattle.tree_fs.specs.Calls.{IsFolder}
use Rattle.tree_fs.proofs.Below.{below-entry, below-trans, above_value, none_below}
use Rattle.tree_fs.proofs.KindOf.{kind-absent, kind-folder, folder-kind, absent-kind}
use Rattle.tree_fs.proofs.Spots.{not_nameless}
use Rattle.backup_keep.specs.Places.{backup_spot}
use Rattle.manifest_json.specs.declared.manifest.Row.{Row}
use Rattle.manifest_json.specs.declared.manifest.Manifest.{Manifest}
use Rattle.manifest_json.specs.Paths.{AreRising}
use Rattle.move_plan.specs.declared.plan.Plan.{Plan}
use Rattle.move_plan.specs.Places.{IsDestination, IsSetTo}
use Rattle.desk_model.specs.Places.{IsUsers}
use Rattle.desk_model.specs.Records.{row_at}
use Rattle.desk_model.specs.Desk.{is_file}
use Rattle.desk_model.specs.Deployed.{Win, won_spot}
use Rattle.desk_model.specs.Outcome.{updated}
use Rattle.plan_model.specs.Rows.{has_original}
use Rattle.plan_model.specs.Moves.{Moves, LaidOut}
use Rattle.plan_model.specs.Folders.{IsMade, IsListed, GoesOff, OwnLaidOut, EntriesGo}
use Rattle.plan_model.proofs.Values.{HasFile, file_true, file_some, is_file-at, has_file-kind}
use Rattle.plan_model.proofs.Firsts.{win-here}
use Rattle.plan_model.proofs.Moved.{value_at, moved-clear, moved-set, moved-is_set}
use Rattle.plan_model.proofs.Paths.{above_backup}
use Rattle.plan_model.proofs.Rows.{below-extends}
use Rattle.plan_model.proofs.GoesBy.{goes_entries, entries_goes, only_own}
use Rattle.winner_table.specs.Folders.{IsFolderOf}
use Rattle.deploy_plan.specs.Cases.{leaves, covers, case_by, case_of, set_by, Frees, deploy_moves}
use Rattle.deploy_plan.specs.Plans.{CanDeploy}
use Rattle.deploy_plan.specs.Wins.{won_paths}
use Rattle.deploy_plan.specs.Walk.{win_alone, merged}
use Rattle.deploy_plan.specs.Told.{told, told_emptied}
use Rattle.plan_lists.specs.Order.{HasSameSpots}
use Rattle.deploy_plan.specs.Parents.{IsNoted}
use Rattle.deploy_plan.specs.Missing.{AreNoted}
use Rattle.plan_lists.specs.Off.{EntryGoes, absent, given_up, folder, GoesByOwn, AreParted}
use Rattle.deploy_plan.proofs.Told.{told_at, case_is, row_facts, win_facts, path_kept}
use Rattle.deploy_plan.proofs.Found.{won_value}
use Rattle.plan_lists.proofs.Lies.{extends-lies}
use Rattle.plan_lists.proofs.Leaving.{placed}
use Rattle.deploy_plan.proofs.Parented.{up_to_parent, above_from_parent}
use Rattle.deploy_plan.proofs.StepFacts.{EmptiedAt, emptied_are, new_step, step_new}
use Rattle.deploy_plan.proofs.Acts.{Acts, clears, empties, restores, places, keeps, nothing, acts}

-- where there is no file in the end there is one now
module _ (a : Disk) (old : Manifest) (wins : List Win) (can : CanDeploy a old wins) where
  emptied_file : (x : Spot) → EmptiedAt a old.rows wins can.rows.rise can.won.rise x → HasFile (a.now x)
  emptied_file x h = by_original (has_original a h.row) refl
    where
      by_original : (b : Bool) → has_original a h.row ≡ b → HasFile (a.now x)
      by_original true e =
          let here : backup_spot h.row.path ≡ x = sym (h.here ∙ ap (λ b. cond b (backup_spot h.row.path) (game_spot h.row.path)) e) in
          subst (λ y. HasFile (a.now y)) here (file_true (a.now (backup_spot h.row.path)) (and_parts h.row.shadowed (is_file (a.now (backup_spot h.row.path))) e).1)
      by_original false e =
          let here : x ≡ game_spot h.row.path = h.here ∙ ap (λ b. cond b (backup_spot h.row.path) (game_spot h.row.path)) e in
          subst (λ y. HasFile (a.now y)) (sym here) (row_facts a old wins can (names_of h.row.path) h.row (told_at a old.rows wins (names_of h.row.path) (leaves h.row) h.case).0).deployed

  pub emptied_stand : (emptied : List (List ℕ)) → HasSameSpots (map game_spot emptied) (filter_map told_emptied (map (told a) (merged old.rows wins))) → AllByRecursion (λ p. IsFile a (game_spot p)) emptied
  emptied_stand emptied same =
      all_from_contains (λ p. IsFile a (game_spot p)) emptied
      (λ p c. is_file-at a (game_spot p) (emptied_file (game_spot p) ((emptied_are a old.rows wins can.rows.rise can.won.rise (game_spot p)).0 ((same (game_spot p)).0 (map_contains game_spot emptied p c)))))

module _ (a : Disk) (old : Manifest) (wins : List Win) (can : CanDeploy a old wins) (plan : Plan) (laid : LaidOut (deploy_moves a old.rows wins) plan) where
  abbrev m : Moves
  m = deploy_moves a old.rows wins

  abbrev now : Spot → Value
  now = updated plan a.now

  abbrev Emptied : Spot → Type 0
  Emptied = EmptiedAt a old.rows wins can.rows.rise can.won.rise

  -- a place with a file isn't empty
  full : (v : Value) → HasFile v → v ≡ none → ⊥
  full v f e = file_some v f e

  row_stood : (r : Row) → case_of a old.rows wins (names_of r.path) ≡ leaves r → HasFile (a.now (game_spot r.path))
  row_stood r case = (row_facts a old wins can (names_of r.path) r (told_at a old.rows wins (names_of r.path) (leaves r) case).0).deployed

  covered_stood : (w : Win) → case_of a old.rows wins (names_of w.path) ≡ covers w → HasFile (a.now (game_spot w.path))
  covered_stood w case = file_true (a.now (game_spot w.path)) (told_at a old.rows wins (names_of w.path) (covers w) case).2

  covered_won : (w : Win) → case_of a old.rows wins (names_of w.path) ≡ covers w → Contains wins w
  covered_won w case = (win_facts a old wins can (names_of w.path) w (told_at a old.rows wins (names_of w.path) (covers w) case).1).listed

  freed_stood : (x : Spot) → Frees a old.rows wins x → HasFile (a.now x)
  freed_stood x f = subst (λ y. HasFile (a.now y)) f.here (file_true (a.now (backup_spot f.row.path)) (and_parts f.row.shadowed (is_file (a.now (backup_spot f.row.path))) f.original).1)

  -- its backup place was free
  kept_free : (w : Win) → case_of a old.rows wins (names_of w.path) ≡ covers w → kind_of a (backup_spot w.path) ≡ Absent
  kept_free w case =
      let t = told_at a old.rows wins (names_of w.path) (covers w) case in
      can.passes.walk.free w (covered_won w case, t.0) (has_file-kind a (game_spot w.path) can.valid (covered_stood w case))

  -- an empty destination gets a file
  gets : (x : Spot) → IsUsers x.root → IsDestination plan x → a.now x ≡ none → HasFile (now x)
  gets x users to free = by_acts (acts a old wins can plan laid x)
    where
      by_acts : Acts a old wins can plan laid x → HasFile (now x)
      by_acts (clears f n) = absurd (full (a.now x) (freed_stood x f) free)
      by_acts (empties r case e here n) = absurd (full (a.now x) (subst (λ y. HasFile (a.now y)) here (row_stood r case)) free)
      by_acts (restores f g) = g
      by_acts (places w c here g) = g
      by_acts (keeps w case here g) = g free
      by_acts (nothing e off) = absurd (off to)

  win_below : (path : List ℕ) (w : Win) → Contains wins w → IsBelow (game_spot path) (game_spot w.path) → IsFolderOf (won_paths wins) path
  win_below path w c b = record { below = w.path; among = map_contains (λ (v : Win). v.path) wins w c; extending = below-extends path w.path b }

  -- where a destination lies below what is missing, a winner without an old row comes there
  made_for : (s y : Spot) → a.folders s ≡ false → IsBelow s y → IsDestination plan y → (w : Win) × Contains wins w × (game_spot w.path ≡ y)
  made_for s y gone b to = by_acts (acts a old wins can plan laid y) (none_below a can.valid s y b gone)
    where
      above_none : (q : Spot) → IsBelow s q → HasFile (a.now q) → ⊥
      above_none q b f = let no : true ≡ false = sym (above_value a can.valid s q b (file_some (a.now q) f)) ∙ gone in absurd (cc)

      by_acts : Acts a old wins can plan laid y → a.now y ≡ none → (w : Win) × Contains wins w × (game_spot w.path ≡ y)
      by_acts (clears f n) free = absurd (full (a.now y) (freed_stood y f) free)
      by_acts (empties r case e here n) free = absurd (full (a.now y) (subst (λ z. HasFile (a.now z)) here (row_stood r case)) free)
      by_acts (restores f g) free = absurd (full (a.now y) f free)
      by_acts (places w c here g) free = (w, c, here)
      by_acts (keeps w case here g) free = absurd (above_none (game_spot w.path) (above_backup s w.path (subst (IsBelow s) (sym here) b)) (covered_stood w case))
      by_acts (nothing e off) free = absurd (off to)

  module _ (emptied : List (List ℕ)) (emptied_is : (x : Spot) → Contains (map game_spot emptied) x ↔ Emptied x) where
    -- an own folder that no winner's path lies below
    module _ (path : List ℕ) (alone : ¬ IsFolderOf (won_paths wins) path) where
      abbrev at : List ℕ → Spot
      at name = below (game_spot path) name

      off_path : (name : List ℕ) (w : Win) → Contains wins w → game_spot w.path ≡ at name → ⊥
      off_path name w c here = alone (win_below path w c (subst (IsBelow (game_spot path)) (sym here) (below-entry (game_spot path) name)))

      off_backup : (name : List ℕ) (w : Win) → case_of a old.rows wins (names_of w.path) ≡ covers w → backup_spot w.path ≡ at name → ⊥
      off_backup name w case here = alone (win_below path w (covered_won w case) (above_backup (game_spot path) w.path (subst (IsBelow (game_spot path)) (sym here) (below-entry (game_spot path) name))))

      -- where nothing was nothing comes
      stays_none : (name : List ℕ) → a.now (at name) ≡ none → now (at name) ≡ none
      stays_none name free = by_acts (acts a old wins can plan laid (at name))
        where
          by_acts : Acts a old wins can plan laid (at name) → now (at name) ≡ none
          by_acts (clears f n) = n
          by_acts (empties r case e here n) = n
          by_acts (restores f g) = absurd (full (a.now (at name)) f free)
          by_acts (places w c here g) = absurd (off_path name w c here)
          by_acts (keeps w case here g) = absurd (off_backup name w case here)
          by_acts (nothing e off) = e ∙ free

      emptied_none : (x : Spot) → Emptied x → now x ≡ none
      emptied_none x h = by_original (has_original a h.row) refl
        where
          by_original : (b : Bool) → has_original a h.row ≡ b → now x ≡ none
          by_original true e =
              let here : backup_spot h.row.path ≡ x = sym (h.here ∙ ap (λ b. cond b (backup_spot h.row.path) (game_spot h.row.path)) e) in
              moved-clear m plan laid a.now x (record { row = h.row; case = h.case; original = e; here = here })
          by_original false e =
              let here : x ≡ game_spot h.row.path = h.here ∙ ap (λ b. cond b (backup_spot h.row.path) (game_spot h.row.path)) e in
              let good = (row_facts a old wins can (names_of h.row.path) h.row (told_at a old.rows wins (names_of h.row.path) (leaves h.row) h.case).0).good in
              ap now here ∙ moved-set m plan laid a.now (game_spot h.row.path) _ (ap (set_by a) h.case) (path_kept a old wins can h.row.path good)
              ∙ ap (value_at a.now) (ap (λ b. cond b (Some (backup_spot h.row.path)) None) e)

      no_value : (name : List ℕ) → EntryGoes a old.folders emptied plan (at name) → now (at name) ≡ none
      no_value name (absent e) = stays_none name (kind-absent a (at name) e).1
      no_value name (given_up e f c) = emptied_none (at name) ((emptied_is (at name)).0 c)
      no_value name (folder e g) = stays_none name (can.valid.bare (at name) (kind-folder a (at name) e))

      goes_on : (name : List ℕ) → EntryGoes a old.folders emptied plan (at name) → IsFolder a (at name) ⊎ IsMade a plan (at name) → GoesOff a old.folders plan (at name)
      goes_on name entry (inl there) = by_entry entry
        where
          by_entry : EntryGoes a old.folders emptied plan (at name) → GoesOff a old.folders plan (at name)
          by_entry (absent e) = let no : Absent ≡ Folder = sym e ∙ folder-kind a (at name) there in absurd (cc)
          by_entry (given_up e f c) = absurd (f (folder-kind a (at name) there))
          by_entry (folder e g) = g
      goes_on name entry (inr made) =
          let won = made_for (at name) made.place made.missing made.below made.to in
          absurd (alone (win_below path won.0 won.1 (below-trans (game_spot path) (at name) (game_spot won.0.path) (below-entry (game_spot path) name) (subst (IsBelow (at name)) (sym won.2) made.below))))

      -- what is left of an entry of a folder that goes
      entry_of : (name : List ℕ) → EntriesGo a old.folders plan (game_spot path) → EntryGoes a old.folders emptied plan (at name)
      entry_of name e = by_kind (kind_of a (at name)) refl
        where
          some_there : kind_of a (at name) ≢ Absent → kind_of a (at name) ≢ Folder → EntryGoes a old.folders emptied plan (at name)
          some_there some no_folder = by_acts (acts a old wins can plan laid (at name))
            where
              unfold_kind : (b : Bool) → a.folders (at name) ≡ b → a.now (at name) ≡ none → ⊥
              unfold_kind true f free = no_folder (folder-kind a (at name) f)
              unfold_kind false f free = some (absent-kind a (at name) f free)

              by_acts : Acts a old wins can plan laid (at name) → EntryGoes a old.folders emptied plan (at name)
              by_acts (clears f n) =
                  given_up some no_folder
                  ((emptied_is (at name)).1 (record { row = f.row; case = f.case; here = sym f.here ∙ ap (λ b. cond b (backup_spot f.row.path) (game_spot f.row.path)) (sym f.original) }))
              by_acts (empties r case o here n) =
                  given_up some no_folder
                  ((emptied_is (at name)).1 (record { row = r; case = case; here = sym here ∙ ap (λ b. cond b (backup_spot r.path) (game_spot r.path)) (sym o) }))
              by_acts (restores f g) = absurd (full (now (at name)) g (e.no_value name))
              by_acts (places w c here g) = absurd (full (now (at name)) g (e.no_value name))
              by_acts (keeps w case here g) = absurd (some (ap (kind_of a) (sym here) ∙ kept_free w case))
              by_acts (nothing is off) = absurd (unfold_kind (a.folders (at name)) refl (sym is ∙ e.no_value name))

          by_kind : (k : Kind) → kind_of a (at name) ≡ k → EntryGoes a old.folders emptied plan (at name)
          by_kind Absent k = absent k
          by_kind Folder k = folder k (e.goes name (inl (kind-folder a (at name) k)))
          by_kind File k = some_there (λ h. let no : File ≡ Absent = sym k ∙ h in absurd (cc)) (λ h. let no : File ≡ Folder = sym k ∙ h in absurd (cc))
          by_kind Other k = some_there (λ h. let no : Other ≡ Absent = sym k ∙ h in absurd (cc)) (λ h. let no : Other ≡ Folder = sym k ∙ h in absurd (cc))

    pub goes_by_own : GoesByOwn a old.folders (won_paths wins) emptied plan
    goes_by_own = record {
      owned = λ s goes.
          let own = only_own a old.folders can.valid plan gets s goes in
          (subst (Contains (map game_spot old.folders)) (sym own.here) (map_contains game_spot old.folders own.path own.listed), own.is_there);
      kept = λ path h goes.
          let w = contains_map (λ (v : Win). v.path) wins h.below h.among in
          let below_it = extends-lies path w.0.path (subst (λ q. extends q path ≡ true) (sym w.2) h.extending) in
          let won = win-here wins w.0 can.won.rise w.1 in
          let staged = (win_facts a old wins can (names_of w.0.path) w.0 won).staged in
          full (a.now (won_spot w.0)) staged (sym (won_value a old wins can plan laid w.0 won) ∙ goes.no_value (game_spot w.0.path) below_it);
      goes = λ path among alone there. (
        λ entries. entries_goes a old.folders can.valid plan (game_spot path) (record {
          listed = inl (record { path = path; listed = among; here = refl; is_there = there });
          no_value = λ name. no_value path alone name (entries name);
          goes = λ name h. goes_on path alone name (entries name) h;
        }),
        λ goes name. entry_of path alone name (goes_entries a old.folders can.valid plan (game_spot path) goes),
      );
    }

-- The folders that are made

module _ (a : Disk) (old : Manifest) (wins : List Win) (can : CanDeploy a old wins) (plan : Plan) (laid : LaidOut (deploy_moves a old.rows wins) plan) (missing : List (List ℕ)) (noted : AreNoted a (merged old.rows wins) missing) where
  abbrev moves : Moves
  moves = deploy_moves a old.rows wins

  -- a winner comes to a place where there is no file
  comes_there : (w : Win) → Contains wins w → a.now (game_spot w.path) ≡ none → Contains (merged old.rows wins) (win_alone w)
  comes_there w c free = by_row (row_at old.rows p) refl
    where
      p : List (List ℕ)
      p = names_of w.path

      by_row : (o : Option Row) → row_at old.rows (names_of w.path) ≡ o → Contains (merged old.rows wins) (win_alone w)
      by_row None e =
          new_step a old.rows wins can.rows.rise can.won.rise (names_of w.path) w (is_file (a.now (game_spot w.path)))
          (case_is a old.rows wins (names_of w.path) None (Some w) (is_file (a.now (game_spot w.path))) e (win-here wins w can.won.rise c) refl)
      by_row (Some r) e = absurd (file_some (a.now (game_spot w.path)) (row_facts a old wins can (names_of w.path) r e).deployed free)

  -- a winner alone is set
  set_new : (w : Win) → Contains (merged old.rows wins) (win_alone w) → IsDestination plan (game_spot w.path)
  set_new w c = inl (by_test (is_file (a.now (game_spot w.path))) (step_new a old.rows wins can.rows.rise can.won.rise w c))
    where
      by_test : (b : Bool) → case_of a old.rows wins (names_of w.path) ≡ case_by None (Some w) b → IsSetTo plan (game_spot w.path)
      by_test true e = moved-is_set moves plan laid a.now (game_spot w.path) _ (ap (set_by a) e)
      by_test false e = moved-is_set moves plan laid a.now (game_spot w.path) _ (ap (set_by a) e)

  pub made_are : (s : Spot) → IsNoted missing s ↔ IsMade a plan s
  made_are s = (
    λ c.
        let is = noted.only s c in
        record { missing = is.absent; place = game_spot is.win.path; to = set_new is.win is.among; below = above_from_parent s (game_spot is.win.path) (not_nameless is.win.path) is.above },
    λ made.
        let won = made_for a old wins can plan laid s made.place made.missing made.below made.to in
        let b : IsBelow s (game_spot won.0.path) = subst (IsBelow s) (sym won.2) made.below in
        noted.noted won.0 (comes_there won.0 won.1 (none_below a can.valid s (game_spot won.0.path) b made.missing)) s (up_to_parent s (game_spot won.0.path) b) made.missing,
  )

  -- The new list of own folders

  module _ (emptied : List (List ℕ)) (by : GoesByOwn a old.folders (won_paths wins) emptied plan) (kept off next : List (List ℕ)) (parted : AreParted a old.folders (won_paths wins) plan old.folders kept off)
      (joined : (p : List ℕ) → Contains next p ↔ Contains kept p ⊎ Contains missing p) (rise : AreRising next) where
    listed_by : (p : List ℕ) → Contains old.folders p → IsFolderOf (won_paths wins) p ⊎ IsFolder a (game_spot p) → IsListed a old.folders plan (game_spot p)
    listed_by p c (inr there) = inl (record { path = p; listed = c; here = refl; is_there = there })
    listed_by p c (inl below_it) = by_test (a.folders (game_spot p)) refl
      where
        by_test : (b : Bool) → a.folders (game_spot p) ≡ b → IsListed a old.folders plan (game_spot p)
        by_test true e = inl (record { path = p; listed = c; here = refl; is_there = e })
        by_test false e =
            let w = contains_map (λ (v : Win). v.path) wins below_it.below below_it.among in
            let b = extends-lies p w.0.path (subst (λ q. extends q p ≡ true) (sym w.2) below_it.extending) in
            let step = comes_there w.0 w.1 (none_below a can.valid (game_spot p) (game_spot w.0.path) b e) in
            inr (refl, record { missing = e; place = game_spot w.0.path; to = set_new w.0 step; below = b })

    listed_from : (p : List ℕ) → Contains next p → IsListed a old.folders plan (game_spot p) × (¬ GoesOff a old.folders plan (game_spot p))
    listed_from p c = by_part ((joined p).0 c)
      where
        by_part : Contains kept p ⊎ Contains missing p → IsListed a old.folders plan (game_spot p) × (¬ GoesOff a old.folders plan (game_spot p))
        by_part (inl k) = let h = (parted.stays p).0 k in (listed_by p h.0 h.1, h.2)
        by_part (inr n) =
            let made = (made_are (game_spot p)).0 (map_contains game_spot missing p n) in
            (inr (refl, made), λ goes. let no : true ≡ false = sym (by.owned (game_spot p) goes).1 ∙ made.missing in absurd (cc))

    next_from : (p : List ℕ) → IsListed a old.folders plan (game_spot p) → ¬ GoesOff a old.folders plan (game_spot p) → Contains next p
    next_from p (inl own) stays =
        let same : p ≡ own.path = same_text p own.path (ap (λ (s : Spot). s.names) own.here) in
        (joined p).1 (inl ((parted.stays p).1 (subst (Contains old.folders) (sym same) own.listed, inr own.is_there, stays)))
    next_from p (inr made) stays = (joined p).1 (inr (placed missing p ((made_are (game_spot p)).1 made.1)))

    pub own_laid_out : OwnLaidOut a old.folders plan next
    own_laid_out = record {
      folders = λ p. (λ c. listed_from p c, λ h. next_from p h.0 h.1);
      order = rise;
    }
