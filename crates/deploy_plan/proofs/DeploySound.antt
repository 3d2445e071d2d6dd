-- The plan of a deployment is sound.
use Rattle.plan_model.proofs.Rows.{row_free, rows_apart, folder_free}
use Rattle.deploy_plan.proofs.Premises.{win_free, wins_apart, turned_above, turned_below}
use Rattle.manifest_json.specs.declared.manifest.Manifest.{Manifest}
use Rattle.std.proofs.Common.{◌≡◌, ◌≢◌, ◌⊎◌, ◌↔◌, ℕ, Bool, true, false, if◌then◌else◌, List, [], refl, sym, ap, ◌∙◌, inl, inr, subst}
use Rattle.std.specs.List.{Contains}
use Rattle.std.specs.declared.option.Option.{Option}
use Rattle.std.specs.declared.option.Option.TheVariants.{None, Some}
use Rattle.rel_paths.specs.Names.{names_of, backup_names, IsFreePath}
use Rattle.rel_paths.proofs.Truths.{both}
use Rattle.tree_fs.specs.declared.name.Kind.TheVariants.{Absent}
use Rattle.tree_fs.specs.declared.place.Root.TheVariants.{Stage, Game}
use Rattle.tree_fs.specs.Spot.{Spot, IsBelow}
use Rattle.tree_fs.specs.Places.{game_spot}
use Rattle.tree_fs.specs.Disk.{Disk, none, IsFile, kind_of}
use Rattle.tree_fs.proofs.KindOf.{kind-absent, kind-file, kind-folder}
use Rattle.manifest_json.specs.declared.manifest.Row.{Row}
use Rattle.move_plan.specs.declared.plan.Plan.{Plan}
use Rattle.backup_keep.specs.Places.{backup_spot}
use Rattle.move_plan.specs.Rules.{IsFree}
use Rattle.move_plan.specs.Sound.{SoundPlan}
use Rattle.desk_model.specs.Places.{in_game}
use Rattle.desk_model.specs.Records.{row_at}
use Rattle.change_detect.specs.Classes.{staged_of}
use Rattle.desk_model.specs.Deployed.{Win, winner_of, won_spot}
use Rattle.desk_model.specs.Desk.{is_file}
use Rattle.plan_model.specs.Moves.{Move, Moves}
use Rattle.deploy_plan.specs.Cases.{Case, untouched, leaves, stays, turns, comes, covers, case_of, set_by, Covers, Frees, deploy_moves}
use Rattle.plan_model.specs.Rows.{has_original, from_backup}
use Rattle.deploy_plan.specs.Plans.{CanDeploy, DeployPlan}
use Rattle.plan_model.specs.Sound.{Takes, Backs, IsTo, ByRules, OnDisk}
use Rattle.plan_model.proofs.Values.{HasFile, file_true, file_some, is_file-at, has_file-kind}
use Rattle.tree_fs.proofs.Below.{above_value}
use Rattle.plan_model.proofs.Firsts.{row-here}
use Rattle.plan_model.proofs.Paths.{good-not_below, above_backup, backup-not_below, free_stage, good-off, backup-off, good-free, backup-free, above-free}
use Rattle.backup_keep.proofs.Kept.{backup_spot-same}
use Rattle.deploy_plan.proofs.Told.{Told, told_at, RowFacts, row_facts, WinFacts, win_facts, behind_unset}
use Rattle.deploy_plan.proofs.Sets.{SetCase, set_case, set_tells}
use Rattle.plan_model.proofs.Sounds.{sound_plan}

module _ (a : Disk) (old : Manifest) (wins : List Win) (can : CanDeploy a old wins) where
  abbrev m : Moves
  m = deploy_moves a old.rows wins

  -- a path of an old row or of a winner
  data Managed (t : List ℕ) : Type 0 where
    of_row : (r : Row) → Contains old.rows r → r.path ≡ t → Managed t
    of_win : (w : Win) → Contains wins w → w.path ≡ t → Managed t

  managed_good : (t : List ℕ) → Managed t → IsFreePath t
  managed_good t (of_row r c e) = subst IsFreePath e (row_free old.rows can.rows r c)
  managed_good t (of_win w c e) = subst IsFreePath e (win_free a wins can.won w c)

  managed_apart : (t u : List ℕ) → Managed t → Managed u → ¬ IsBelow (game_spot t) (game_spot u)
  managed_apart t u (of_row r c e) (of_row s d f) b = rows_apart old.rows can.rows r s c d (subst (λ q. IsBelow (game_spot q) (game_spot s.path)) (sym e) (subst (λ q. IsBelow (game_spot t) (game_spot q)) (sym f) b))
  managed_apart t u (of_row r c e) (of_win s d f) b = turned_above old.rows wins can.passes.turned s r d c (subst (λ q. IsBelow (game_spot q) (game_spot s.path)) (sym e) (subst (λ q. IsBelow (game_spot t) (game_spot q)) (sym f) b))
  managed_apart t u (of_win r c e) (of_row s d f) b = turned_below old.rows wins can.passes.turned r s c d (subst (λ q. IsBelow (game_spot q) (game_spot s.path)) (sym e) (subst (λ q. IsBelow (game_spot t) (game_spot q)) (sym f) b))
  managed_apart t u (of_win r c e) (of_win s d f) b = wins_apart a wins can.won r s c d (subst (λ q. IsBelow (game_spot q) (game_spot s.path)) (sym e) (subst (λ q. IsBelow (game_spot t) (game_spot q)) (sym f) b))

  -- where a destination stands
  data Stands (x : Spot) : Type 0 where
    at_path : (t : List ℕ) → game_spot t ≡ x → Managed t → Stands x
    at_backup : (w : Win) → case_of a old.rows wins (names_of w.path) ≡ covers w → backup_spot w.path ≡ x → Stands x

  row_stands : (x : Spot) (r : Row) → in_game x.names ≡ x → row_at old.rows x.names ≡ Some r → Stands x
  row_stands x r here e = let f = row_facts a old wins can x.names r e in at_path r.path (ap in_game f.here ∙ here) (of_row r f.listed refl)

  win_stands : (x : Spot) (w : Win) → in_game x.names ≡ x → winner_of wins x.names ≡ Some w → Stands x
  win_stands x w here e = let f = win_facts a old wins can x.names w e in at_path w.path (ap in_game f.here ∙ here) (of_win w f.listed refl)

  set_stands : (x : Spot) (v : Move) → SetCase a old.rows wins x v → Stands x
  set_stands x v (set_case c at here e) = by_case c (told_at a old.rows wins x.names c at) e
    where
      by_case : (c : Case) → Told a old.rows wins x.names c → set_by a c ≡ Some v → Stands x
      by_case untouched h e = absurd (cc)
      by_case (leaves r) h e = row_stands x r here h.0
      by_case (stays r) h e = absurd (cc)
      by_case (turns r w) h e = row_stands x r here h.0
      by_case (comes w) h e = win_stands x w here h.1
      by_case (covers w) h e = win_stands x w here h.1

  stands : (x : Spot) → IsTo m x → Stands x
  stands x (inl h) = set_stands x h.0 (set_tells a old.rows wins x h.0 h.1)
  stands x (inr h) = at_backup h.1.win h.1.case h.1.here

  win_good : (w : Win) → case_of a old.rows wins (names_of w.path) ≡ covers w → WinFacts a old wins can (names_of w.path) w
  win_good w e = win_facts a old wins can (names_of w.path) w (told_at a old.rows wins (names_of w.path) (covers w) e).1

  row_good : (r : Row) → case_of a old.rows wins (names_of r.path) ≡ leaves r → RowFacts a old wins can (names_of r.path) r
  row_good r e = row_facts a old wins can (names_of r.path) r (told_at a old.rows wins (names_of r.path) (leaves r) e).0

  -- a source
  data Source (y : Spot) : Type 0 where
    staged : (w : Win) → HasFile (a.now (won_spot w)) → won_spot w ≡ y → Source y
    backup : (r : Row) → case_of a old.rows wins (names_of r.path) ≡ leaves r → has_original a r ≡ true → backup_spot r.path ≡ y → Source y

  takes_source : (x y : Spot) → Takes m x y → Source y
  takes_source x y h = by_set (set_tells a old.rows wins x h.move h.set)
    where
      from_win : (w : Win) (back : Option Spot) → winner_of wins x.names ≡ Some w → Some (record { from = Some (won_spot w); back = back }) ≡ Some h.move → Source y
      from_win w back won e =
          let same : record { from = Some (won_spot w); back = back } ≡ h.move = cc in
          let t : Some (won_spot w) ≡ Some y = ap (λ (v : Move). v.from) same ∙ h.from in
          staged w (win_facts a old wins can x.names w won).staged (let i : won_spot w ≡ y = cc in i)

      from_row : (r : Row) (b : Bool) → case_of a old.rows wins x.names ≡ leaves r → row_at old.rows x.names ≡ Some r → has_original a r ≡ b → (if b then Some (backup_spot r.path) else None) ≡ Some y → Source y
      from_row r true at is o e = backup r (ap (case_of a old.rows wins) (row_facts a old wins can x.names r is).here ∙ at) o (let i : backup_spot r.path ≡ y = cc in i)
      from_row r false at is o e = absurd (cc)

      leaving : (r : Row) → case_of a old.rows wins x.names ≡ leaves r → row_at old.rows x.names ≡ Some r → Some (record { from = from_backup a r; back = Some (staged_of r) }) ≡ Some h.move → Source y
      leaving r at is e =
          let same : record { from = from_backup a r; back = Some (staged_of r) } ≡ h.move = cc in
          from_row r (has_original a r) at is refl (ap (λ (v : Move). v.from) same ∙ h.from)

      by_case : (c : Case) → case_of a old.rows wins x.names ≡ c → Told a old.rows wins x.names c → set_by a c ≡ Some h.move → Source y
      by_case untouched at t e = absurd (cc)
      by_case (leaves r) at t e = leaving r at t.0 e
      by_case (stays r) at t e = absurd (cc)
      by_case (turns r w) at t e = from_win w (Some (staged_of r)) t.1 e
      by_case (comes w) at t e = from_win w None t.1 e
      by_case (covers w) at t e = from_win w (Some (backup_spot w.path)) t.1 e

      by_set : SetCase a old.rows wins x h.move → Source y
      by_set (set_case c at here e) = by_case c at (told_at a old.rows wins x.names c at) e

  -- where what stood there stays
  data Rest (x y : Spot) : Type 0 where
    in_mod : (r : Row) → row_at old.rows x.names ≡ Some r → in_game x.names ≡ x → staged_of r ≡ y → Rest x y
    in_backup : (w : Win) → case_of a old.rows wins x.names ≡ covers w → names_of w.path ≡ x.names → in_game x.names ≡ x → backup_spot w.path ≡ y → Rest x y

  backs_rest : (x y : Spot) → Backs m x y → Rest x y
  backs_rest x y h = by_set (set_tells a old.rows wins x h.move h.set)
    where
      back_is : (from back : Option Spot) → Some (record { from = from; back = back }) ≡ Some h.move → back ≡ Some y
      back_is from back e = let same : record { from = from; back = back } ≡ h.move = cc in ap (λ (v : Move). v.back) same ∙ h.back

      inner : (z : Spot) → Some z ≡ Some y → z ≡ y
      inner z e = cc

      by_case : (c : Case) → case_of a old.rows wins x.names ≡ c → in_game x.names ≡ x → Told a old.rows wins x.names c → set_by a c ≡ Some h.move → Rest x y
      by_case untouched at here t e = absurd (cc)
      by_case (leaves r) at here t e = in_mod r t.0 here (inner (staged_of r) (back_is (from_backup a r) (Some (staged_of r)) e))
      by_case (stays r) at here t e = absurd (cc)
      by_case (turns r w) at here t e = in_mod r t.0 here (inner (staged_of r) (back_is (Some (won_spot w)) (Some (staged_of r)) e))
      by_case (comes w) at here t e = let never : None ≡ Some y = back_is (Some (won_spot w)) None e in absurd (cc)
      by_case (covers w) at here t e = in_backup w at (win_facts a old wins can x.names w t.1).here here (inner (backup_spot w.path) (back_is (Some (won_spot w)) (Some (backup_spot w.path)) e))

      by_set : SetCase a old.rows wins x h.move → Rest x y
      by_set (set_case c at here e) = by_case c at here (told_at a old.rows wins x.names c at) e

  apart_stands : (x y : Spot) → Stands x → Stands y → ¬ IsBelow x y
  apart_stands x y (at_path t e g) (at_path u f h) b = managed_apart t u g h (subst (λ z. IsBelow z (game_spot u)) (sym e) (subst (IsBelow x) (sym f) b))
  apart_stands x y (at_path t e g) (at_backup w c f) b =
      managed_apart t w.path g (of_win w (win_good w c).listed refl) (subst (λ z. IsBelow z (game_spot w.path)) (sym e) (above_backup x w.path (subst (IsBelow x) (sym f) b)))
  apart_stands x y (at_backup w c e) (at_path u f h) b = good-not_below u w.path (managed_good u h) (subst (λ z. IsBelow z (game_spot u)) (sym e) (subst (IsBelow x) (sym f) b))
  apart_stands x y (at_backup w c e) (at_backup v d f) b = backup-not_below v.path w.path (win_good v d).good (subst (λ z. IsBelow z (backup_spot v.path)) (sym e) (subst (IsBelow x) (sym f) b))

  clear_stands : (c x : Spot) → Frees a old.rows wins c → Stands x → ¬ IsBelow c x
  clear_stands c x h (at_path t e g) b = good-not_below t h.row.path (managed_good t g) (subst (λ z. IsBelow z (game_spot t)) (sym h.here) (subst (IsBelow c) (sym e) b))
  clear_stands c x h (at_backup w d e) b = backup-not_below w.path h.row.path (win_good w d).good (subst (λ z. IsBelow z (backup_spot w.path)) (sym h.here) (subst (IsBelow c) (sym e) b))

  free_stands : (x : Spot) → Stands x → IsFree x
  free_stands x (at_path t e g) = subst IsFree e (good-free t (managed_good t g))
  free_stands x (at_backup w c e) = subst IsFree e (backup-free w.path (win_good w c).good)

  free_over : (s x : Spot) → Stands x → IsBelow s x → s.names ≢ [] → IsFree s
  free_over s x (at_path t e g) b some = above-free s (names_of t) some (good-off t (managed_good t g)) (subst (IsBelow s) (sym e) b)
  free_over s x (at_backup w c e) b some = above-free s (backup_names (names_of w.path)) some (backup-off w.path (win_good w c).good) (subst (IsBelow s) (sym e) b)

  free_source : (y : Spot) → Source y → IsFree y
  free_source y (staged w f e) = subst IsFree e (free_stage w.mod_id (names_of w.source))
  free_source y (backup r c o e) = subst IsFree e (backup-free r.path (row_good r c).good)

  free_rest : (x y : Spot) → Rest x y → IsFree y
  free_rest x y (in_mod r is here e) = subst IsFree e (free_stage r.mod_id (names_of r.source))
  free_rest x y (in_backup w c n here e) = subst IsFree e (backup-free w.path (win_facts a old wins can x.names w (told_at a old.rows wins x.names (covers w) c).1).good)

  unset_backup : (t : List ℕ) (y : Spot) → backup_spot t ≡ y → m.sets y ≡ None
  unset_backup t y e = subst (λ z. m.sets z ≡ None) e (behind_unset a old wins can t)

  unset_source : (y : Spot) → Source y → m.sets y ≡ None
  unset_source y (staged w f e) = subst (λ z. m.sets z ≡ None) e refl
  unset_source y (backup r c o e) = unset_backup r.path y e

  unread : (y x : Spot) → Covers a old.rows wins y x → ¬ Source x
  unread y x h (staged w f e) = let t : Game ≡ Stage = ap (λ (s : Spot). s.root) (h.here ∙ sym e) in cc
  unread y x h (backup r c o e) =
      let p = backup_spot-same r.path h.win.path (e ∙ sym h.here) in
      let t : leaves r ≡ covers h.win = sym c ∙ ap (λ q. case_of a old.rows wins (names_of q)) p ∙ h.case in cc

  rest_stays : (x y : Spot) → Rest x y → m.saves x y ⊎ (y.root ≡ Stage) × (m.sets y ≡ None)
  rest_stays x y (in_mod r is here e) = inr (sym (ap (λ (s : Spot). s.root) e), subst (λ z. m.sets z ≡ None) e refl)
  rest_stays x y (in_backup w c n here e) = inl (record { win = w; case = ap (case_of a old.rows wins) n ∙ c; source = ap in_game n ∙ here; here = e })

  rules : ByRules m
  rules = record {
    free_to = λ x to. free_stands x (stands x to);
    free_from = λ x y h. free_source y (takes_source x y h);
    free_back = λ x y h. free_rest x y (backs_rest x y h);
    free_above = λ s x to b some. free_over s x (stands x to) b some;
    source_unset = λ x y h. unset_source y (takes_source x y h);
    save_unset = λ y x h. unset_backup h.win.path x h.here;
    save_unread = λ y x z h t. unread y x h (takes_source z x t);
    clear_unset = λ x h. unset_backup h.row.path x h.here;
    clear_keeps = λ x h. inl (h.row.path, (row_good h.row h.case).good.0, sym h.here);
    save_keeps = λ y x h. inl (h.win.path, (win_good h.win h.case).good.0, sym h.here);
    clear_used = λ x h. inl (
      game_spot h.row.path,
      record {
        move = record { from = from_backup a h.row; back = Some (staged_of h.row) };
        set = ap (set_by a) h.case;
        from = ap (λ b. if b then Some (backup_spot h.row.path) else None) h.original ∙ ap Some h.here;
      },
    );
    save_back = λ y x h. subst (λ z. Backs m z x) h.source (record {
      move = record { from = Some (won_spot h.win); back = Some (backup_spot h.win.path) };
      set = ap (set_by a) h.case;
      back = ap Some h.here;
    });
    back_stays = λ x y h. rest_stays x y (backs_rest x y h);
    apart = λ x y to others. apart_stands x y (stands x to) (stands y others);
    clear_apart = λ c x h to. clear_stands c x h (stands x to);
  }

  -- On the disk

  covered_file : (w : Win) → case_of a old.rows wins (names_of w.path) ≡ covers w → HasFile (a.now (game_spot w.path))
  covered_file w c = file_true (a.now (game_spot w.path)) (told_at a old.rows wins (names_of w.path) (covers w) c).2

  covered_absent : (w : Win) → case_of a old.rows wins (names_of w.path) ≡ covers w → kind_of a (backup_spot w.path) ≡ Absent
  covered_absent w c =
      can.passes.walk.free w ((win_good w c).listed, (told_at a old.rows wins (names_of w.path) (covers w) c).0) (has_file-kind a (game_spot w.path) can.valid (covered_file w c))

  source_there : (y : Spot) → Source y → IsFile a y
  source_there y (staged w f e) = subst (IsFile a) e (is_file-at a (won_spot w) f)
  source_there y (backup r c o e) = subst (IsFile a) e (is_file-at a (backup_spot r.path) (file_true (a.now (backup_spot r.path)) (both r.shadowed (is_file (a.now (backup_spot r.path))) o).1))

  rest_same : (x y : Spot) → Rest x y → m.saves x y ⊎ (IsFile a x × (a.now y ≡ a.now x))
  rest_same x y (in_mod r is here e) =
      let f = row_facts a old wins can x.names r is in
      inr (subst (IsFile a) here (is_file-at a (in_game x.names) f.deployed), ap a.now (sym e) ∙ sym f.one_file ∙ ap a.now here)
  rest_same x y (in_backup w c n here e) = inl (record { win = w; case = ap (case_of a old.rows wins) n ∙ c; source = ap in_game n ∙ here; here = e })

  no_kind : (x : Spot) → in_game x.names ≡ x → HasFile (a.now (in_game x.names)) → kind_of a x ≡ Absent → ⊥
  no_kind x here f e = file_some (a.now (in_game x.names)) f (ap a.now here ∙ (kind-absent a x e).1)

  back_none : (x : Spot) (v : Move) → SetCase a old.rows wins x v → (v.back ≡ None ↔ kind_of a x ≡ Absent)
  back_none x v (set_case c at here e) = by_case c (told_at a old.rows wins x.names c at) e
    where
      back_is : (from back : Option Spot) → Some (record { from = from; back = back }) ≡ Some v → back ≡ v.back
      back_is from back e = let same : record { from = from; back = back } ≡ v = cc in ap (λ (u : Move). u.back) same

      kept : (from : Option Spot) (y : Spot) → Some (record { from = from; back = Some y }) ≡ Some v → HasFile (a.now (in_game x.names)) → (v.back ≡ None ↔ kind_of a x ≡ Absent)
      kept from y e f = (λ n. let t : Some y ≡ None = back_is from (Some y) e ∙ n in absurd (cc), λ k. absurd (no_kind x here f k))

      absent : (w : Win) → Told a old.rows wins x.names (comes w) → kind_of a x ≡ Absent
      absent w t =
          let f = win_facts a old wins can x.names w t.1 in
          let spot : game_spot w.path ≡ x = ap in_game f.here ∙ here in
          elim (can.passes.walk.place w (f.listed, ap (row_at old.rows) f.here ∙ t.0)) [
            | inl k ↦ ap (kind_of a) (sym spot) ∙ k
            | inr k ↦
                let g = (kind-file a (game_spot w.path) k).1 in
                let u : true ≡ false = sym (ap is_file (ap (λ q. a.now (in_game q)) (sym f.here) ∙ g.1)) ∙ t.2 in absurd (cc)
          ]

      by_case : (c : Case) → Told a old.rows wins x.names c → set_by a c ≡ Some v → (v.back ≡ None ↔ kind_of a x ≡ Absent)
      by_case untouched t e = absurd (cc)
      by_case (leaves r) t e = kept (from_backup a r) (staged_of r) e (row_facts a old wins can x.names r t.0).deployed
      by_case (stays r) t e = absurd (cc)
      by_case (turns r w) t e = kept (Some (won_spot w)) (staged_of r) e (row_facts a old wins can x.names r t.0).deployed
      by_case (comes w) t e = (λ n. absent w t, λ k. sym (back_is (Some (won_spot w)) None e))
      by_case (covers w) t e = kept (Some (won_spot w)) (backup_spot w.path) e (file_true (a.now (in_game x.names)) t.2)

  -- a missing parent of a destination holds nothing
  over_file : (s : Spot) (t : List ℕ) → HasFile (a.now (game_spot t)) → IsBelow s (game_spot t) → a.folders s ≡ false → ⊥
  over_file s t f b missing = let u : true ≡ false = sym (above_value a can.valid s (game_spot t) b (file_some (a.now (game_spot t)) f)) ∙ missing in cc

  over_row : (s : Spot) (t : List ℕ) (r : Row) → row_at old.rows (names_of t) ≡ Some r → IsBelow s (game_spot t) → a.folders s ≡ false → ⊥
  over_row s t r is b missing = over_file s t (row_facts a old wins can (names_of t) r is).deployed b missing

  over_win : (s : Spot) (w : Win) → Contains wins w → (o : Option Row) → row_at old.rows (names_of w.path) ≡ o → IsBelow s (game_spot w.path) → a.folders s ≡ false → a.now s ≡ none
  over_win s w c (Some r) is b missing = absurd (over_row s w.path r is b missing)
  over_win s w c None is b missing = elim (can.passes.walk.parents w (c, is) s b) [
    | inl k ↦ (kind-absent a s k).1
    | inr k ↦ let u : true ≡ false = sym (kind-folder a s k) ∙ missing in absurd (cc)
  ]

  over_stands : (s x : Spot) → Stands x → IsBelow s x → a.folders s ≡ false → a.now s ≡ none
  over_stands s x (at_path t e (of_row r c f)) b missing = absurd (over_file s r.path (deployed_at r c) (subst (λ q. IsBelow s (game_spot q)) (sym f) (subst (IsBelow s) (sym e) b)) missing)
    where
      deployed_at : (r : Row) → Contains old.rows r → HasFile (a.now (game_spot r.path))
      deployed_at r c = (row_facts a old wins can (names_of r.path) r (row-here old.rows r can.rows.rise c)).deployed
  over_stands s x (at_path t e (of_win w c f)) b missing = over_win s w c (row_at old.rows (names_of w.path)) refl (subst (λ q. IsBelow s (game_spot q)) (sym f) (subst (IsBelow s) (sym e) b)) missing
  over_stands s x (at_backup w c e) b missing = absurd (over_file s w.path (covered_file w c) (above_backup s w.path (subst (IsBelow s) (sym e) b)) missing)

  disk : OnDisk a m
  disk = record {
    save_absent = λ y x h. ap (kind_of a) (sym h.here) ∙ covered_absent h.win h.case;
    save_source = λ y x h. subst (IsFile a) h.source (is_file-at a (game_spot h.win.path) (covered_file h.win h.case));
    source_file = λ x y h. source_there y (takes_source x y h);
    back_same = λ x y h. rest_same x y (backs_rest x y h);
    back_none = λ x v e. back_none x v (set_tells a old.rows wins x v e);
    parent_free = λ s x to b missing. over_stands s x (stands x to) b missing;
  }

  pub deploy_sound : (plan : Plan) → DeployPlan a old wins plan → SoundPlan a plan
  deploy_sound plan is = sound_plan a old.folders can.valid m plan is.moves is.folders rules (λ path c. good-free path (folder_free old.folders can.own path c)) disk
