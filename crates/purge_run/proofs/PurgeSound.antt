-- The plan of a purge is sound.
use Rattle.list_laws.proofs.Texts.{bytes_eq-itself}
use Rattle.desk_model.proofs.Cases.{head_is, tail_is}
use Rattle.rel_paths.specs.declared.control.Control.TheVariants as control
use Rattle.plan_model.proofs.Rows.{rows_apart, folder_free}
use Rattle.manifest_json.specs.declared.manifest.Manifest.{Manifest}
use Rattle.purge_run.proofs.Premises.{row_place, ready_for, AsideReady}
use Rattle.purge_run.specs.Holds.{aside_at, bare_set, Hold, unheld, linked, over, bare, hold_of, purge_set, FreesOriginal, purge_moves}
use Rattle.std.proofs.Common.{◌≡◌, ◌≢◌, ◌⊎◌, ◌↔◌, ℕ, Bool, true, false, if◌then◌else◌, List, [], ◌∷◌, ◌++◌, codes, refl, sym, ap, ◌∙◌, inl, inr, subst}
use Rattle.std.specs.List.{Contains}
use Rattle.std.specs.Str.{bytes_eq}
use Rattle.std.specs.Fmt.{decimal}
use Rattle.std.specs.declared.option.Option.{Option}
use Rattle.std.specs.declared.option.Option.TheVariants.{None, Some}
use Rattle.rel_paths.specs.Names.{names_of, IsFreePath}
use Rattle.rel_paths.specs.declared.control.Control.{Control}
use Rattle.rel_paths.specs.Controls.{control_path}
use Rattle.rel_paths.proofs.Truths.{both}
use Rattle.tree_fs.specs.declared.name.Kind.TheVariants.{Absent}
use Rattle.tree_fs.specs.declared.place.Root.TheVariants.{Stage, Game, Keep}
use Rattle.tree_fs.specs.Spot.{Spot, root_spot, IsBelow}
use Rattle.tree_fs.specs.Places.{game_spot}
use Rattle.tree_fs.specs.Texts.{root_word}
use Rattle.tree_fs.specs.Disk.{Disk, none, file, IsFile, kind_of}
use Rattle.tree_fs.proofs.KindOf.{kind-absent, kind-file, kind-folder, absent-kind}
use Rattle.manifest_json.specs.declared.manifest.Row.{Row}
use Rattle.move_plan.specs.declared.plan.Plan.{Plan}
use Rattle.backup_keep.specs.Places.{backup_spot, aside_folder}
use Rattle.move_plan.specs.Rules.{IsFree}
use Rattle.move_plan.specs.Sound.{SoundPlan}
use Rattle.desk_model.specs.Places.{Names, in_game, in_aside}
use Rattle.desk_model.specs.Records.{row_at}
use Rattle.change_detect.specs.Classes.{staged_of}
use Rattle.desk_model.specs.Desk.{is_file}
use Rattle.desk_model.proofs.Spots.{control-names}
use Rattle.plan_model.specs.Moves.{Move, Moves}
use Rattle.plan_model.specs.Rows.{has_original, from_backup}
use Rattle.purge_run.specs.Plans.{CanPurge, PurgePlan}
use Rattle.plan_model.specs.Sound.{Takes, Backs, IsTo, ByRules, OnDisk}
use Rattle.plan_model.proofs.Values.{HasFile, file_true, file_some, is_file-at}
use Rattle.tree_fs.proofs.Below.{above_value, above_folder, none_below}
use Rattle.plan_model.proofs.Paths.{good-not_below, above_path, free_stage, good-off, good-free, backup-free, above-free}
use Rattle.plan_model.proofs.Firsts.{row-some}
use Rattle.purge_run.proofs.Held.{Found, told_at, row_good, behind_unset, next_absent}
use Rattle.purge_run.proofs.Sets.{HoldCase, hold_case, set_tells}
use Rattle.plan_model.proofs.Sounds.{sound_plan}

-- `keep/aside` and what lies below it is free
control_apart : (which : Control) → bytes_eq (codes "aside") (control_path which) ≡ false
control_apart control.Intent = refl
control_apart control.IntentTemp = refl
control_apart control.ManifestTemp = refl
control_apart control.ProfileTemp = refl
control_apart control.Profile = refl
control_apart control.Manifest = refl

not_aside : (which : Control) → codes "aside" ≢ control_path which
not_aside which e = let t : false ≡ true = sym (control_apart which) ∙ ap (λ l. bytes_eq l (control_path which)) e ∙ bytes_eq-itself (control_path which) in cc

free_aside : (ns : Names) → IsFree (in_aside ns)
free_aside ns = record {
  not_root = λ e. cc;
  not_control = λ which e. not_aside which (head_is (codes "aside") (control_path which) ns [] (ap (λ (s : Spot). s.names) e ∙ control-names which));
  not_below = λ which b. not_aside which (head_is (codes "aside") (control_path which) ns (b.name ∷ b.rest) (b.names ∙ ap (λ l. l ++ b.name ∷ b.rest) (control-names which)));
}

-- what lies above an aside place
data AboveAside (s : Spot) (ns : Names) : Type 0 where
  the_root : s ≡ root_spot Keep → AboveAside s ns
  inside : (ms : Names) (name : List ℕ) (rest : Names) → s ≡ in_aside ms → ns ≡ ms ++ name ∷ rest → AboveAside s ns

above_aside : (s : Spot) (ns : Names) → IsBelow s (in_aside ns) → AboveAside s ns
above_aside s ns b = by_names s.names b.names refl
  where
    by_names : (ms : Names) → codes "aside" ∷ ns ≡ ms ++ b.name ∷ b.rest → s.names ≡ ms → AboveAside s ns
    by_names [] e is = the_root (λ i. record { root = sym b.root i; names = is i })
    by_names (y ∷ ys) e is =
        let first = head_is (codes "aside") y ns (ys ++ b.name ∷ b.rest) e in
        inside ys b.name b.rest (λ i. record { root = sym b.root i; names = (is ∙ ap (λ l. l ∷ ys) (sym first)) i }) (tail_is (codes "aside") y ns (ys ++ b.name ∷ b.rest) e)

module _ (a : Disk) (old : Manifest) (n : ℕ) (can : CanPurge a old n) where
  abbrev m : Moves
  m = purge_moves a old.rows n

  -- where a destination stands
  data Stands (x : Spot) : Type 0 where
    at_path : (r : Row) → row_at old.rows (names_of r.path) ≡ Some r → game_spot r.path ≡ x → HasFile (a.now x) ⊎ (has_original a r ≡ true) → Stands x
    at_aside : (r : Row) → hold_of a old.rows (names_of r.path) ≡ over r → aside_at n r.path ≡ x → Stands x

  row_path : (x : Spot) (r : Row) → in_game x.names ≡ x → row_at old.rows x.names ≡ Some r → (row_at old.rows (names_of r.path) ≡ Some r) × (game_spot r.path ≡ x)
  row_path x r here e = let g = row_good a old n can x.names r e in (ap (row_at old.rows) g.1 ∙ e, ap in_game g.1 ∙ here)

  set_stands : (x : Spot) (v : Move) → HoldCase a old.rows n x v → Stands x
  set_stands x v (hold_case h at here e) = by_hold h (told_at a old n can x.names h at) e
    where
      filed : (r : Row) → row_at old.rows x.names ≡ Some r → HasFile (a.now (game_spot r.path)) → Stands x
      filed r e f = let p = row_path x r here e in at_path r p.0 p.1 (inl (subst (λ y. HasFile (a.now y)) p.1 f))

      by_test : (r : Row) (b : Bool) → row_at old.rows x.names ≡ Some r → has_original a r ≡ b → bare_set a r b ≡ Some v → Stands x
      by_test r true e o s = let p = row_path x r here e in at_path r p.0 p.1 (inr o)
      by_test r false e o s = absurd (cc)

      by_hold : (h : Hold) → Found a old.rows x.names h → purge_set a n h ≡ Some v → Stands x
      by_hold unheld f e = absurd (cc)
      by_hold (linked r) f e = filed r f.0 f.1
      by_hold (over r) f e = filed r f.0 f.1
      by_hold (bare r) f e = by_test r (has_original a r) f.0 refl e

  stands : (x : Spot) → IsTo m x → Stands x
  stands x (inl h) = set_stands x h.0 (set_tells a old.rows n x h.0 h.1)
  stands x (inr h) = at_aside h.1.row h.1.case h.1.here

  good_at : (r : Row) → row_at old.rows (names_of r.path) ≡ Some r → IsFreePath r.path
  good_at r e = (row_good a old n can (names_of r.path) r e).0

  over_at : (r : Row) → hold_of a old.rows (names_of r.path) ≡ over r → row_at old.rows (names_of r.path) ≡ Some r
  over_at r c = (told_at a old n can (names_of r.path) (over r) c).0

  listed_at : (r : Row) → row_at old.rows (names_of r.path) ≡ Some r → Contains old.rows r
  listed_at r e = (row-some old.rows (names_of r.path) r e).0

  ready_at : (r : Row) → hold_of a old.rows (names_of r.path) ≡ over r → AsideReady a n
  ready_at r c = ready_for a old n can r (listed_at r (over_at r c)) (told_at a old n can (names_of r.path) (over r) c).2

  -- a source is the backup of its row
  record Source (x y : Spot) : Type 0 where
    row : Row
    at : row_at old.rows (names_of row.path) ≡ Some row
    original : has_original a row ≡ true
    here : backup_spot row.path ≡ y

  takes_source : (x y : Spot) → Takes m x y → Source x y
  takes_source x y h = by_set (set_tells a old.rows n x h.move h.set)
    where
      by_test : (r : Row) (b : Bool) → row_at old.rows x.names ≡ Some r → has_original a r ≡ b → (if b then Some (backup_spot r.path) else None) ≡ Some y → Source x y
      by_test r true e o s = record { row = r; at = ap (row_at old.rows) (row_good a old n can x.names r e).1 ∙ e; original = o; here = cc }
      by_test r false e o s = absurd (cc)

      by_move : (r : Row) (back : Option Spot) → row_at old.rows x.names ≡ Some r → Some (record { from = from_backup a r; back = back }) ≡ Some h.move → Source x y
      by_move r back e s =
          let same : record { from = from_backup a r; back = back } ≡ h.move = cc in
          by_test r (has_original a r) e refl (ap (λ (v : Move). v.from) same ∙ h.from)

      by_bare : (r : Row) (b : Bool) → row_at old.rows x.names ≡ Some r → has_original a r ≡ b → bare_set a r b ≡ Some h.move → Source x y
      by_bare r true e o s =
          let same : record { from = Some (backup_spot r.path); back = None } ≡ h.move = cc in
          by_test r true e o (ap (λ (v : Move). v.from) same ∙ h.from)
      by_bare r false e o s = absurd (cc)

      by_hold : (k : Hold) → Found a old.rows x.names k → purge_set a n k ≡ Some h.move → Source x y
      by_hold unheld f e = absurd (cc)
      by_hold (linked r) f e = by_move r (Some (staged_of r)) f.0 e
      by_hold (over r) f e = by_move r (Some (aside_at n r.path)) f.0 e
      by_hold (bare r) f e = by_bare r (has_original a r) f.0 refl e

      by_set : HoldCase a old.rows n x h.move → Source x y
      by_set (hold_case k at here e) = by_hold k (told_at a old n can x.names k at) e

  -- where what stood there stays
  data Rest (x y : Spot) : Type 0 where
    in_mod : (r : Row) → HasFile (a.now x) → a.now y ≡ a.now x → staged_of r ≡ y → Rest x y
    in_aside_place : (r : Row) → hold_of a old.rows (names_of r.path) ≡ over r → game_spot r.path ≡ x → aside_at n r.path ≡ y → Rest x y

  backs_rest : (x y : Spot) → Backs m x y → Rest x y
  backs_rest x y h = by_set (set_tells a old.rows n x h.move h.set)
    where
      back_is : (from back : Option Spot) → Some (record { from = from; back = back }) ≡ Some h.move → back ≡ Some y
      back_is from back e = let same : record { from = from; back = back } ≡ h.move = cc in ap (λ (v : Move). v.back) same ∙ h.back

      inner : (z : Spot) → Some z ≡ Some y → z ≡ y
      inner z e = cc

      by_bare : (r : Row) (b : Bool) → bare_set a r b ≡ Some h.move → Rest x y
      by_bare r true e = let t : None ≡ Some y = back_is (Some (backup_spot r.path)) None e in absurd (cc)
      by_bare r false e = absurd (cc)

      by_hold : (k : Hold) → hold_of a old.rows x.names ≡ k → in_game x.names ≡ x → Found a old.rows x.names k → purge_set a n k ≡ Some h.move → Rest x y
      by_hold unheld at here f e = absurd (cc)
      by_hold (linked r) at here f e =
          let p = row_path x r here f.0 in
          let s = inner (staged_of r) (back_is (from_backup a r) (Some (staged_of r)) e) in
          in_mod r (subst (λ z. HasFile (a.now z)) p.1 f.1) (ap a.now (sym s) ∙ sym f.2 ∙ ap a.now p.1) s
      by_hold (over r) at here f e =
          let g = row_good a old n can x.names r f.0 in
          in_aside_place r (ap (hold_of a old.rows) g.1 ∙ at) (ap in_game g.1 ∙ here) (inner (aside_at n r.path) (back_is (from_backup a r) (Some (aside_at n r.path)) e))
      by_hold (bare r) at here f e = by_bare r (has_original a r) e

      by_set : HoldCase a old.rows n x h.move → Rest x y
      by_set (hold_case k at here e) = by_hold k at here (told_at a old n can x.names k at) e

  game_apart : (r s : Row) → row_at old.rows (names_of r.path) ≡ Some r → row_at old.rows (names_of s.path) ≡ Some s → ¬ IsBelow (game_spot r.path) (game_spot s.path)
  game_apart r s e f = rows_apart old.rows can.rows r s (listed_at r e) (listed_at s f)

  aside_below : (r s : Row) → IsBelow (aside_at n r.path) (aside_at n s.path) → IsBelow (game_spot r.path) (game_spot s.path)
  aside_below r s b = record { root = refl; name = b.name; rest = b.rest; names = cut }
    where
      cut : names_of s.path ≡ names_of r.path ++ b.name ∷ b.rest
      cut =
          tail_is (root_word Game) (root_word Game) (names_of s.path) (names_of r.path ++ b.name ∷ b.rest)
          (tail_is (decimal n) (decimal n) (root_word Game ∷ names_of s.path) (root_word Game ∷ (names_of r.path ++ b.name ∷ b.rest))
          (tail_is (codes "aside") (codes "aside") (decimal n ∷ root_word Game ∷ names_of s.path) (decimal n ∷ root_word Game ∷ (names_of r.path ++ b.name ∷ b.rest)) b.names))

  apart_stands : (x y : Spot) → Stands x → Stands y → ¬ IsBelow x y
  apart_stands x y (at_path r e f g) (at_path s h i j) b = game_apart r s e h (subst (λ z. IsBelow z (game_spot s.path)) (sym f) (subst (IsBelow x) (sym i) b))
  apart_stands x y (at_path r e f g) (at_aside s h i) b = let t : Keep ≡ Game = ap (λ (s : Spot). s.root) i ∙ b.root ∙ ap (λ (s : Spot). s.root) (sym f) in cc
  apart_stands x y (at_aside r e f) (at_path s h i j) b = let t : Game ≡ Keep = ap (λ (s : Spot). s.root) i ∙ b.root ∙ ap (λ (s : Spot). s.root) (sym f) in cc
  apart_stands x y (at_aside r e f) (at_aside s h i) b = game_apart r s (over_at r e) (over_at s h) (aside_below r s (subst (λ z. IsBelow z (aside_at n s.path)) (sym f) (subst (IsBelow x) (sym i) b)))

  clear_stands : (c x : Spot) → FreesOriginal a old.rows c → Stands x → ¬ IsBelow c x
  clear_stands c x h (at_path r e f g) b = good-not_below r.path h.row.path (good_at r e) (subst (λ z. IsBelow z (game_spot r.path)) (sym h.here) (subst (IsBelow c) (sym f) b))
  clear_stands c x h (at_aside r e f) b = let t : Keep ≡ Game = ap (λ (s : Spot). s.root) f ∙ b.root ∙ ap (λ (s : Spot). s.root) (sym h.here) in cc

  free_stands : (x : Spot) → Stands x → IsFree x
  free_stands x (at_path r e f g) = subst IsFree f (good-free r.path (good_at r e))
  free_stands x (at_aside r e f) = subst IsFree f (free_aside (decimal n ∷ root_word Game ∷ names_of r.path))

  free_over : (s x : Spot) → Stands x → IsBelow s x → s.names ≢ [] → IsFree s
  free_over s x (at_path r e f g) b some = above-free s (names_of r.path) some (good-off r.path (good_at r e)) (subst (IsBelow s) (sym f) b)
  free_over s x (at_aside r e f) b some = elim (above_aside s (decimal n ∷ root_word Game ∷ names_of r.path) (subst (IsBelow s) (sym f) b)) [
    | the_root is ↦ absurd (some (ap (λ (z : Spot). z.names) is))
    | inside ms name rest is e ↦ subst IsFree (sym is) (free_aside ms)
  ]

  free_rest : (x y : Spot) → Rest x y → IsFree y
  free_rest x y (in_mod r f e h) = subst IsFree h (free_stage r.mod_id (names_of r.source))
  free_rest x y (in_aside_place r c f e) = subst IsFree e (free_aside (decimal n ∷ root_word Game ∷ names_of r.path))

  unset_backup : (t : List ℕ) (y : Spot) → backup_spot t ≡ y → m.sets y ≡ None
  unset_backup t y e = subst (λ z. m.sets z ≡ None) e (behind_unset a old n can t)

  rest_stays : (x y : Spot) → Rest x y → m.saves x y ⊎ (y.root ≡ Stage) × (m.sets y ≡ None)
  rest_stays x y (in_mod r f e h) = inr (sym (ap (λ (s : Spot). s.root) h), subst (λ z. m.sets z ≡ None) h refl)
  rest_stays x y (in_aside_place r c f e) = inl (record { row = r; case = c; source = f; here = e })

  -- the set that uses a row's backup
  used : (r : Row) → row_at old.rows (names_of r.path) ≡ Some r → has_original a r ≡ true → (h : Hold) → hold_of a old.rows (names_of r.path) ≡ h → Found a old.rows (names_of r.path) h → Takes m (game_spot r.path) (backup_spot r.path)
  used r e o unheld at f = let t : Some r ≡ None = sym e ∙ f in absurd (cc)
  used r e o (linked s) at f =
      let t : Some s ≡ Some r = sym f.0 ∙ e in let same : s ≡ r = cc in
      record { move = record { from = from_backup a s; back = Some (staged_of s) }; set = ap (purge_set a n) at; from = ap (from_backup a) same ∙ ap (λ b. if b then Some (backup_spot r.path) else None) o }
  used r e o (over s) at f =
      let t : Some s ≡ Some r = sym f.0 ∙ e in let same : s ≡ r = cc in
      record { move = record { from = from_backup a s; back = Some (aside_at n s.path) }; set = ap (purge_set a n) at; from = ap (from_backup a) same ∙ ap (λ b. if b then Some (backup_spot r.path) else None) o }
  used r e o (bare s) at f =
      let t : Some s ≡ Some r = sym f.0 ∙ e in let same : s ≡ r = cc in
      record {
        move = record { from = Some (backup_spot s.path); back = None };
        set = ap (purge_set a n) at ∙ ap (bare_set a s) (ap (has_original a) same ∙ o);
        from = ap (λ (q : Row). Some (backup_spot q.path)) same;
      }

  rules : ByRules m
  rules = record {
    free_to = λ x to. free_stands x (stands x to);
    free_from = λ x y h. let s = takes_source x y h in subst IsFree s.here (backup-free s.row.path (good_at s.row s.at));
    free_back = λ x y h. free_rest x y (backs_rest x y h);
    free_above = λ s x to b some. free_over s x (stands x to) b some;
    source_unset = λ x y h. let s = takes_source x y h in unset_backup s.row.path y s.here;
    save_unset = λ y x h. subst (λ z. m.sets z ≡ None) h.here refl;
    save_unread = λ y x z h t. let s = takes_source z x t in let k : Keep ≡ Game = ap (λ (s : Spot). s.root) (h.here ∙ sym s.here) in cc;
    clear_unset = λ x h. unset_backup h.row.path x h.here;
    clear_keeps = λ x h. inl (h.row.path, (good_at h.row h.at).0, sym h.here);
    save_keeps = λ y x h. inr (subst (IsBelow aside_folder) h.here (record { root = refl; name = decimal n; rest = root_word Game ∷ names_of h.row.path; names = refl }));
    clear_used = λ x h. inl (game_spot h.row.path, subst (Takes m (game_spot h.row.path)) h.here (used h.row h.at h.original (hold_of a old.rows (names_of h.row.path)) refl (told_at a old n can (names_of h.row.path) _ refl)));
    save_back = λ y x h. subst (λ z. Backs m z x) h.source (record {
      move = record { from = from_backup a h.row; back = Some (aside_at n h.row.path) };
      set = ap (purge_set a n) h.case;
      back = ap Some h.here;
    });
    back_stays = λ x y h. rest_stays x y (backs_rest x y h);
    apart = λ x y to others. apart_stands x y (stands x to) (stands y others);
    clear_apart = λ c x h to. clear_stands c x h (stands x to);
  }

  -- On the disk

  original_file : (r : Row) → has_original a r ≡ true → HasFile (a.now (backup_spot r.path))
  original_file r o = file_true (a.now (backup_spot r.path)) (both r.shadowed (is_file (a.now (backup_spot r.path))) o).1

  over_file : (r : Row) → hold_of a old.rows (names_of r.path) ≡ over r → HasFile (a.now (game_spot r.path))
  over_file r c = (told_at a old n can (names_of r.path) (over r) c).1

  aside_absent : (r : Row) → hold_of a old.rows (names_of r.path) ≡ over r → kind_of a (aside_at n r.path) ≡ Absent
  aside_absent r c =
      let k = kind-absent a (in_aside (decimal n ∷ [])) (next_absent a n (ready_at r c)) in
      let b : IsBelow (in_aside (decimal n ∷ [])) (aside_at n r.path) = record { root = refl; name = root_word Game; rest = names_of r.path; names = refl } in
      absent-kind a (aside_at n r.path) (by_test (a.folders (aside_at n r.path)) refl b k.0) (none_below a can.valid (in_aside (decimal n ∷ [])) (aside_at n r.path) b k.0)
    where
      by_test : (t : Bool) → a.folders (aside_at n r.path) ≡ t → IsBelow (in_aside (decimal n ∷ [])) (aside_at n r.path) → a.folders (in_aside (decimal n ∷ [])) ≡ false → t ≡ false
      by_test false e b missing = refl
      by_test true e b missing = let t : true ≡ false = sym (above_folder a can.valid (in_aside (decimal n ∷ [])) (aside_at n r.path) b e) ∙ missing in absurd (cc)

  rest_same : (x y : Spot) → Rest x y → m.saves x y ⊎ (IsFile a x × (a.now y ≡ a.now x))
  rest_same x y (in_mod r f e h) = inr (is_file-at a x f, e)
  rest_same x y (in_aside_place r c f e) = inl (record { row = r; case = c; source = f; here = e })

  back_none : (x : Spot) (v : Move) → HoldCase a old.rows n x v → (v.back ≡ None ↔ kind_of a x ≡ Absent)
  back_none x v (hold_case h at here e) = by_hold h (told_at a old n can x.names h at) e
    where
      back_is : (from back : Option Spot) → Some (record { from = from; back = back }) ≡ Some v → back ≡ v.back
      back_is from back e = let same : record { from = from; back = back } ≡ v = cc in ap (λ (u : Move). u.back) same

      kept : (r : Row) (from : Option Spot) (y : Spot) → row_at old.rows x.names ≡ Some r → Some (record { from = from; back = Some y }) ≡ Some v → HasFile (a.now (game_spot r.path)) → (v.back ≡ None ↔ kind_of a x ≡ Absent)
      kept r from y i e f = (
        λ u. let t : Some y ≡ None = back_is from (Some y) e ∙ u in absurd (cc),
        λ k. absurd (file_some (a.now (game_spot r.path)) f (ap a.now (row_path x r here i).1 ∙ (kind-absent a x k).1)),
      )

      bare_absent : (r : Row) → row_at old.rows x.names ≡ Some r → a.now (game_spot r.path) ≡ none → kind_of a x ≡ Absent
      bare_absent r i free =
          let p = row_path x r here i in
          elim (row_place a old.rows can.passes.unblocked r (listed_at r p.0)) [
            | inl k ↦ ap (kind_of a) (sym p.1) ∙ k
            | inr k ↦ let g = (kind-file a (game_spot r.path) k).1 in let t : file g.0 ≡ none = sym g.1 ∙ free in absurd (cc)
          ]

      by_bare : (r : Row) (b : Bool) → row_at old.rows x.names ≡ Some r → a.now (game_spot r.path) ≡ none → bare_set a r b ≡ Some v → (v.back ≡ None ↔ kind_of a x ≡ Absent)
      by_bare r false i free e = absurd (cc)
      by_bare r true i free e = (λ u. bare_absent r i free, λ k. sym (back_is (Some (backup_spot r.path)) None e))

      by_hold : (h : Hold) → Found a old.rows x.names h → purge_set a n h ≡ Some v → (v.back ≡ None ↔ kind_of a x ≡ Absent)
      by_hold unheld f e = absurd (cc)
      by_hold (linked r) f e = kept r (from_backup a r) (staged_of r) f.0 e f.1
      by_hold (over r) f e = kept r (from_backup a r) (aside_at n r.path) f.0 e f.1
      by_hold (bare r) f e = by_bare r (has_original a r) f.0 f.1 e

  -- a missing parent of a destination holds nothing
  over_there : (s x : Spot) → HasFile (a.now x) → IsBelow s x → a.folders s ≡ false → ⊥
  over_there s x f b missing = let u : true ≡ false = sym (above_value a can.valid s x b (file_some (a.now x) f)) ∙ missing in cc

  over_aside : (r : Row) (s : Spot) (ms : Names) (name : List ℕ) (rest : Names) → hold_of a old.rows (names_of r.path) ≡ over r → s ≡ in_aside ms → decimal n ∷ root_word Game ∷ names_of r.path ≡ ms ++ name ∷ rest → a.folders s ≡ false → a.now s ≡ none
  over_aside r s [] name rest c is e missing = elim (ready_at r c).folder [
    | inl k ↦ ap a.now is ∙ (kind-absent a aside_folder k).1
    | inr k ↦ let u : true ≡ false = sym (kind-folder a aside_folder k) ∙ ap a.folders (sym is) ∙ missing in absurd (cc)
  ]
  over_aside r s (y ∷ []) name rest c is e missing =
      let first = head_is (decimal n) y (root_word Game ∷ names_of r.path) (name ∷ rest) e in
      ap a.now (is ∙ ap (λ z. in_aside (z ∷ [])) (sym first)) ∙ (kind-absent a (in_aside (decimal n ∷ [])) (next_absent a n (ready_at r c))).1
  over_aside r s (y ∷ z ∷ zs) name rest c is e missing =
      let first = head_is (decimal n) y (root_word Game ∷ names_of r.path) (z ∷ (zs ++ name ∷ rest)) e in
      ap a.now (is ∙ ap (λ w. in_aside (w ∷ z ∷ zs)) (sym first))
      ∙ none_below a can.valid (in_aside (decimal n ∷ [])) (in_aside (decimal n ∷ z ∷ zs)) (record { root = refl; name = z; rest = zs; names = refl }) (kind-absent a (in_aside (decimal n ∷ [])) (next_absent a n (ready_at r c))).0

  over_stands : (s x : Spot) → Stands x → IsBelow s x → a.folders s ≡ false → a.now s ≡ none
  over_stands s x (at_path r e f (inl has)) b missing = absurd (over_there s x has b missing)
  over_stands s x (at_path r e f (inr o)) b missing = absurd (over_there s (backup_spot r.path) (original_file r o) (above_path s r.path (subst (IsBelow s) (sym f) b)) missing)
  over_stands s x (at_aside r c f) b missing = elim (above_aside s (decimal n ∷ root_word Game ∷ names_of r.path) (subst (IsBelow s) (sym f) b)) [
    | the_root is ↦ let u : true ≡ false = sym (can.valid.roots Keep) ∙ ap a.folders (sym is) ∙ missing in absurd (cc)
    | inside ms name rest is e ↦ over_aside r s ms name rest c is e missing
  ]

  disk : OnDisk a m
  disk = record {
    save_absent = λ y x h. ap (kind_of a) (sym h.here) ∙ aside_absent h.row h.case;
    save_source = λ y x h. subst (IsFile a) h.source (is_file-at a (game_spot h.row.path) (over_file h.row h.case));
    source_file = λ x y h. let s = takes_source x y h in subst (IsFile a) s.here (is_file-at a (backup_spot s.row.path) (original_file s.row s.original));
    back_same = λ x y h. rest_same x y (backs_rest x y h);
    back_none = λ x v e. back_none x v (set_tells a old.rows n x v e);
    parent_free = λ s x to b missing. over_stands s x (stands x to) b missing;
  }

  pub purge_sound : (plan : Plan) → PurgePlan a old n plan → SoundPlan a plan
  purge_sound plan is = sound_plan a old.folders can.valid m plan is.moves is.folders rules (λ path c. good-free path (folder_free old.folders can.own path c)) disk
