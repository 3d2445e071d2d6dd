-- Where the destinations of a settlement stand, where its sources do, and what it clears.
use Rattle.std.proofs.Common.{◌≡◌, ℕ, Bool, true, false, if◌then◌else◌, refl, sym, ap, ◌∙◌, inl, inr, subst}
use Rattle.std.specs.List.{Contains}
use Rattle.std.specs.declared.option.Option.{Option}
use Rattle.std.specs.declared.option.Option.TheVariants.{None, Some}
use Rattle.rel_paths.proofs.Truths.{both}
use Rattle.tree_fs.specs.declared.name.Kind.TheVariants.{Absent, File}
use Rattle.tree_fs.specs.Spot.{Spot, IsBelow}
use Rattle.tree_fs.specs.Places.{game_spot}
use Rattle.tree_fs.specs.Disk.{Disk, none, kind_of}
use Rattle.tree_fs.proofs.KindOf.{kind-absent, kind-folder}
use Rattle.tree_fs.proofs.Below.{above_value}
use Rattle.backup_keep.specs.Places.{backup_spot, aside_spot}
use Rattle.manifest_json.specs.declared.manifest.Row.{Row}
use Rattle.manifest_json.specs.declared.manifest.Manifest.{Manifest}
use Rattle.change_detect.specs.Classes.{staged_of}
use Rattle.move_plan.specs.Rules.{IsFree}
use Rattle.desk_model.specs.Places.{IsUsers}
use Rattle.desk_model.specs.Desk.{is_file}
use Rattle.desk_model.specs.Settled.{Choice, Deed, left_whole, put_aside, imported, reverted, accepted, linked_again, staged_again, let_go, dropped, deed_of}
use Rattle.plan_model.specs.Rows.{has_original, from_backup}
use Rattle.plan_model.specs.Moves.{Move, Moves}
use Rattle.plan_model.specs.Sound.{Takes, Backs, IsTo}
use Rattle.plan_model.proofs.Values.{HasFile, file_true, file_some}
use Rattle.plan_model.proofs.Paths.{backup-free, above_path}
use Rattle.change_settle.specs.Deeds.{moved, original_move, game_move, stage_move, saved_spot, cleared_spot, settle_moves}
use Rattle.change_settle.specs.Refusals.{restored_spot}
use Rattle.change_settle.specs.Plans.{CanSettle}
use Rattle.change_settle.proofs.Premises.{told_at, free_path, kind_has_file}
use Rattle.change_settle.proofs.Sets.{SetCase, at_game, at_stage, set_tells, game_set, stage_set, behind_unset}
use Rattle.change_settle.proofs.RowPlaces.{RowPlace, in_game, in_mod, row_free_place}
use Rattle.change_settle.proofs.Saved.{ready, above_none}

pub original_file : (a : Disk) (r : Row) → has_original a r ≡ true → HasFile (a.now (backup_spot r.path))
original_file a r o = file_true (a.now (backup_spot r.path)) (both r.shadowed (is_file (a.now (backup_spot r.path))) o).1

module _ (choice : Choice) (a : Disk) (old : Manifest) (n : ℕ) (can : CanSettle choice a old n) where
  abbrev m : Moves
  m = settle_moves choice a old.rows n

  -- why the folders above the place of a row can be had
  pub data Why (x : Spot) : Type 0 where
    filed : HasFile (a.now x) → Why x
    replaced : (r : Row) → game_spot r.path ≡ x → has_original a r ≡ true → Why x
    restored : (r : Row) → Contains old.rows r → restored_spot r (deed_of choice a r) ≡ Some x → a.now x ≡ none → Why x

  -- a destination is the place of a row, or one where a file is set aside
  pub data Stands (x : Spot) : Type 0 where
    at_row : RowPlace old.rows x → Why x → Stands x
    at_aside : (r : Row) (y : Spot) → Contains old.rows r → saved_spot r (deed_of choice a r) ≡ Some y → aside_spot n y ≡ x → Stands x

  pub set_stands : (x : Spot) (v : Move) → SetCase choice a old.rows n x v → Stands x
  set_stands x v (at_game r c here e) = at_row (in_game r c here) (by_deed (deed_of choice a r) refl e)
    where
      by_original : (b : Bool) → has_original a r ≡ b → original_move r b ≡ Some v → Why x
      by_original true o s = replaced r here o
      by_original false o s = absurd (cc)

      by_file : kind_of a (game_spot r.path) ≡ File → Why x
      by_file k = filed (subst (λ y. HasFile (a.now y)) here (kind_has_file a (game_spot r.path) k))

      by_deed : (d : Deed) → deed_of choice a r ≡ d → game_move a n r d ≡ Some v → Why x
      by_deed put_aside is s = by_file (told_at choice a old n can r c put_aside is).here
      by_deed reverted is s = by_file (told_at choice a old n can r c reverted is).here
      by_deed let_go is s = by_file (told_at choice a old n can r c let_go is).here
      by_deed linked_again is s = restored r c (ap (restored_spot r) is ∙ ap Some here) (ap a.now (sym here) ∙ (kind-absent a (game_spot r.path) (told_at choice a old n can r c linked_again is).here).1)
      by_deed dropped is s = by_original (has_original a r) refl s
      by_deed left_whole is s = absurd (cc)
      by_deed imported is s = absurd (cc)
      by_deed accepted is s = absurd (cc)
      by_deed staged_again is s = absurd (cc)
  set_stands x v (at_stage r c here e) = at_row (in_mod r c here) (by_deed (deed_of choice a r) refl e)
    where
      by_deed : (d : Deed) → deed_of choice a r ≡ d → stage_move n r d ≡ Some v → Why x
      by_deed imported is s = filed (subst (λ y. HasFile (a.now y)) here (kind_has_file a (staged_of r) (told_at choice a old n can r c imported is).staged))
      by_deed staged_again is s = restored r c (ap (restored_spot r) is ∙ ap Some here) (ap a.now (sym here) ∙ (kind-absent a (staged_of r) (told_at choice a old n can r c staged_again is).staged).1)
      by_deed left_whole is s = absurd (cc)
      by_deed put_aside is s = absurd (cc)
      by_deed reverted is s = absurd (cc)
      by_deed accepted is s = absurd (cc)
      by_deed linked_again is s = absurd (cc)
      by_deed let_go is s = absurd (cc)
      by_deed dropped is s = absurd (cc)

  pub stands : (x : Spot) → IsTo m x → Stands x
  stands x (inl h) = set_stands x h.0 (set_tells choice a old.rows n x h.0 h.1)
  stands x (inr h) = at_aside h.1.row h.0 h.1.listed h.1.saved h.1.here

  -- a missing folder above a destination holds nothing
  over_there : (s x : Spot) → HasFile (a.now x) → IsBelow s x → a.folders s ≡ false → ⊥
  over_there s x f b missing = let u : true ≡ false = sym (above_value a can.valid s x b (file_some (a.now x) f)) ∙ missing in cc

  pub over_stands : (s x : Spot) → Stands x → IsBelow s x → a.folders s ≡ false → a.now s ≡ none
  over_stands s x (at_row place (filed f)) b missing = absurd (over_there s x f b missing)
  over_stands s x (at_row place (replaced r here o)) b missing = absurd (over_there s (backup_spot r.path) (original_file a r o) (above_path s r.path (subst (IsBelow s) (sym here) b)) missing)
  over_stands s x (at_row place (restored r c e free)) b missing = elim (can.passes.walk.parents r x c e s b) [
    | inl k ↦ (kind-absent a s k).1
    | inr k ↦ let u : true ≡ false = sym (kind-folder a s k) ∙ missing in absurd (cc)
  ]
  over_stands s x (at_aside r y c e here) b missing = above_none choice a old n can y s (ready choice a old n can r y c e) (subst (IsBelow s) (sym here) b) missing

  -- a source is a file that stays where it is
  pub record Source (y : Spot) : Type 0 where
    pub file : HasFile (a.now y)
    pub unset : m.sets y ≡ None
    pub users : IsUsers y.root
    pub free : IsFree y

  from_behind : (r : Row) → Contains old.rows r → has_original a r ≡ true → Source (backup_spot r.path)
  from_behind r c o = record {
    file = original_file a r o;
    unset = behind_unset choice a old n can r.path;
    users = tt;
    free = backup-free r.path (free_path choice a old n can r c);
  }

  from_stage : (r : Row) → Contains old.rows r → kind_of a (staged_of r) ≡ File → stage_move n r (deed_of choice a r) ≡ None → Source (staged_of r)
  from_stage r c k still = record {
    file = kind_has_file a (staged_of r) k;
    unset = stage_set choice a old n can r c ∙ still;
    users = tt;
    free = row_free_place old.rows can.rows (staged_of r) (in_mod r c refl);
  }

  from_game : (r : Row) → Contains old.rows r → kind_of a (game_spot r.path) ≡ File → game_move a n r (deed_of choice a r) ≡ None → Source (game_spot r.path)
  from_game r c k still = record {
    file = kind_has_file a (game_spot r.path) k;
    unset = game_set choice a old n can r c ∙ still;
    users = tt;
    free = row_free_place old.rows can.rows (game_spot r.path) (in_game r c refl);
  }

  module _ (v : Move) (y : Spot) (from : v.from ≡ Some y) where
    source_is : (x : Spot) (back : Option Spot) → moved x back ≡ Some v → x ≡ y
    source_is x back e =
        let same : record { from = Some x; back = back } ≡ v = cc in
        let t : Some x ≡ Some y = ap (λ (u : Move). u.from) same ∙ from in cc

    original_source : (r : Row) (b : Bool) → Contains old.rows r → has_original a r ≡ b → (if b then Some (backup_spot r.path) else None) ≡ Some y → Source y
    original_source r true c o e = let is : backup_spot r.path ≡ y = cc in subst Source is (from_behind r c o)
    original_source r false c o e = absurd (cc)

    bare_source : (r : Row) (b : Bool) → Contains old.rows r → has_original a r ≡ b → original_move r b ≡ Some v → Source y
    bare_source r true c o e = subst Source (source_is (backup_spot r.path) None e) (from_behind r c o)
    bare_source r false c o e = absurd (cc)

    set_source : (x : Spot) → SetCase choice a old.rows n x v → Source y
    set_source x (at_game r c here e) = by_deed (deed_of choice a r) refl e
      where
        by_deed : (d : Deed) → deed_of choice a r ≡ d → game_move a n r d ≡ Some v → Source y
        by_deed put_aside is s = subst Source (source_is (staged_of r) _ s) (from_stage r c (told_at choice a old n can r c put_aside is).staged (ap (stage_move n r) is))
        by_deed reverted is s = subst Source (source_is (staged_of r) _ s) (from_stage r c (told_at choice a old n can r c reverted is).staged (ap (stage_move n r) is))
        by_deed linked_again is s = subst Source (source_is (staged_of r) _ s) (from_stage r c (told_at choice a old n can r c linked_again is).staged (ap (stage_move n r) is))
        by_deed let_go is s =
            let same : record { from = from_backup a r; back = Some (aside_spot n (game_spot r.path)) } ≡ v = cc in
            original_source r (has_original a r) c refl (ap (λ (u : Move). u.from) same ∙ from)
        by_deed dropped is s = bare_source r (has_original a r) c refl s
        by_deed left_whole is s = absurd (cc)
        by_deed imported is s = absurd (cc)
        by_deed accepted is s = absurd (cc)
        by_deed staged_again is s = absurd (cc)
    set_source x (at_stage r c here e) = by_deed (deed_of choice a r) refl e
      where
        by_deed : (d : Deed) → deed_of choice a r ≡ d → stage_move n r d ≡ Some v → Source y
        by_deed imported is s = subst Source (source_is (game_spot r.path) _ s) (from_game r c (told_at choice a old n can r c imported is).here (ap (game_move a n r) is))
        by_deed staged_again is s = subst Source (source_is (game_spot r.path) _ s) (from_game r c (told_at choice a old n can r c staged_again is).here (ap (game_move a n r) is))
        by_deed left_whole is s = absurd (cc)
        by_deed put_aside is s = absurd (cc)
        by_deed reverted is s = absurd (cc)
        by_deed accepted is s = absurd (cc)
        by_deed linked_again is s = absurd (cc)
        by_deed let_go is s = absurd (cc)
        by_deed dropped is s = absurd (cc)

  pub takes_source : (x y : Spot) → Takes m x y → Source y
  takes_source x y h = set_source h.move y h.from x (set_tells choice a old.rows n x h.move h.set)

  -- what stood at a destination of a set is set aside, or there was nothing
  pub data Back (x : Spot) (v : Move) : Type 0 where
    aside : (r : Row) → Contains old.rows r → saved_spot r (deed_of choice a r) ≡ Some x → v.back ≡ Some (aside_spot n x) → kind_of a x ≡ File → Back x v
    nothing : v.back ≡ None → kind_of a x ≡ Absent → Back x v

  pub set_back : (x : Spot) (v : Move) → SetCase choice a old.rows n x v → Back x v
  set_back x v (at_game r c here e) = subst (λ z. Back z v) here (by_deed (deed_of choice a r) refl e)
    where
      back_is : (from back : Option Spot) → Some (record { from = from; back = back }) ≡ Some v → v.back ≡ back
      back_is from back s = let same : record { from = from; back = back } ≡ v = cc in sym (ap (λ (u : Move). u.back) same)

      bare : (b : Bool) → original_move r b ≡ Some v → v.back ≡ None
      bare true s = back_is (Some (backup_spot r.path)) None s
      bare false s = absurd (cc)

      by_deed : (d : Deed) → deed_of choice a r ≡ d → game_move a n r d ≡ Some v → Back (game_spot r.path) v
      by_deed put_aside is s = aside r c (ap (saved_spot r) is) (back_is _ _ s) (told_at choice a old n can r c put_aside is).here
      by_deed reverted is s = aside r c (ap (saved_spot r) is) (back_is _ _ s) (told_at choice a old n can r c reverted is).here
      by_deed let_go is s = aside r c (ap (saved_spot r) is) (back_is _ _ s) (told_at choice a old n can r c let_go is).here
      by_deed linked_again is s = nothing (back_is _ _ s) (told_at choice a old n can r c linked_again is).here
      by_deed dropped is s = nothing (bare (has_original a r) s) (told_at choice a old n can r c dropped is).here
      by_deed left_whole is s = absurd (cc)
      by_deed imported is s = absurd (cc)
      by_deed accepted is s = absurd (cc)
      by_deed staged_again is s = absurd (cc)
  set_back x v (at_stage r c here e) = subst (λ z. Back z v) here (by_deed (deed_of choice a r) refl e)
    where
      back_is : (from back : Option Spot) → Some (record { from = from; back = back }) ≡ Some v → v.back ≡ back
      back_is from back s = let same : record { from = from; back = back } ≡ v = cc in sym (ap (λ (u : Move). u.back) same)

      by_deed : (d : Deed) → deed_of choice a r ≡ d → stage_move n r d ≡ Some v → Back (staged_of r) v
      by_deed imported is s = aside r c (ap (saved_spot r) is) (back_is _ _ s) (told_at choice a old n can r c imported is).staged
      by_deed staged_again is s = nothing (back_is _ _ s) (told_at choice a old n can r c staged_again is).staged
      by_deed left_whole is s = absurd (cc)
      by_deed put_aside is s = absurd (cc)
      by_deed reverted is s = absurd (cc)
      by_deed accepted is s = absurd (cc)
      by_deed linked_again is s = absurd (cc)
      by_deed let_go is s = absurd (cc)
      by_deed dropped is s = absurd (cc)

  pub backs_saved : (x y : Spot) → Backs m x y → m.saves x y
  backs_saved x y h = by_back (set_back x h.move (set_tells choice a old.rows n x h.move h.set))
    where
      by_back : Back x h.move → m.saves x y
      by_back (aside r c e back k) = record { row = r; listed = c; saved = e; here = let t : Some (aside_spot n x) ≡ Some y = sym back ∙ h.back in cc }
      by_back (nothing back k) = let t : None ≡ Some y = sym back ∙ h.back in absurd (cc)

  -- what is cleared: a file that is given up, where it was set aside, or an original that goes back
  pub data Cleared (x : Spot) : Type 0 where
    given_up : (r : Row) → Contains old.rows r → saved_spot r (deed_of choice a r) ≡ Some (game_spot r.path) → aside_spot n (game_spot r.path) ≡ x → Cleared x
    gone_back : (r : Row) → Contains old.rows r → Takes m (game_spot r.path) (backup_spot r.path) → has_original a r ≡ true → backup_spot r.path ≡ x → Cleared x

  pub clears_cleared : (x : Spot) → m.clears x → Cleared x
  clears_cleared x h = by_deed (deed_of choice a h.row) refl h.cleared
    where
      of_some : (y : Spot) → Some y ≡ Some x → y ≡ x
      of_some y e = cc

      from_original : (b : Bool) → has_original a h.row ≡ b → (if b then Some (backup_spot h.row.path) else None) ≡ Some x → (has_original a h.row ≡ true → Takes m (game_spot h.row.path) (backup_spot h.row.path)) → Cleared x
      from_original true o e takes = gone_back h.row h.listed (takes o) o (of_some (backup_spot h.row.path) e)
      from_original false o e takes = absurd (cc)

      by_deed : (d : Deed) → deed_of choice a h.row ≡ d → cleared_spot a n h.row d ≡ Some x → Cleared x
      by_deed reverted is e = given_up h.row h.listed (ap (saved_spot h.row) is) (of_some (aside_spot n (game_spot h.row.path)) e)
      by_deed let_go is e = from_original (has_original a h.row) refl e (λ o. record {
        move = record { from = from_backup a h.row; back = Some (aside_spot n (game_spot h.row.path)) };
        set = game_set choice a old n can h.row h.listed ∙ ap (game_move a n h.row) is;
        from = ap (λ b. if b then Some (backup_spot h.row.path) else None) o;
      })
      by_deed dropped is e = from_original (has_original a h.row) refl e (λ o. record {
        move = record { from = Some (backup_spot h.row.path); back = None };
        set = game_set choice a old n can h.row h.listed ∙ ap (game_move a n h.row) is ∙ ap (original_move h.row) o;
        from = refl;
      })
      by_deed left_whole is e = absurd (cc)
      by_deed put_aside is e = absurd (cc)
      by_deed imported is e = absurd (cc)
      by_deed accepted is e = absurd (cc)
      by_deed linked_again is e = absurd (cc)
      by_deed staged_again is e = absurd (cc)
