-- A destination of a settlement where nothing stood gets a file, so no made folder goes.
use Rattle.std.proofs.Common.{◌≡◌, ℕ, Bool, true, false, List, refl, sym, ap, ◌∙◌, inl, inr, subst}
use Rattle.std.specs.List.{Contains}
use Rattle.std.specs.declared.option.Option.TheVariants.{None, Some}
use Rattle.tree_fs.specs.declared.place.Root.TheVariants.{Game, Stage, Keep}
use Rattle.tree_fs.specs.Spot.{Spot, IsBelow}
use Rattle.tree_fs.specs.Places.{game_spot}
use Rattle.tree_fs.specs.Disk.{Disk, Value, none}
use Rattle.tree_fs.proofs.Below.{above_value}
use Rattle.tree_fs.proofs.PlaceSpots.{game_spot-same}
use Rattle.list_laws.proofs.Alls.{all_from_contains}
use Rattle.rel_paths.specs.Names.{IsFreePath}
use Rattle.backup_keep.specs.Places.{backup_spot}
use Rattle.manifest_json.specs.declared.manifest.Row.{Row}
use Rattle.manifest_json.specs.declared.manifest.Manifest.{Manifest}
use Rattle.manifest_json.specs.Sound.{AreFolders}
use Rattle.change_detect.specs.Classes.{staged_of}
use Rattle.move_plan.specs.declared.plan.Plan.{Plan}
use Rattle.move_plan.specs.Places.{IsDestination}
use Rattle.desk_model.specs.Places.{IsUsers}
use Rattle.desk_model.specs.Outcome.{updated}
use Rattle.desk_model.specs.Settled.{Choice, Deed, left_whole, put_aside, imported, reverted, accepted, linked_again, staged_again, let_go, dropped, deed_of}
use Rattle.plan_model.specs.Rows.{has_original}
use Rattle.plan_model.specs.Moves.{Move, Moves, LaidOut}
use Rattle.plan_model.specs.Folders.{IsMade, IsOwnFolder, IsListed, GoesOff, OwnLaidOut}
use Rattle.plan_model.proofs.Values.{HasFile, its_file, file_some}
use Rattle.plan_model.proofs.Moved.{set-moved, save-moved, moved-is_set, moved-is_save}
use Rattle.plan_model.proofs.GoesBy.{only_own}
use Rattle.plan_model.proofs.Paths.{above_path}
use Rattle.plan_model.proofs.Rows.{folder_free, above_free}
use Rattle.change_settle.specs.Deeds.{original_move, game_move, stage_move, settle_moves}
use Rattle.change_settle.specs.Refusals.{restored_spot}
use Rattle.change_settle.specs.Folders.{IsMissingFor}
use Rattle.change_settle.specs.Plans.{CanSettle}
use Rattle.change_settle.proofs.Premises.{told_at, free_path, kind_has_file}
use Rattle.change_settle.proofs.Sets.{SetCase, at_game, at_stage, set_tells, game_set, stage_set}
use Rattle.change_settle.proofs.RowPlaces.{RowPlace, in_game, in_mod}
use Rattle.change_settle.proofs.Stands.{original_file, Stands, at_row, at_aside, filed, replaced, restored, stands}
use Rattle.change_settle.proofs.Kept.{here_by, game_value, stage_value}

module _ (choice : Choice) (a : Disk) (old : Manifest) (n : ℕ) (can : CanSettle choice a old n) (plan : Plan) (laid : LaidOut (settle_moves choice a old.rows n) plan) where
  abbrev m : Moves
  m = settle_moves choice a old.rows n

  abbrev now : Spot → Value
  now = updated plan a.now

  at_game_path : (r : Row) → Contains old.rows r → (v : Move) → game_move a n r (deed_of choice a r) ≡ Some v → a.now (game_spot r.path) ≡ none → HasFile (now (game_spot r.path))
  at_game_path r c v e free = by_deed (deed_of choice a r) refl e
    where
      stood : (d : Deed) → deed_of choice a r ≡ d → HasFile (a.now (game_spot r.path)) → HasFile (now (game_spot r.path))
      stood d is f = absurd (file_some (a.now (game_spot r.path)) f free)

      here : (d : Deed) → deed_of choice a r ≡ d → now (game_spot r.path) ≡ here_by choice a old n can plan laid (game_move a n r d) (a.now (game_spot r.path))
      here d is = game_value choice a old n can plan laid r c ∙ ap (λ k. here_by choice a old n can plan laid (game_move a n r k) (a.now (game_spot r.path))) is

      by_original : (b : Bool) → has_original a r ≡ b → now (game_spot r.path) ≡ here_by choice a old n can plan laid (original_move r b) (a.now (game_spot r.path)) → original_move r b ≡ Some v → HasFile (now (game_spot r.path))
      by_original true o is s = let f = original_file a r o in subst HasFile (sym (is ∙ its_file (a.now (backup_spot r.path)) f)) f
      by_original false o is s = absurd (cc)

      by_deed : (d : Deed) → deed_of choice a r ≡ d → game_move a n r d ≡ Some v → HasFile (now (game_spot r.path))
      by_deed put_aside is s = stood put_aside is (kind_has_file a (game_spot r.path) (told_at choice a old n can r c put_aside is).here)
      by_deed reverted is s = stood reverted is (kind_has_file a (game_spot r.path) (told_at choice a old n can r c reverted is).here)
      by_deed let_go is s = stood let_go is (kind_has_file a (game_spot r.path) (told_at choice a old n can r c let_go is).here)
      by_deed linked_again is s =
          let f = kind_has_file a (staged_of r) (told_at choice a old n can r c linked_again is).staged in
          subst HasFile (sym (here linked_again is ∙ its_file (a.now (staged_of r)) f)) f
      by_deed dropped is s = by_original (has_original a r) refl (here dropped is) s
      by_deed left_whole is s = absurd (cc)
      by_deed imported is s = absurd (cc)
      by_deed accepted is s = absurd (cc)
      by_deed staged_again is s = absurd (cc)

  at_staged_place : (r : Row) → Contains old.rows r → (v : Move) → stage_move n r (deed_of choice a r) ≡ Some v → a.now (staged_of r) ≡ none → HasFile (now (staged_of r))
  at_staged_place r c v e free = by_deed (deed_of choice a r) refl e
    where
      by_deed : (d : Deed) → deed_of choice a r ≡ d → stage_move n r d ≡ Some v → HasFile (now (staged_of r))
      by_deed imported is s = absurd (file_some (a.now (staged_of r)) (kind_has_file a (staged_of r) (told_at choice a old n can r c imported is).staged) free)
      by_deed staged_again is s =
          let f = kind_has_file a (game_spot r.path) (told_at choice a old n can r c staged_again is).here in
          subst HasFile (sym (stage_value choice a old n can plan laid r c ∙ ap (λ k. here_by choice a old n can plan laid (stage_move n r k) (a.now (staged_of r))) is ∙ its_file (a.now (game_spot r.path)) f)) f
      by_deed left_whole is s = absurd (cc)
      by_deed put_aside is s = absurd (cc)
      by_deed reverted is s = absurd (cc)
      by_deed accepted is s = absurd (cc)
      by_deed linked_again is s = absurd (cc)
      by_deed let_go is s = absurd (cc)
      by_deed dropped is s = absurd (cc)

  by_set : (y : Spot) (v : Move) → SetCase choice a old.rows n y v → a.now y ≡ none → HasFile (now y)
  by_set y v (at_game r c here e) free = subst (λ z. HasFile (now z)) here (at_game_path r c v e (ap a.now here ∙ free))
  by_set y v (at_stage r c here e) free = subst (λ z. HasFile (now z)) here (at_staged_place r c v e (ap a.now here ∙ free))

  -- a destination where nothing stood gets a file
  pub gets_file : (y : Spot) → IsUsers y.root → IsDestination plan y → a.now y ≡ none → HasFile (now y)
  gets_file y users (inl set) free = let s = set-moved m plan laid a.now y set in by_set y s.0 (set_tells choice a old.rows n y s.0 s.1) free
  gets_file y users (inr save) free = let s = save-moved m plan laid a.now y save in absurd (subst IsUsers (sym (ap (λ (z : Spot). z.root) s.1.here)) users)

  pub only_own_goes : (s : Spot) → GoesOff a old.folders plan s → IsOwnFolder a old.folders s
  only_own_goes s g = only_own a old.folders can.valid plan gets_file s g

  -- The folders that are made

  not_over : (s x : Spot) → HasFile (a.now x) → IsBelow s x → a.folders s ≡ false → ⊥
  not_over s x f b missing = let t : true ≡ false = sym (above_value a can.valid s x b (file_some (a.now x) f)) ∙ missing in cc

  above_stands : (s x : Spot) → a.folders s ≡ false → IsBelow s x → Stands choice a old n can x → IsMissingFor choice a old.rows n s
  above_stands s x missing b (at_row place (filed f)) = absurd (not_over s x f b missing)
  above_stands s x missing b (at_row place (replaced r here o)) = absurd (not_over s (backup_spot r.path) (original_file a r o) (above_path s r.path (subst (IsBelow s) (sym here) b)) missing)
  above_stands s x missing b (at_row place (restored r c e free)) = record { missing = missing; row = r; listed = c; place = x; comes = inl e; below = b }
  above_stands s x missing b (at_aside r y c e here) = record { missing = missing; row = r; listed = c; place = x; comes = inr (y, e, here); below = b }

  pub made-missing : (s : Spot) → IsMade a plan s → IsMissingFor choice a old.rows n s
  made-missing s h = above_stands s h.place h.missing h.below (by_to h.to)
    where
      by_to : IsDestination plan h.place → Stands choice a old n can h.place
      by_to (inl set) = stands choice a old n can h.place (inl (set-moved m plan laid a.now h.place set))
      by_to (inr save) = stands choice a old n can h.place (inr (save-moved m plan laid a.now h.place save))

  restored_to : (r : Row) (x : Spot) → Contains old.rows r → restored_spot r (deed_of choice a r) ≡ Some x → IsDestination plan x
  restored_to r x c e = by_deed (deed_of choice a r) refl e
    where
      of_some : (z : Spot) → Some z ≡ Some x → z ≡ x
      of_some z k = cc

      by_deed : (d : Deed) → deed_of choice a r ≡ d → restored_spot r d ≡ Some x → IsDestination plan x
      by_deed linked_again is k = subst (IsDestination plan) (of_some (game_spot r.path) k) (inl (moved-is_set m plan laid a.now (game_spot r.path) (record { from = Some (staged_of r); back = None }) (game_set choice a old n can r c ∙ ap (game_move a n r) is)))
      by_deed staged_again is k = subst (IsDestination plan) (of_some (staged_of r) k) (inl (moved-is_set m plan laid a.now (staged_of r) (record { from = Some (game_spot r.path); back = None }) (stage_set choice a old n can r c ∙ ap (stage_move n r) is)))
      by_deed left_whole is k = absurd (cc)
      by_deed put_aside is k = absurd (cc)
      by_deed imported is k = absurd (cc)
      by_deed reverted is k = absurd (cc)
      by_deed accepted is k = absurd (cc)
      by_deed let_go is k = absurd (cc)
      by_deed dropped is k = absurd (cc)

  pub missing-made : (s : Spot) → IsMissingFor choice a old.rows n s → IsMade a plan s
  missing-made s h = elim h.comes [
    | inl e ↦ record { missing = h.missing; place = h.place; to = restored_to h.row h.place h.listed e; below = h.below }
    | inr e ↦ record { missing = h.missing; place = h.place; to = inr (moved-is_save m plan laid a.now h.place e.0 (record { row = h.row; listed = h.listed; saved = e.1; here = e.2 })); below = h.below }
  ]

  -- The new own folders can be those of a manifest

  row_above : (path : List ℕ) (r : Row) → Contains old.rows r → IsBelow (game_spot path) (game_spot r.path) → IsFreePath path
  row_above path r c b = above_free path r.path b (free_path choice a old n can r c)

  place_above : (path : List ℕ) (x : Spot) → RowPlace old.rows x → IsBelow (game_spot path) x → IsFreePath path
  place_above path x (in_game r c e) b = row_above path r c (subst (IsBelow (game_spot path)) (sym e) b)
  place_above path x (in_mod r c e) b = let t : Stage ≡ Game = ap (λ (z : Spot). z.root) e ∙ b.root in absurd (cc)

  stands_above : (path : List ℕ) (x : Spot) → Stands choice a old n can x → IsBelow (game_spot path) x → IsFreePath path
  stands_above path x (at_row place why) b = place_above path x place b
  stands_above path x (at_aside r y c e here) b = let t : Keep ≡ Game = ap (λ (z : Spot). z.root) here ∙ b.root in absurd (cc)

  listed_free : (path : List ℕ) → IsListed a old.folders plan (game_spot path) → IsFreePath path
  listed_free path (inl h) = subst IsFreePath (sym (game_spot-same path h.path h.here)) (folder_free old.folders can.own h.path h.listed)
  listed_free path (inr h) = stands_above path h.1.place (by_to h.1.to) h.1.below
    where
      by_to : IsDestination plan h.1.place → Stands choice a old n can h.1.place
      by_to (inl set) = stands choice a old n can h.1.place (inl (set-moved m plan laid a.now h.1.place set))
      by_to (inr save) = stands choice a old n can h.1.place (inr (save-moved m plan laid a.now h.1.place save))

  pub own_kept : (next : List (List ℕ)) → OwnLaidOut a old.folders plan next → AreFolders next
  own_kept next own = record { good = all_from_contains IsFreePath next (λ path c. listed_free path ((own.folders path).0 c).0); rise = own.order }
