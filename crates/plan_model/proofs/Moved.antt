-- What one update makes of a place, told by what is moved.
use Rattle.std.proofs.Common.{◌≡◌, Bool, true, false, refl, sym, ap, ◌∙◌}
use Rattle.std.specs.Option.{option_map}
use Rattle.std.specs.declared.option.Option.{Option}
use Rattle.std.specs.declared.option.Option.TheVariants.{None, Some}
use Rattle.tree_fs.specs.declared.place.Place.{Place}
use Rattle.tree_fs.specs.Spot.{Spot, spot_of}
use Rattle.tree_fs.specs.Disk.{Value, none}
use Rattle.move_plan.specs.declared.plan.SetRow.{SetRow}
use Rattle.move_plan.specs.declared.plan.Plan.{Plan}
use Rattle.move_plan.specs.Places.{IsSetTo, IsSaveTo}
use Rattle.desk_model.specs.Desk.{file_or_none}
use Rattle.desk_model.specs.Outcome.{set_to, save_to, is_one_of, file_at, own_or, updated, updated_by}
use Rattle.desk_model.proofs.Lookups.{set_to-some, set_to-none, save_to-some, save_to-none, one_of-false, one_of-true}
use Rattle.plan_model.specs.Moves.{Move, move_of, Moves, LaidOut}

abbrev pub value_at : (Spot → Value) → Option Spot → Value
value_at now None = none
value_at now (Some x) = file_or_none (now x)

module _ (m : Moves) (plan : Plan) (laid : LaidOut m plan) (now : Spot → Value) where
  -- the look-ups
  set_found : (x : Spot) (o : Option SetRow) → set_to plan.sets x ≡ o → (v : Move) → m.sets x ≡ Some v → (row : SetRow) × (o ≡ Some row) × (move_of row ≡ v)
  set_found x None e v is = let h = (laid.sets x v).1 is in absurd (set_to-none plan.sets x h.row e h.listed h.here)
  set_found x (Some row) e v is =
      let f = set_to-some plan.sets x row e in
      let g : m.sets x ≡ Some (move_of row) = (laid.sets x (move_of row)).0 (record { row = row; listed = f.0; here = f.1; is = refl }) in
      let t : Some (move_of row) ≡ Some v = sym g ∙ is in
      (row, refl, cc)

  set_lost : (x : Spot) (o : Option SetRow) → set_to plan.sets x ≡ o → m.sets x ≡ None → o ≡ None
  set_lost x None e is = refl
  set_lost x (Some row) e is =
      let f = set_to-some plan.sets x row e in
      let g : m.sets x ≡ Some (move_of row) = (laid.sets x (move_of row)).0 (record { row = row; listed = f.0; here = f.1; is = refl }) in
      let t : None ≡ Some (move_of row) = sym is ∙ g in absurd (cc)

  clear_off : (x : Spot) (b : Bool) → is_one_of plan.clears x ≡ b → ¬ m.clears x → b ≡ false
  clear_off x false e kept = refl
  clear_off x true e kept = absurd (kept ((laid.clears x).0 (one_of-true plan.clears x e)))

  clear_on : (x : Spot) (b : Bool) → is_one_of plan.clears x ≡ b → m.clears x → b ≡ true
  clear_on x true e is = refl
  clear_on x false e is = absurd (one_of-false plan.clears x e ((laid.clears x).1 is))

  save_found : (x y : Spot) (o : Option (Place × Place)) → save_to plan.saves x ≡ o → m.saves y x → ((z : Spot) → m.saves z x → z ≡ y) → (s : Place × Place) × (o ≡ Some s) × (spot_of s.0 ≡ y)
  save_found x y None e is one = let h = (laid.saves y x).1 is in absurd (save_to-none plan.saves x h.save e h.listed h.here)
  save_found x y (Some s) e is one =
      let f = save_to-some plan.saves x s e in
      (s, refl, one (spot_of s.0) ((laid.saves (spot_of s.0) x).0 (record { save = s; listed = f.0; source = refl; here = f.1 })))

  save_lost : (x : Spot) (o : Option (Place × Place)) → save_to plan.saves x ≡ o → ((y : Spot) → ¬ m.saves y x) → o ≡ None
  save_lost x None e kept = refl
  save_lost x (Some s) e kept =
      let f = save_to-some plan.saves x s e in
      absurd (kept (spot_of s.0) ((laid.saves (spot_of s.0) x).0 (record { save = s; listed = f.0; source = refl; here = f.1 })))

  from_is : (row : SetRow) (v : Move) → move_of row ≡ v → file_at now row.from ≡ value_at now v.from
  from_is row v e = by_option row.from ∙ ap (λ (w : Move). value_at now w.from) e
    where
      by_option : (o : Option Place) → file_at now o ≡ value_at now (option_map spot_of o)
      by_option None = refl
      by_option (Some p) = refl

  -- a clear has none
  pub moved-clear : (x : Spot) → m.clears x → updated plan now x ≡ none
  unfolding updated
  moved-clear x is = ap (λ b. updated_by now (now x) b (set_to plan.sets x) (save_to plan.saves x)) (clear_on x (is_one_of plan.clears x) refl is)

  -- a set's destination has the file of its source, or none
  pub moved-set : (x : Spot) (v : Move) → m.sets x ≡ Some v → ¬ m.clears x → updated plan now x ≡ value_at now v.from
  unfolding updated
  moved-set x v is kept =
      let f = set_found x (set_to plan.sets x) refl v is in
      (λ i. updated_by now (now x) (clear_off x (is_one_of plan.clears x) refl kept i) (f.1 i) (save_to plan.saves x)) ∙ from_is f.0 v f.2

  -- a save's destination has its own file, or that of its source
  pub moved-save : (x y : Spot) → m.sets x ≡ None → ¬ m.clears x → m.saves y x → ((z : Spot) → m.saves z x → z ≡ y) → updated plan now x ≡ own_or (now x) (file_or_none (now y))
  unfolding updated
  moved-save x y unset kept is one =
      let f = save_found x y (save_to plan.saves x) refl is one in
      (λ i. updated_by now (now x) (clear_off x (is_one_of plan.clears x) refl kept i) (set_lost x (set_to plan.sets x) refl unset i) (f.1 i))
      ∙ ap (λ z. own_or (now x) (file_or_none (now z))) f.2

  -- all else stays
  pub moved-else : (x : Spot) → m.sets x ≡ None → ¬ m.clears x → ((y : Spot) → ¬ m.saves y x) → updated plan now x ≡ now x
  unfolding updated
  moved-else x unset kept unsaved =
      λ i. updated_by now (now x) (clear_off x (is_one_of plan.clears x) refl kept i) (set_lost x (set_to plan.sets x) refl unset i) (save_lost x (save_to plan.saves x) refl unsaved i)

  -- the destinations of the plan
  pub set-moved : (x : Spot) → IsSetTo plan x → (v : Move) × (m.sets x ≡ Some v)
  set-moved x h = (move_of h.row, (laid.sets x (move_of h.row)).0 (record { row = h.row; listed = h.listed; here = h.here; is = refl }))

  pub moved-is_set : (x : Spot) (v : Move) → m.sets x ≡ Some v → IsSetTo plan x
  moved-is_set x v is = let h = (laid.sets x v).1 is in record { row = h.row; listed = h.listed; here = h.here }

  pub save-moved : (x : Spot) → IsSaveTo plan x → (y : Spot) × m.saves y x
  save-moved x h = (spot_of h.save.0, (laid.saves (spot_of h.save.0) x).0 (record { save = h.save; listed = h.listed; source = refl; here = h.here }))

  pub moved-is_save : (x y : Spot) → m.saves y x → IsSaveTo plan x
  moved-is_save x y is = let h = (laid.saves y x).1 is in record { save = h.save; listed = h.listed; here = h.here }
