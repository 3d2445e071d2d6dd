-- One update on fewer values.
use Rattle.std.proofs.Common.{◌≡◌, ◌≢◌, ◌⊎◌, ℕ, Bool, true, false, List, [], refl, sym, ap, ◌∙◌, inl, inr, subst}
use Rattle.std.specs.List.{Contains}
use Rattle.std.specs.declared.option.Option.{Option}
use Rattle.std.specs.declared.option.Option.TheVariants.{None, Some}
use Rattle.tree_fs.specs.declared.place.Place.{Place}
use Rattle.tree_fs.specs.Spot.{Spot, spot_of}
use Rattle.tree_fs.specs.Disk.{Disk, Value, none, file}
use Rattle.move_plan.specs.declared.plan.SetRow.{SetRow}
use Rattle.move_plan.specs.declared.plan.Plan.{Plan}
use Rattle.move_plan.specs.Places.{IsAt, IsDestination}
use Rattle.desk_model.specs.Desk.{file_or_none}
use Rattle.desk_model.specs.Places.{manifest_spot, IsKeepEntry}
use Rattle.desk_model.specs.Outcome.{set_to, save_to, is_one_of, file_at, own_or, updated, updated_by}
use Rattle.desk_model.specs.Standing.{IsSettledFile, IsBegun, SetStands, ClearStands}
use Rattle.desk_model.proofs.Lookups.{set_to-some, set_to-none, save_to-some, save_to-none, one_of-false}
use Rattle.tree_fs.specs.Frames.{Fewer}
use Rattle.tree_fs.proofs.Fewer.{settled-now, only-now}

module _ (e d : Disk) (less : Fewer e d) (plan : Plan) where
  source_same : SetStands d plan → (row : SetRow) → Contains plan.sets row → (from : Option Place) → row.from ≡ from → file_at e.now from ≡ file_at d.now from
  source_same stands row listed None is = refl
  source_same stands row listed (Some p) is =
      let f = stands.sources (spot_of p) (record { row = row; listed = listed; here = subst (λ o. IsAt o (spot_of p)) (sym is) refl }) in
      let both = only-now e d less (spot_of p) (file f.number) f.only in
      ap file_or_none (both.0 ∙ sym both.1)

  own_file : (x : Spot) (v w : Value) → IsSettledFile d x → own_or (e.now x) v ≡ own_or (d.now x) w
  own_file x v w f =
      let both = only-now e d less x (file f.number) f.only in
      ap (λ u. own_or u v) both.0 ∙ sym (ap (λ u. own_or u w) both.1)

  begun_file : (v w : Value) (n : ℕ) → (v ≡ none) ⊎ (v ≡ file n) → w ≡ file n → own_or v (file_or_none w) ≡ file n
  begun_file v w n (inl gone) is = ap (λ u. own_or u (file_or_none w)) gone ∙ ap file_or_none is
  begun_file v w n (inr there) is = ap (λ u. own_or u (file_or_none w)) there

  begun_same : (from x : Spot) → IsBegun d from x → own_or (e.now x) (file_or_none (e.now from)) ≡ own_or (d.now x) (file_or_none (d.now from))
  begun_same from x b =
      let both = only-now e d less from (file b.number) b.source in
      begun_file (e.now x) (e.now from) b.number (b.either (e.now x) (less.within x (e.now x) (inl refl))) both.0
      ∙ sym (begun_file (d.now x) (d.now from) b.number (b.either (d.now x) (inl refl)) both.1)

  save_same : SetStands d plan → (x : Spot) (s : Place × Place) → Contains plan.saves s → spot_of s.1 ≡ x → own_or (e.now x) (file_or_none (e.now (spot_of s.0))) ≡ own_or (d.now x) (file_or_none (d.now (spot_of s.0)))
  save_same stands x s listed here = elim stands.steps [
    | inl run ↦ elim (run.saves s listed) [
      | inl done ↦ own_file x _ _ (subst (IsSettledFile d) here done)
      | inr begun ↦ begun_same (spot_of s.0) x (subst (IsBegun d (spot_of s.0)) here begun)
    ]
    | inr done ↦ own_file x _ _ (done x (record { save = s; listed = listed; here = here }))
  ]

  set_case : SetStands d plan → (x : Spot) → ¬ IsKeepEntry x → (c : Bool) (s : Option SetRow) (f : Option (Place × Place))
      → is_one_of plan.clears x ≡ c → set_to plan.sets x ≡ s → save_to plan.saves x ≡ f → updated_by e.now (e.now x) c s f ≡ updated_by d.now (d.now x) c s f
  set_case stands x no_entry true s f ec es ef = refl
  set_case stands x no_entry false (Some row) f ec es ef = source_same stands row (set_to-some plan.sets x row es).0 row.from refl
  set_case stands x no_entry false None (Some s) ec es ef = let found = save_to-some plan.saves x s ef in save_same stands x s found.0 found.1
  set_case stands x no_entry false None None ec es ef = settled-now e d less x (stands.rest x unset no_entry)
    where
      unset : IsDestination plan x → ⊥
      unset (inl is) = set_to-none plan.sets x is.row es is.listed is.here
      unset (inr is) = save_to-none plan.saves x is.save ef is.listed is.here

  pub set-updated : SetStands d plan → (x : Spot) → ¬ IsKeepEntry x → updated plan e.now x ≡ updated plan d.now x
  unfolding updated
  set-updated stands x no_entry = set_case stands x no_entry (is_one_of plan.clears x) (set_to plan.sets x) (save_to plan.saves x) refl refl refl

  clear_case : ClearStands d plan → (x : Spot) → ¬ IsKeepEntry x → x ≢ manifest_spot → (c : Bool) → is_one_of plan.clears x ≡ c → updated_by e.now (e.now x) c None None ≡ updated_by d.now (d.now x) c None None
  clear_case stands x no_entry no_manifest true ec = refl
  clear_case stands x no_entry no_manifest false ec = settled-now e d less x (stands.rest x (one_of-false plan.clears x ec) no_manifest no_entry)

  no_set : (rows : List SetRow) (x : Spot) → rows ≡ [] → set_to rows x ≡ None
  unfolding set_to
  no_set rows x is = ap (λ l. set_to l x) is

  no_save : (saves : List (Place × Place)) (x : Spot) → saves ≡ [] → save_to saves x ≡ None
  unfolding save_to
  no_save saves x is = ap (λ l. save_to l x) is

  pub bare-updated : (now : Spot → Value) (x : Spot) → plan.sets ≡ [] → plan.saves ≡ [] → updated plan now x ≡ updated_by now (now x) (is_one_of plan.clears x) None None
  unfolding updated
  bare-updated now x sets saves = λ i. updated_by now (now x) (is_one_of plan.clears x) (no_set plan.sets x sets i) (no_save plan.saves x saves i)

  pub clear-updated : ClearStands d plan → plan.sets ≡ [] → plan.saves ≡ [] → (x : Spot) → ¬ IsKeepEntry x → x ≢ manifest_spot → updated plan e.now x ≡ updated plan d.now x
  clear-updated stands sets saves x no_entry no_manifest =
      bare-updated e.now x sets saves ∙ clear_case stands x no_entry no_manifest (is_one_of plan.clears x) refl ∙ sym (bare-updated d.now x sets saves)
