-- What the rules say of the places of a plan.
use Rattle.std.proofs.Common.{[], ◌≡◌, ◌≢◌, List, ◌∷◌, true, refl, sym, ap, inl, inr, subst}
use Rattle.std.specs.Prelude.{IfSome}
use Rattle.std.specs.List.{Contains}
use Rattle.std.specs.declared.option.Option.{Option}
use Rattle.std.specs.declared.option.Option.TheVariants.{None, Some}
use Rattle.rel_paths.specs.declared.control.Control.{Control}
use Rattle.rel_paths.specs.declared.control.Control.TheVariants as control
use Rattle.tree_fs.specs.declared.place.Place.{Place}
use Rattle.tree_fs.specs.Spot.{Spot, spot_of, has_some, parent, is_entry, IsBelow}
use Rattle.tree_fs.specs.Texts.{control_spot}
use Rattle.tree_fs.proofs.Spots.{is_entry-true, is_entry-name}
use Rattle.move_plan.specs.declared.plan.SetRow.{SetRow}
use Rattle.move_plan.specs.declared.plan.Plan.{Plan}
use Rattle.move_plan.specs.Places.{IsAt, IsSetTo, IsSetFrom, IsSaveTo, IsClear}
use Rattle.move_plan.specs.Rules.{IsFree, source_stays, save_stays, keeping, save_is_back, SourceStays, SaveStays, Keeping, SaveIsBack, PassesRules}
use Rattle.move_plan.proofs.Entries.{of_each, rule_2}
use Rattle.desk_model.specs.Places.{IsTemp}

-- a free place is no temp
pub free-not_temp : (x : Spot) → IsFree x → ¬ IsTemp x
free-not_temp x free (inl e) = free.not_control control.IntentTemp e
free-not_temp x free (inr (inl e)) = free.not_control control.ManifestTemp e
free-not_temp x free (inr (inr e)) = free.not_control control.ProfileTemp e

some_at : (o : Option Place) (Q : Place → Type 0) (R : Spot → Type 0) → ((p : Place) → Q p → R (spot_of p)) → IfSome o Q → (x : Spot) → IsAt o x → R x
some_at None Q R to h x at = absurd at
some_at (Some p) Q R to h x at = subst R at (to p h)

module _ (plan : Plan) (passes : PassesRules plan) where
  pub set_free : (x : Spot) → IsSetTo plan x → IsFree x
  set_free x is = subst IsFree is.here ((rule_2 plan passes).sets is.row is.listed).0

  pub save_free : (x : Spot) → IsSaveTo plan x → IsFree x
  save_free x is = subst IsFree is.here ((rule_2 plan passes).saves is.save is.listed).1

  pub clear_free : (x : Spot) → IsClear plan x → IsFree x
  clear_free x is = subst IsFree is.here ((rule_2 plan passes).clears is.place is.listed)

  pub from_free : (x : Spot) → IsSetFrom plan x → IsFree x
  from_free x is = some_at is.row.from (λ p. IsFree (spot_of p)) IsFree (λ p h. h) ((rule_2 plan passes).sets is.row is.listed).1 x is.here

  pub control-not_set : (which : Control) → ¬ IsSetTo plan (control_spot which)
  control-not_set which is = (set_free (control_spot which) is).not_control which refl

  pub control-not_save : (which : Control) → ¬ IsSaveTo plan (control_spot which)
  control-not_save which is = (save_free (control_spot which) is).not_control which refl

  pub control-not_clear : (which : Control) → ¬ IsClear plan (control_spot which)
  control-not_clear which is = (clear_free (control_spot which) is).not_control which refl

  -- no set's source is a set's or save's destination
  pub from-not_set : (x : Spot) → IsSetFrom plan x → ¬ IsSetTo plan x
  from-not_set x is = some_at is.row.from (λ p. ¬ IsSetTo plan (spot_of p)) (λ y. ¬ IsSetTo plan y) (λ p h. h) ((of_each (SourceStays plan) plan (passes source_stays)).sets is.row is.listed) x is.here

  pub save-not_set : (x : Spot) → IsSaveTo plan x → ¬ IsSetTo plan x
  save-not_set x is = subst (λ y. ¬ IsSetTo plan y) is.here ((of_each (SaveStays plan) plan (passes save_stays)).saves is.save is.listed).0

  pub save-not_from : (x : Spot) → IsSaveTo plan x → ¬ IsSetFrom plan x
  save-not_from x is = subst (λ y. ¬ IsSetFrom plan y) is.here ((of_each (SaveStays plan) plan (passes save_stays)).saves is.save is.listed).1

  pub clear-not_set : (x : Spot) → IsClear plan x → ¬ IsSetTo plan x
  clear-not_set x is = subst (λ y. ¬ IsSetTo plan y) is.here ((of_each (Keeping plan) plan (passes keeping)).clears is.place is.listed).0

  -- a save's source is a set's destination
  pub save_from-set : (s : Place × Place) → Contains plan.saves s → IsSetTo plan (spot_of s.0)
  save_from-set s listed = let b = (of_each (SaveIsBack plan) plan (passes save_is_back)).saves s listed in record { row = b.row; listed = b.listed; here = b.here }

  pub set_apart : (row : SetRow) → Contains plan.sets row → IfSome row.from (λ p. spot_of p ≢ spot_of row.to)
  set_apart row listed = apart_by row.from ((of_each (SourceStays plan) plan (passes source_stays)).sets row listed)
    where
      apart_by : (o : Option Place) → IfSome o (λ p. ¬ IsSetTo plan (spot_of p)) → IfSome o (λ p. spot_of p ≢ spot_of row.to)
      apart_by None h = tt
      apart_by (Some p) h = λ e. h (record { row = row; listed = listed; here = sym e })

some_names : (ns : List (List _)) → ns ≢ [] → has_some ns ≡ true
some_names [] ne = absurd (ne refl)
some_names (n ∷ ns) ne = refl

-- a place other than a root is an entry of its parent, and lies below it
pub own_entry : (x : Spot) → x.names ≢ [] → is_entry (parent x) x ≡ true
own_entry x ne = is_entry-true (parent x) x (some_names x.names ne) refl

pub parent_below : (x : Spot) → x.names ≢ [] → IsBelow (parent x) x
parent_below x ne =
    let named = is_entry-name (parent x) x (own_entry x ne) in
    record { root = ap (λ (s : Spot). s.root) named.1; name = named.0; rest = []; names = ap (λ (s : Spot). s.names) named.1 }
