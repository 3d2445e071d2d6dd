-- A plan that is sound on a disk where every place is settled may be begun there.
use Rattle.std.proofs.Common.{◌≡◌, ◌⊎◌, refl, sym, ap, ◌∙◌, inl, inr, subst}
use Rattle.std.specs.Prelude.{IfSome}
use Rattle.std.specs.List.{Contains}
use Rattle.std.specs.declared.option.Option.{Option}
use Rattle.std.specs.declared.option.Option.TheVariants.{None, Some}
use Rattle.tree_fs.specs.declared.name.Kind.TheVariants.{Absent}
use Rattle.tree_fs.specs.declared.place.Root.TheVariants.{Stage, Game, Keep}
use Rattle.tree_fs.specs.declared.place.Place.{Place}
use Rattle.tree_fs.specs.Spot.{Spot, spot_of}
use Rattle.tree_fs.specs.Disk.{Disk, none, file, odd, IsSettled, HoldsOnly, IsFile, IsValid, kind_of}
use Rattle.tree_fs.proofs.Disks.{file-no_folder}
use Rattle.tree_fs.proofs.KindOf.{kind-absent, kind-folder}
use Rattle.move_plan.specs.declared.plan.SetRow.{SetRow}
use Rattle.move_plan.specs.declared.plan.Plan.{Plan}
use Rattle.move_plan.specs.Places.{IsKeeping, IsSetTo, IsSaveTo, IsSaved, IsDestination, IsClear}
use Rattle.move_plan.specs.Rules.{keeping, back_stays, Keeping, BackStays}
use Rattle.move_plan.specs.Sound.{SoundPlan}
use Rattle.move_plan.proofs.Entries.{of_each}
use Rattle.desk_model.specs.Standing.{IsSettledFile, IsOpen, SetStands}

keeping-not_stage : (x : Spot) → IsKeeping x → x.root ≡ Stage → ⊥
keeping-not_stage x (inl backup) is = let t : Game ≡ Stage = sym (ap (λ (s : Spot). s.root) backup.2) ∙ is in cc
keeping-not_stage x (inr below) is = let t : Keep ≡ Stage = sym below.root ∙ is in cc

module _ (d : Disk) (plan : Plan) (sound : SoundPlan d plan) (valid : IsValid d) (settled : (x : Spot) → IsSettled d x) where
  file_settled : (x : Spot) → IsFile d x → IsSettledFile d x
  file_settled x is = record { number = is.0; only = λ w h. settled x w h ∙ is.1 }

  file_open : (x : Spot) → IsFile d x → IsOpen d x
  file_open x is = record {
    not_odd = λ h. let t : odd ≡ file is.0 = settled x odd h ∙ is.1 in cc;
    no_folder = file-no_folder d x valid is;
  }

  absent_only : (x : Spot) → kind_of d x ≡ Absent → HoldsOnly d x none
  absent_only x is w h = settled x w h ∙ (kind-absent d x is).1

  absent_open : (x : Spot) → kind_of d x ≡ Absent → IsOpen d x
  absent_open x is = record {
    not_odd = λ h. let t : odd ≡ none = absent_only x is odd h in cc;
    no_folder = (kind-absent d x is).0;
  }

  -- a save's destination is not in `stage`
  not_staged : (b : Place) → b.root ≡ Stage → ¬ IsSaveTo plan (spot_of b)
  not_staged b stage to =
      let rule = (of_each (Keeping plan) plan (sound.rules keeping)).saves to.save to.listed in
      keeping-not_stage (spot_of to.save.1) rule (ap (λ (s : Spot). s.root) to.here ∙ stage)

  -- a set's destination is absent or a file
  set_open : (row : SetRow) → Contains plan.sets row → (o : Option Place) → row.back ≡ o → IsOpen d (spot_of row.to)
  set_open row listed None is = absent_open (spot_of row.to) ((sound.back_none row listed).0 is)
  set_open row listed (Some b) is = elim (subst (λ o. IfSome o (λ p. IsSaved plan (spot_of row.to) (spot_of p) ⊎ (p.root ≡ Stage) × (¬ IsSetTo plan (spot_of p)))) is ((of_each (BackStays plan) plan (sound.rules back_stays)).sets row listed)) [
    | inl saved ↦ file_open (spot_of row.to) (subst (IsFile d) saved.source (sound.save_source saved.save saved.listed))
    | inr staged ↦ let one = sound.back_same row b listed is (not_staged b staged.0) in file_open (spot_of row.to) (one.number, one.second)
  ]

  open_at : (x : Spot) → IsDestination plan x ⊎ IsClear plan x → IsOpen d x
  open_at x (inl (inl to)) = subst (IsOpen d) to.here (set_open to.row to.listed to.row.back refl)
  open_at x (inl (inr to)) = subst (IsOpen d) to.here (absent_open (spot_of to.save.1) (sound.save_absent to.save to.listed))
  open_at x (inr clear) = elim (sound.clear_used x clear) [
    | inl from ↦ file_open x (sound.set_source x from)
    | inr to ↦ subst (IsOpen d) to.here (absent_open (spot_of to.save.1) (sound.save_absent to.save to.listed))
  ]

  pub sound-stands : SetStands d plan
  sound-stands = record {
    sources = λ x is. file_settled x (sound.set_source x is);
    open_places = open_at;
    made = λ x is. elim (sound.made x is) [ inl absent ↦ inr (absent_only x absent) | inr folder ↦ inl (kind-folder d x folder) ];
    parents = λ x s is below. elim (sound.parents x s is below) [ inl there ↦ inr there | inr made ↦ inl made ];
    steps = inl (record {
      sets = λ x is. settled x;
      saves = λ s listed. inr (
          let f = sound.save_source s listed in
          record {
            number = f.0;
            source = λ w h. settled (spot_of s.0) w h ∙ f.1;
            either = λ w h. inl (absent_only (spot_of s.1) (sound.save_absent s listed) w h);
          });
    });
    rest = λ x out no_entry. settled x;
  }
