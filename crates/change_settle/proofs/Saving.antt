-- Whether files are set aside.
use Rattle.std.proofs.Common.{◌≡◌, ℕ, ◌+◌, ◌<◌, List, [], ◌∷◌, ◌++◌, length, get_or, take, drop, suc, map, refl, sym, ap, ◌∙◌, subst, inl, inr}
use Rattle.std.specs.List.{Contains}
use Rattle.std.specs.declared.option.Option.TheVariants.{Some}
use Rattle.std.proofs.lemmas.List.{map-append}
use Rattle.std.proofs.lemmas.List.Elements.{Contains-append_right}
use Rattle.list_laws.proofs.Containing.{contains_none, contains_here, last_cases}
use Rattle.list_laws.proofs.Lists.{around}
use Rattle.tree_fs.specs.declared.name.Kind.TheVariants.{Absent}
use Rattle.tree_fs.specs.Spot.{Spot}
use Rattle.tree_fs.specs.Disk.{Disk, IsValid, kind_of}
use Rattle.backup_keep.specs.Places.{aside_folder}
use Rattle.backup_keep.proofs.Numbered.{none_aside}
use Rattle.purge_run.specs.Refusals.{HasAsideRoom}
use Rattle.tree_fs.specs.Places.{game_spot}
use Rattle.manifest_json.specs.declared.manifest.Row.{Row}
use Rattle.change_detect.specs.Classes.{staged_of}
use Rattle.desk_model.specs.Settled.{Deed, left_whole, put_aside, imported, reverted, accepted, linked_again, staged_again, let_go, dropped}
use Rattle.change_settle.specs.declared.walk.RowStep.{RowStep}
use Rattle.change_settle.specs.Deeds.{saved_spot}
use Rattle.change_settle.specs.Steps.{IsSaving, SavesSome, step_task}
use Rattle.change_settle.proofs.Walked.{seen_next}

saving_spot : (r : Row) (d : Deed) → IsSaving d → (x : Spot) × (saved_spot r d ≡ Some x)
saving_spot r put_aside h = (game_spot r.path, refl)
saving_spot r reverted h = (game_spot r.path, refl)
saving_spot r let_go h = (game_spot r.path, refl)
saving_spot r imported h = (staged_of r, refl)
saving_spot r left_whole h = absurd h
saving_spot r accepted h = absurd h
saving_spot r linked_again h = absurd h
saving_spot r staged_again h = absurd h
saving_spot r dropped h = absurd h

spot_saving : (r : Row) (d : Deed) (x : Spot) → saved_spot r d ≡ Some x → IsSaving d
spot_saving r put_aside x e = tt
spot_saving r reverted x e = tt
spot_saving r let_go x e = tt
spot_saving r imported x e = tt
spot_saving r left_whole x e = absurd (cc)
spot_saving r accepted x e = absurd (cc)
spot_saving r linked_again x e = absurd (cc)
spot_saving r staged_again x e = absurd (cc)
spot_saving r dropped x e = absurd (cc)

pub saving_none : ¬ SavesSome []
saving_none h = contains_none h.task h.among

module _ (steps : List RowStep) (i : ℕ) (step : RowStep) (lt : i < length steps) (is : step ≡ get_or steps i step) where
  pub saving_here : IsSaving (step_task step).1 → SavesSome (map step_task steps)
  saving_here h =
      let at = saving_spot (step_task step).0 (step_task step).1 h in
      let split : map step_task steps ≡ map step_task (take i steps) ++ step_task step ∷ map step_task (drop (suc i) steps) = ap (map step_task) (around steps i step lt is) ∙ map-append step_task (take i steps) (step ∷ drop (suc i) steps) in
      record {
        task = step_task step;
        among = subst (λ l. Contains l (step_task step)) (sym split) (Contains-append_right (map step_task (take i steps)) (step_task step ∷ map step_task (drop (suc i) steps)) (step_task step) (contains_here (step_task step) (map step_task (drop (suc i) steps))));
        origin = at.0;
        saved = at.1;
      }

  pub saving_more : ¬ SavesSome (map step_task (take i steps)) → ¬ IsSaving (step_task step).1 → ¬ SavesSome (map step_task (take (i + 1) steps))
  saving_more none not h = elim (last_cases (map step_task (take i steps)) (step_task step) h.task (subst (λ l. Contains l h.task) (seen_next step_task steps i step lt is) h.among)) [
    | inl front ↦ none (record { task = h.task; among = front; origin = h.origin; saved = h.saved })
    | inr last ↦ not (spot_saving (step_task step).0 (step_task step).1 h.origin (subst (λ (t : Row × Deed). saved_spot t.0 t.1 ≡ Some h.origin) last h.saved))
  ]

-- where no aside folder is there, no number is taken
pub absent_room : (a : Disk) → IsValid a → kind_of a aside_folder ≡ Absent → HasAsideRoom a
absent_room a valid e = record { may_be_made = inl e; room = λ h. none_aside a valid e 4294967295 h }
