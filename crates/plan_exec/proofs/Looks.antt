-- What a look at an entry finds later on: the entries done by then don't change it.
use Rattle.std.proofs.Common.{◌≡◌, ◌≢◌, ◌⊎◌, ℕ, refl, sym, ap, ◌∙◌, inl, inr, subst}
use Rattle.std.specs.List.{Contains}
use Rattle.std.specs.declared.option.Option.{Option}
use Rattle.std.specs.declared.option.Option.TheVariants.{None, Some}
use Rattle.tree_fs.specs.declared.place.Place.{Place}
use Rattle.tree_fs.specs.Spot.{Spot, spot_of, parent}
use Rattle.tree_fs.specs.Disk.{Disk, Value, none, file, kind_of}
use Rattle.tree_fs.proofs.Disks.{file-no_folder}
use Rattle.tree_fs.proofs.KindOf.{same_kind, file-kind}
use Rattle.tree_fs.proofs.Spots.{same_or_other}
use Rattle.move_plan.specs.declared.plan.SetRow.{SetRow}
use Rattle.move_plan.specs.declared.plan.Plan.{Plan}
use Rattle.move_plan.specs.Places.{IsAt}
use Rattle.move_plan.specs.Rules.{PassesRules}
use Rattle.desk_model.specs.Outcome.{file_at}
use Rattle.plan_exec.specs.Causes.{Obstacle, or_then, source_by, place_by, parent_by, link_obstacle, clear_obstacle, set_obstacle_from, set_obstacle, save_obstacle_by, save_obstacle}
use Rattle.plan_exec.specs.Frames.{Puts, Saves, Clears}
use Rattle.plan_exec.proofs.Obstacles.{parent_same, free-no_folder, open_value, both_none}
use Rattle.plan_exec.proofs.Rules.{from-not_set}
use Rattle.plan_exec.proofs.Saving.{source-not_save}
use Rattle.plan_exec.proofs.Values.{no_odd}

-- what is told of an entry that has an obstacle
pub waits_or_free : {A B C : Type 0} → A ⊎ (B × C) → A ⊎ B
waits_or_free (inl a) = inl a
waits_or_free (inr h) = inr h.0

-- an entry's place is as it was, or the entry is done
module _ {X : Type 0} (at : X → Spot) (Has : X → Value → Type 0) (obstacle : X → Option Obstacle) (a : Disk) where
  abbrev pub WaitsOrDone : Disk → X → Type 0
  WaitsOrDone d x = (d.now (at x) ≡ a.now (at x)) ⊎ ((obstacle x ≡ None) × Has x (d.now (at x)))

  pub waits_next : (d e : Disk) (this x : X) → ((y : Spot) → y ≢ at this → e.now y ≡ d.now y) → (at x ≡ at this → x ≡ this) → obstacle this ≡ None → Has this (e.now (at this)) → WaitsOrDone d x → WaitsOrDone e x
  waits_next d e this x others one free done waits = elim (same_or_other (at x) (at this)) [
    | inl same ↦ inr (subst (λ y. (obstacle y ≡ None) × Has y (e.now (at y))) (sym (one same)) (free, done))
    | inr ne ↦ elim waits [ inl still ↦ inl (others (at x) ne ∙ still) | inr now ↦ inr (now.0, subst (Has x) (sym (others (at x) ne)) now.1) ]
  ]

link_same : (d a : Disk) (from to : Spot) → kind_of d from ≡ kind_of a from → place_by (kind_of d to) to ≡ place_by (kind_of a to) to → d.folders (parent to) ≡ a.folders (parent to) → link_obstacle d from to ≡ link_obstacle a from to
link_same d a from to source place folder =
    ap (λ k. or_then (source_by k from) (or_then (place_by (kind_of d to) to) (parent_by (kind_of d (parent to)) (parent to)))) source
    ∙ ap (λ o. or_then (source_by (kind_of a from) from) (or_then o (parent_by (kind_of d (parent to)) (parent to)))) place
    ∙ ap (λ o. or_then (source_by (kind_of a from) from) (or_then (place_by (kind_of a to) to) o)) (parent_same d a (parent to) folder)

-- Sets

place_free : (a : Disk) (o : Option Place) (to : Place) → set_obstacle_from a o to ≡ None → place_by (kind_of a (spot_of to)) (spot_of to) ≡ None
place_free a None to free = free
place_free a (Some p) to free = (both_none _ _ (both_none _ _ free).1).0

set_by : (d a : Disk) (o : Option Place) (to : Place) → ((x : Spot) → IsAt o x → kind_of d x ≡ kind_of a x) → d.folders ≡ a.folders → place_by (kind_of d (spot_of to)) (spot_of to) ≡ place_by (kind_of a (spot_of to)) (spot_of to) → set_obstacle_from d o to ≡ set_obstacle_from a o to
set_by d a None to sources folders place = place
set_by d a (Some p) to sources folders place = link_same d a (spot_of p) (spot_of to) (sources (spot_of p) refl) place (ap (λ f. f (parent (spot_of to))) folders)

module _ (plan : Plan) (passes : PassesRules plan) (a d : Disk) (puts : Puts plan a d) where
  pub set_same : (row : SetRow) → Contains plan.sets row → WaitsOrDone (λ (r : SetRow). spot_of r.to) (λ (r : SetRow) v. v ≡ file_at a.now r.from) (set_obstacle a) a d row → set_obstacle d row ≡ set_obstacle a row
  set_same row listed waits =
      let x = spot_of row.to in
      let folder = ap (λ f. f (spot_of row.to)) puts.files.folders in
      set_by d a row.from row.to
      (λ y at. same_kind d a y (ap (λ f. f y) puts.files.folders) (puts.now y (from-not_set plan passes y (record { row = row; listed = listed; here = at }))))
      puts.files.folders
      (elim waits [
        | inl still ↦ ap (λ k. place_by k (spot_of row.to)) (same_kind d a (spot_of row.to) folder still)
        | inr done ↦
            let free = place_free a row.from row.to done.0 in
            open_value d (spot_of row.to) (file_at a.now row.from) (folder ∙ free-no_folder a (spot_of row.to) free) done.1 (λ is. no_odd a.now row.from (sym is)) ∙ sym free
      ])

-- Saves

module _ (plan : Plan) (passes : PassesRules plan) (a d : Disk) (saves : Saves plan a d) where
  pub save_same : (save : Place × Place) → Contains plan.saves save → WaitsOrDone (λ (s : Place × Place). spot_of s.1) (λ s v. (n : ℕ) × (v ≡ file n)) (save_obstacle a) a d save → save_obstacle d save ≡ save_obstacle a save
  save_same save listed waits =
      let from = spot_of save.0 in
      let to = spot_of save.1 in
      let source = same_kind d a (spot_of save.0) (ap (λ f. f (spot_of save.0)) saves.files.folders) (saves.now (spot_of save.0) (source-not_save plan passes save listed)) in
      elim waits [
        | inl still ↦
            let k = same_kind d a (spot_of save.1) (ap (λ f. f (spot_of save.1)) saves.files.folders) still in
            ap (λ l. save_obstacle_by l (link_obstacle d (spot_of save.0) (spot_of save.1))) k
            ∙ ap (save_obstacle_by (kind_of a (spot_of save.1))) (link_same d a (spot_of save.0) (spot_of save.1) source (ap (λ l. place_by l (spot_of save.1)) k) (ap (λ f. f (parent (spot_of save.1))) saves.files.folders))
        | inr done ↦
            let k = file-kind d (spot_of save.1) (file-no_folder d (spot_of save.1) saves.valid done.1) done.1 in
            ap (λ l. save_obstacle_by l (link_obstacle d (spot_of save.0) (spot_of save.1))) k ∙ sym done.0
      ]

-- Clears

pub clear_same : (plan : Plan) (a d : Disk) → Clears plan a d → (at : Place) → WaitsOrDone (λ (p : Place). spot_of p) (λ p v. v ≡ none) (clear_obstacle a) a d at → clear_obstacle d at ≡ clear_obstacle a at
clear_same plan a d clears at waits =
    let folder = ap (λ f. f (spot_of at)) clears.files.folders in
    elim waits [
      | inl still ↦ ap (λ k. place_by k (spot_of at)) (same_kind d a (spot_of at) folder still)
      | inr done ↦ open_value d (spot_of at) none (folder ∙ free-no_folder a (spot_of at) done.0) done.1 (λ is. cc) ∙ sym done.0
    ]
