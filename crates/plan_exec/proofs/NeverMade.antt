-- On a disk on which the set form of a plan stands, each of its folders can be made in turn.
use Rattle.std.proofs.Common.{◌≡◌, ◌≢◌, [], refl, sym, ap, ◌∙◌, inl, inr, subst}
use Rattle.std.specs.Prelude.{IfErr}
use Rattle.std.specs.declared.result.Result.{Result}
use Rattle.std.specs.declared.result.Result.TheVariants.{Ok, Err}
use Rattle.std.specs.List.{Contains}
use Rattle.list_laws.proofs.Containing.{contains_seam}
use Rattle.tree_fs.specs.declared.name.Kind.TheVariants.{File, Folder, Absent, Other}
use Rattle.tree_fs.specs.Spot.{spot_of, parent, IsBelow}
use Rattle.tree_fs.specs.Disk.{Disk, none, file, odd, kind_of}
use Rattle.tree_fs.specs.Calls.{IsFolder}
use Rattle.tree_fs.proofs.Below.{below-parent}
use Rattle.tree_fs.proofs.KindOf.{folder-kind, kind-file, kind-other}
use Rattle.move_plan.specs.declared.plan.Plan.{Plan}
use Rattle.move_plan.specs.Places.{Has}
use Rattle.move_plan.specs.Rules.{PassesRules}
use Rattle.move_plan.proofs.Entries.{rule_2}
use Rattle.desk_model.specs.Standing.{SetStands}
use Rattle.plan_exec.specs.declared.error.ExecError.{ExecError}
use Rattle.plan_exec.specs.Making.{folder_by, CantMakeOne}
use Rattle.plan_exec.specs.Causes.{parent_by, Tells, IsFault}
use Rattle.plan_exec.proofs.Obstacles.{tells_none}
use Rattle.tree_fs.specs.declared.name.Kind.{Kind}
use Rattle.std.specs.declared.option.Option.TheVariants.{None}
use Rattle.plan_exec.specs.Steps.{SavesReady}
use Rattle.plan_exec.proofs.MadeStands.{set_stands, made_ready}
use Rattle.plan_exec.proofs.Order.{above_first}

module _ (plan : Plan) (passes : PassesRules plan) (a : Disk) (ready : SavesReady plan a) (error : ExecError) (stop : CantMakeOne plan.folders a error) where
  listed : Contains plan.folders stop.at
  listed = subst (λ l. Contains l stop.at) (sym stop.split) (contains_seam stop.front stop.at stop.later)

  has : Has plan.folders (spot_of stop.at)
  has = record { place = stop.at; listed = listed; here = refl }

  form : SetStands stop.d plan
  form = set_stands plan stop.d (made_ready plan passes a ready stop.d stop.so_far)

  free : (stop.at.root ≡ stop.at.root) → (spot_of stop.at).names ≢ []
  free is = ((rule_2 plan passes).folders stop.at listed).not_root

  up_there : IsFolder stop.d (parent (spot_of stop.at))
  up_there =
      let below = below-parent (spot_of stop.at) (free refl) in
      elim (form.parents (spot_of stop.at) (parent (spot_of stop.at)) (inr has) below) [
        | inl made ↦ stop.there (parent (spot_of stop.at)) (record {
          place = made.place;
          listed = above_first plan passes stop.front stop.later stop.at made.place stop.split made.listed (subst (λ x. IsBelow x (spot_of stop.at)) (sym made.here) below);
          here = made.here;
        })
        | inr there ↦ there
      ]

  -- it is a folder, or nothing is there
  by_kind : (k : Kind) → kind_of stop.d (spot_of stop.at) ≡ k → folder_by k (spot_of stop.at) (parent_by (kind_of stop.d (parent (spot_of stop.at))) (parent (spot_of stop.at))) ≡ None
  by_kind Folder is = refl
  by_kind Absent is = ap (λ k. parent_by k (parent (spot_of stop.at))) (folder-kind stop.d (parent (spot_of stop.at)) up_there)
  by_kind File is = elim (form.made (spot_of stop.at) has) [
    | inl there ↦ let t : Folder ≡ File = sym (folder-kind stop.d (spot_of stop.at) there) ∙ is in absurd (cc)
    | inr only ↦ let f = (kind-file stop.d (spot_of stop.at) is).1 in let t : none ≡ file f.0 = sym (only _ (inl refl)) ∙ f.1 in absurd (cc)
  ]
  by_kind Other is = elim (form.made (spot_of stop.at) has) [
    | inl there ↦ let t : Folder ≡ Other = sym (folder-kind stop.d (spot_of stop.at) there) ∙ is in absurd (cc)
    | inr only ↦ let t : none ≡ odd = sym (only _ (inl refl)) ∙ (kind-other stop.d (spot_of stop.at) is).1 in absurd (cc)
  ]

  never_blocked : IsFault error
  never_blocked = tells_none error (subst (λ o. Tells o error) (by_kind (kind_of stop.d (spot_of stop.at)) refl) stop.why)

pub never_made : {T : Type 0} (plan : Plan) → PassesRules plan → (a : Disk) → SavesReady plan a → (r : Result T ExecError) → IfErr r (CantMakeOne plan.folders a) → IfErr r IsFault
never_made plan passes a ready (Ok v) h = tt
never_made plan passes a ready (Err e) h = never_blocked plan passes a ready e h
