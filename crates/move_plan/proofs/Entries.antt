-- What a rule says of the entries of each list.
use Rattle.list_laws.proofs.Containing.{contains_cases, contains_none}
use Rattle.list_laws.proofs.Alls.{all_left, all_right}
use Rattle.std.proofs.Common.{ℕ, ◌+◌, List, [], ◌∷◌, sym, subst, inl, inr}
use Rattle.std.specs.List.{AllByRecursion, Contains}
use Rattle.std.specs.declared.option.Option.{Option}
use Rattle.std.specs.declared.option.Option.TheVariants.{None, Some}
use Rattle.tree_fs.specs.declared.place.Place.{Place}
use Rattle.move_plan.specs.declared.plan.SetRow.{SetRow}
use Rattle.move_plan.specs.declared.plan.Plan.{Plan}
use Rattle.move_plan.specs.Entries.{Entry, folder, save, set, clear, off, key_of, Listed, listed, entries}
use Rattle.move_plan.specs.Rules.{avoids_controls, Keeps, PassesRules, AvoidsControls, IsFirstFault}

listed_item : {A : Type 0} (Q : Entry → Type 0) (to : A → Entry) (i : ℕ) (front : Option Place) (l : List A) → AllByRecursion (λ (x : Listed). Q x.entry) (listed to i front l) → (a : A) → Contains l a → Q (to a)
listed_item Q to i front [] all a c = absurd (contains_none a c)
listed_item Q to i front (x ∷ xs) all a c = elim (contains_cases x a xs c) [
  | inl same ↦ subst (λ b. Q (to b)) (sym same) all.0
  | inr there ↦ listed_item Q to (i + 1) (Some (key_of (to x))) xs all.1 a there
]

-- a claim on all entries, list by list
pub record OfEach (Q : Entry → Type 0) (plan : Plan) : Type 0 where
  pub folders : (p : Place) → Contains plan.folders p → Q (folder p)
  pub saves : (s : Place × Place) → Contains plan.saves s → Q (save s)
  pub sets : (row : SetRow) → Contains plan.sets row → Q (set row)
  pub clears : (p : Place) → Contains plan.clears p → Q (clear p)
  pub folders_off : (p : Place) → Contains plan.folders_off p → Q (off p)

pub of_each : (Q : Entry → Type 0) (plan : Plan) → AllByRecursion (λ (x : Listed). Q x.entry) (entries plan) → OfEach Q plan
of_each Q plan all =
    let R = λ (x : Listed). Q x.entry in
    let fs = listed folder 0 None plan.folders in
    let ss = listed save 0 None plan.saves in
    let rs = listed set 0 None plan.sets in
    let cs = listed clear 0 None plan.clears in
    let os = listed off 0 None plan.folders_off in
    let one = all_right R fs _ all in
    let two = all_right R ss _ one in
    let three = all_right R rs _ two in
    record {
      folders = listed_item Q folder 0 None plan.folders (all_left R fs _ all);
      saves = listed_item Q save 0 None plan.saves (all_left R ss _ one);
      sets = listed_item Q set 0 None plan.sets (all_left R rs _ two);
      clears = listed_item Q clear 0 None plan.clears (all_left R cs _ three);
      folders_off = listed_item Q off 0 None plan.folders_off (all_right R cs _ three);
    }

pub rule_2 : (plan : Plan) → PassesRules plan → OfEach AvoidsControls plan
rule_2 plan passes = of_each AvoidsControls plan (passes avoids_controls)

-- a plan with a fault does not pass
pub fault-not_passed : (plan : Plan) (number index : ℕ) → IsFirstFault plan number index → ¬ PassesRules plan
fault-not_passed plan number index fault passes = fault.fails ((all_right (Keeps fault.rule plan) fault.earlier _ (subst (AllByRecursion (Keeps fault.rule plan)) fault.split (passes fault.rule))).0)
