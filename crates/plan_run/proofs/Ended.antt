-- What a plan that was carried out led to.
use Rattle.std.proofs.Common.{ℕ, List, inl, inr}
use Rattle.std.specs.declared.option.Option.TheVariants.{Some}
use Rattle.tree_fs.specs.Spot.{Spot}
use Rattle.tree_fs.specs.Disk.{Disk, Image}
use Rattle.tree_fs.specs.Story.{Story, disk_of}
use Rattle.tree_fs.proofs.Moments.{through_weaken}
use Rattle.move_plan.specs.declared.plan.Plan.{Plan}
use Rattle.move_plan.specs.Places.{Has}
use Rattle.intent_json.specs.Forms.{set_form}
use Rattle.desk_model.specs.Desk.{Desk}
use Rattle.desk_model.specs.Deployed.{Win, Deployed}
use Rattle.desk_model.specs.Settled.{Choice, Settled}
use Rattle.desk_model.specs.Purged.{Purged}
use Rattle.desk_model.specs.Outcome.{outcome_by, outcome_now}
use Rattle.desk_model.specs.Stops.{Leads, LeadsToOldOrNew}
use Rattle.desk_model.proofs.SameDesks.{deployed-same, settled-same, purged-same}
use Rattle.plan_model.specs.Folders.{FoldersLaidOut}
use Rattle.plan_exec.specs.Ending.{Executed, IsPlanned, IsOldOr, StopsOldOrNew}
use Rattle.plan_run.specs.Quiet.{IsQuiet}
use Rattle.plan_run.specs.Runs.{IsAbove}

-- the folders that a planner makes are parents of destinations
pub laid_out-needed : (a : Disk) (own : List (List ℕ)) (plan : Plan) → FoldersLaidOut a own plan → (s : Spot) → Has plan.folders s → IsAbove plan s
laid_out-needed a own plan folders s has = let made = (folders.made s).0 has in record { place = made.place; to = made.to; below = made.below }

pub executed_quiet : (plan : Plan) (a e : Disk) → Executed plan a e → IsQuiet e
executed_quiet plan a e h = record { standing = h.standing; settled = h.settled; no_intent = h.no_intent; no_temps = h.no_temps }

-- what a new desk is, each stop that leads to it tells

pub leads_on : (old : Disk) (new next : Desk → Type 0) (d : Disk) → ((k : Desk) → new k → next k) → Leads (IsOldOr old new) d → Leads (IsOldOr old next) d
leads_on old new next d to h = record {
  standing = h.standing;
  profile = h.profile;
  each = λ v held. elim (h.each v held) [ inl same ↦ inl same | inr is ↦ inr (to _ is) ];
}

image_on : (a : Disk) (new next : Desk → Type 0) (left : Disk) → ((k : Desk) → new k → next k) → LeadsToOldOrNew a new left → LeadsToOldOrNew a next left
image_on a new next left to h = record {
  standing = h.standing;
  one_of = elim h.one_of [ inl same ↦ inl same | inr is ↦ inr (to (outcome_now left) is) ];
}

pub stops_on : (new next : Desk → Type 0) (s t : Story) → ((k : Desk) → new k → next k) → StopsOldOrNew new s t → StopsOldOrNew next s t
stops_on new next s t to h = record {
  ops = h.ops;
  goes_on = h.goes_on;
  each = through_weaken (λ d. (left : Disk) → Image d left → LeadsToOldOrNew (disk_of s) new left) (λ d. (left : Disk) → Image d left → LeadsToOldOrNew (disk_of s) next left) (disk_of s) h.ops
      (λ d leads left image. image_on (disk_of s) new next left to (leads left image)) h.each;
}

module _ (a : Disk) (plan : Plan) where
  abbrev led : Desk
  led = outcome_by a (Some (set_form plan))

  pub planned_deployed : (wins : List Win) → Deployed a wins (outcome_by a (Some (set_form plan))) → (k : Desk) → IsPlanned a plan k → Deployed a wins k
  planned_deployed wins h k same = deployed-same a k led wins same h

  pub planned_settled : (choice : Choice) → Settled a choice (outcome_by a (Some (set_form plan))) → (k : Desk) → IsPlanned a plan k → Settled a choice k
  planned_settled choice h k same = settled-same a k led choice same h

  pub planned_purged : Purged a (outcome_by a (Some (set_form plan))) → (k : Desk) → IsPlanned a plan k → Purged a k
  planned_purged h k same = purged-same a k led same h
