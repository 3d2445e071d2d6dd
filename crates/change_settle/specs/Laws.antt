-- The laws of a settlement's plan, as claims.
use Rattle.std.specs.Prelude.{◌≡◌, ◌↔◌, ℕ, List, map}
use Rattle.std.specs.List.{Contains}
use Rattle.std.specs.declared.option.Option.TheVariants.{Some}
use Rattle.tree_fs.specs.Spot.{Spot, spot_of}
use Rattle.tree_fs.specs.Disk.{Disk}
use Rattle.manifest_json.specs.declared.manifest.Row.{Row}
use Rattle.manifest_json.specs.declared.manifest.Manifest.{Manifest}
use Rattle.manifest_json.specs.Sound.{AreRows, AreFolders}
use Rattle.move_plan.specs.declared.plan.Plan.{Plan}
use Rattle.move_plan.specs.Rules.{KeepsRule, in_order}
use Rattle.move_plan.specs.Sound.{SoundPlan}
use Rattle.intent_json.specs.declared.intent.Phase.TheVariants as phase
use Rattle.desk_model.specs.Settled.{Choice, Settled}
use Rattle.desk_model.specs.Outcome.{outcome_by}
use Rattle.plan_model.specs.Rows.{old_of}
use Rattle.plan_model.specs.Moves.{Move, LaidOut}
use Rattle.plan_model.specs.Folders.{IsMade, IsOwnFolder, GoesOff, OwnLaidOut}
use Rattle.plan_model.specs.Lists.{spotted, ends_of}
use Rattle.change_settle.specs.declared.error.SettleError.{SettleError}
use Rattle.change_settle.specs.Deeds.{settle_moves, next_rows}
use Rattle.change_settle.specs.Walk.{settle_sets, settle_saves, settle_clears}
use Rattle.change_settle.specs.Refusals.{NoRefusal, IsRefusal, IsSettleRefusal}
use Rattle.change_settle.specs.Folders.{IsMissingFor}
use Rattle.change_settle.specs.Plans.{CanSettle, SettlePlan}

-- the plan over a disk's own manifest, as a set form, leads to the desk of the settlement
abbrev pub SettleLeads : Type 0
SettleLeads =
    (choice : Choice) (a : Disk) (n : ℕ) (plan : Plan)
    → CanSettle choice a (old_of a) n → SettlePlan choice a (old_of a) n plan
    → Settled a choice (outcome_by a (Some (record { phase = phase.Set; plan = plan })))

-- the plan is sound
abbrev pub SettleSound : Type 0
SettleSound =
    (choice : Choice) (a : Disk) (old : Manifest) (n : ℕ) (plan : Plan)
    → CanSettle choice a old n → SettlePlan choice a old n plan → SoundPlan a plan

-- there is one plan with a number
abbrev pub SettleOnce : Type 0
SettleOnce =
    (choice : Choice) (a : Disk) (old : Manifest) (n : ℕ) (p q : Plan)
    → SettlePlan choice a old n p → SettlePlan choice a old n q → p ≡ q

-- a plan with the sets, saves and clears of one pass over the rows, each in its order, moves what a
-- settlement moves
abbrev pub SettleWalks : Type 0
SettleWalks =
    (choice : Choice) (a : Disk) (rows : List Row) (n : ℕ) (plan : Plan) → AreRows rows
    → ((v : Spot × Move)
    → (Contains (map spotted plan.sets) v ↔ Contains (settle_sets choice a rows n) v))
    → ((y : Spot × Spot)
    → (Contains (map ends_of plan.saves) y ↔ Contains (settle_saves choice a rows n) y))
    → ((x : Spot)
    → (Contains (map spot_of plan.clears) x ↔ Contains (settle_clears choice a rows n) x))
    → KeepsRule in_order plan → LaidOut (settle_moves choice a rows n) plan

-- a plan of a settlement makes the folders that are missing above what is put back or set aside
abbrev pub MadeForFiles : Type 0
MadeForFiles =
    (choice : Choice) (a : Disk) (old : Manifest) (n : ℕ) (plan : Plan)
    → CanSettle choice a old n → LaidOut (settle_moves choice a old.rows n) plan
    → (s : Spot) → (IsMade a plan s ↔ IsMissingFor choice a old.rows n s)

-- and takes off old own folders alone
abbrev pub OnlyOwnGo : Type 0
OnlyOwnGo =
    (choice : Choice) (a : Disk) (old : Manifest) (n : ℕ) (plan : Plan)
    → CanSettle choice a old n → LaidOut (settle_moves choice a old.rows n) plan
    → (s : Spot) → GoesOff a old.folders plan s → IsOwnFolder a old.folders s

-- the rows that are left can be those of a manifest
abbrev pub RowsAreKept : Type 0
RowsAreKept =
    (choice : Choice) (a : Disk) (rows : List Row) → AreRows rows
    → AreRows (next_rows choice a rows)

-- and the new own folders can be those of a manifest
abbrev pub OwnIsKept : Type 0
OwnIsKept =
    (choice : Choice) (a : Disk) (old : Manifest) (n : ℕ) (plan : Plan) (next : List (List ℕ))
    → CanSettle choice a old n → LaidOut (settle_moves choice a old.rows n) plan
    → OwnLaidOut a old.folders plan next → AreFolders next

-- where nothing refuses the plan, no reason is the first
abbrev pub NoneIsFirst : Type 0
NoneIsFirst =
    (choice : Choice) (a : Disk) (rows : List Row) (error : SettleError)
    → NoRefusal choice a rows → IsRefusal error → ¬ IsSettleRefusal choice a rows error

-- only one reason is the first
abbrev pub FirstIsOne : Type 0
FirstIsOne =
    (choice : Choice) (a : Disk) (rows : List Row) (e f : SettleError) → AreRows rows
    → IsRefusal e → IsRefusal f
    → IsSettleRefusal choice a rows e → IsSettleRefusal choice a rows f → e ≡ f
