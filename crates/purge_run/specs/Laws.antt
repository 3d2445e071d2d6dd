-- The laws of a purge's plan, as claims.
use Rattle.std.specs.Prelude.{◌≡◌, ◌↔◌, ℕ, ◌<◌, List, map}
use Rattle.std.specs.List.{Contains, AllByRecursion}
use Rattle.std.specs.declared.option.Option.TheVariants.{None, Some}
use Rattle.tree_fs.specs.Spot.{Spot, spot_of}
use Rattle.tree_fs.specs.Disk.{Disk}
use Rattle.manifest_json.specs.declared.manifest.Row.{Row}
use Rattle.manifest_json.specs.declared.manifest.Manifest.{Manifest}
use Rattle.manifest_json.specs.Paths.{AreRising}
use Rattle.manifest_json.specs.Records.{paths_of}
use Rattle.move_plan.specs.declared.plan.Plan.{Plan}
use Rattle.move_plan.specs.Entries.{Listed, listed, set, save}
use Rattle.move_plan.specs.Rules.{InOrder, KeepsRule, in_order}
use Rattle.move_plan.specs.Sound.{SoundPlan}
use Rattle.intent_json.specs.declared.intent.Phase.TheVariants as phase
use Rattle.desk_model.specs.Purged.{Purged}
use Rattle.desk_model.specs.Outcome.{outcome_by}
use Rattle.plan_model.specs.Rows.{old_of}
use Rattle.plan_model.specs.Moves.{LaidOut}
use Rattle.plan_model.specs.Folders.{IsMade, IsOwnFolder, GoesOff}
use Rattle.plan_model.specs.Lists.{spotted, ends_of}
use Rattle.purge_run.specs.declared.error.PurgeError.{PurgeError}
use Rattle.purge_run.specs.Holds.{purge_moves}
use Rattle.purge_run.specs.Walk.{purge_sets, purge_saves, purge_clears}
use Rattle.purge_run.specs.Refusals.{NoRefusal, IsRefusal, IsPurgeRefusal}
use Rattle.purge_run.specs.Folders.{IsMissingAside}
use Rattle.purge_run.specs.Plans.{CanPurge, PurgePlan, IsPurgePlan}

-- the plan over a disk's own manifest, as a set form, leads to the desk of the purge
abbrev pub PurgeLeads : Type 0
PurgeLeads =
    (a : Disk) (n : ℕ) (plan : Plan) → CanPurge a (old_of a) n → PurgePlan a (old_of a) n plan
    → Purged a (outcome_by a (Some (record { phase = phase.Set; plan = plan })))

-- the plan is sound
abbrev pub PurgeSound : Type 0
PurgeSound =
    (a : Disk) (old : Manifest) (n : ℕ) (plan : Plan)
    → CanPurge a old n → PurgePlan a old n plan → SoundPlan a plan

-- there is one plan with a number
abbrev pub PurgeOnce : Type 0
PurgeOnce =
    (a : Disk) (old : Manifest) (n : ℕ) (p q : Plan)
    → PurgePlan a old n p → PurgePlan a old n q → p ≡ q

-- and there is one plan
abbrev pub PurgeIsOne : Type 0
PurgeIsOne =
    (a : Disk) (old : Manifest) (p q : Plan) → IsPurgePlan a old p → IsPurgePlan a old q → p ≡ q

-- a plan with the lists of one pass over the rows, each in its order, moves what a purge moves
abbrev pub PurgeWalks : Type 0
PurgeWalks =
    (a : Disk) (rows : List Row) (n : ℕ) (plan : Plan) → AreRising (paths_of rows)
    → map spotted plan.sets ≡ purge_sets a n rows
    → map ends_of plan.saves ≡ purge_saves a n rows
    → ((x : Spot) → (Contains (map spot_of plan.clears) x ↔ Contains (purge_clears a rows) x))
    → KeepsRule in_order plan → LaidOut (purge_moves a rows n) plan

-- the sets of the pass are in the order of a plan
abbrev pub SetsInOrder : Type 0
SetsInOrder =
    (a : Disk) (rows : List Row) (n : ℕ) (plan : Plan) → AreRising (paths_of rows)
    → map spotted plan.sets ≡ purge_sets a n rows
    → AllByRecursion (λ (e : Listed). InOrder e.entry e.front) (listed set 0 None plan.sets)

-- and so are its saves, with a number of 32 bits
abbrev pub SavesInOrder : Type 0
SavesInOrder =
    (a : Disk) (rows : List Row) (n : ℕ) (plan : Plan) → AreRising (paths_of rows)
    → n < 4294967296 → map ends_of plan.saves ≡ purge_saves a n rows
    → AllByRecursion (λ (e : Listed). InOrder e.entry e.front) (listed save 0 None plan.saves)

-- a plan of a purge makes the folders that are missing above what is set aside
abbrev pub MadeForAsides : Type 0
MadeForAsides =
    (a : Disk) (old : Manifest) (n : ℕ) (plan : Plan)
    → CanPurge a old n → LaidOut (purge_moves a old.rows n) plan
    → (s : Spot) → (IsMade a plan s ↔ IsMissingAside a old.rows n s)

-- and takes off old own folders alone
abbrev pub OnlyOwnGo : Type 0
OnlyOwnGo =
    (a : Disk) (old : Manifest) (n : ℕ) (plan : Plan)
    → CanPurge a old n → LaidOut (purge_moves a old.rows n) plan
    → (s : Spot) → GoesOff a old.folders plan s → IsOwnFolder a old.folders s

-- where nothing refuses the plan, no reason is the first
abbrev pub NoneIsFirst : Type 0
NoneIsFirst =
    (a : Disk) (rows : List Row) (error : PurgeError)
    → NoRefusal a rows → IsRefusal error → ¬ IsPurgeRefusal a rows error

-- only one reason is the first
abbrev pub FirstIsOne : Type 0
FirstIsOne =
    (a : Disk) (rows : List Row) (e f : PurgeError) → IsRefusal e → IsRefusal f
    → IsPurgeRefusal a rows e → IsPurgeRefusal a rows f → e ≡ f
