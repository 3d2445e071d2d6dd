-- The steps of the order of refusals: what holds where a step passes, and how it refuses.
use Rattle.std.specs.Prelude.{◌≡◌, ◌≢◌, ◌⊎◌, ◌≤◌, ◌<◌, ℕ, List, length, map}
use Rattle.std.specs.declared.option.Option.{Option}
use Rattle.std.specs.declared.option.Option.TheVariants.{None, Some}
use Rattle.rel_paths.specs.declared.control.Control.{Control}
use Rattle.rel_paths.specs.declared.control.Control.TheVariants.{Intent, Manifest as at_manifest}
use Rattle.tree_fs.specs.declared.name.Kind.TheVariants.{File}
use Rattle.tree_fs.specs.declared.place.Place.{Place}
use Rattle.tree_fs.specs.Spot.{spot_of}
use Rattle.tree_fs.specs.Texts.{control_spot}
use Rattle.tree_fs.specs.Disk.{Disk, kind_of}
use Rattle.tree_fs.specs.Story.{Story, disk_of, with_ops}
use Rattle.profile_toml.specs.Records.{ProfileData, RuleData}
use Rattle.mod_rules.specs.Checks.{first_failing_rule, error_of}
use Rattle.mod_rules.specs.Edges.{GraphData}
use Rattle.load_order.specs.Orders.{IsLawful}
use Rattle.load_order.specs.Cycles.{IsFound as IsCycle}
use Rattle.stage_scan.specs.declared.scan.Scan.{Scan}
use Rattle.winner_table.specs.declared.error.WinError.TheVariants as win
use Rattle.winner_table.specs.declared.wins.WinRow.{WinRow}
use Rattle.winner_table.specs.Folders.{IsLeastFolder}
use Rattle.manifest_json.specs.declared.error.ManifestError.{ManifestError}
use Rattle.manifest_json.specs.declared.manifest.Manifest.{Manifest}
use Rattle.change_choices.specs.declared.choices.Choices.{Choices}
use Rattle.change_choices.specs.Choice.{choice}
use Rattle.change_detect.specs.Refusals.{first_blocked}
use Rattle.intent_json.specs.declared.intent.Intent.{Intent as IntentValue}
use Rattle.intent_journal.specs.declared.error.ReadyError.{ReadyError}
use Rattle.intent_journal.specs.Found.{IsFound, IsNoIntent}
use Rattle.intent_journal.specs.Lengths.{length_fault}
use Rattle.intent_journal.specs.Sweeps.{sweep_ops}
use Rattle.intent_journal.specs.Temps.{IsFileOrAbsent}
use Rattle.move_plan.specs.declared.plan.Plan.{Plan}
use Rattle.desk_model.specs.Deployed.{Win}
use Rattle.desk_model.specs.Records.{rows_on}
use Rattle.deploy_plan.specs.declared.error.PlanError.{PlanError}
use Rattle.deploy_plan.specs.Refusals.{IsPlanRefusal, IsRefusal, NoRefusal}
use Rattle.purge_run.specs.declared.error.PurgeError.{PurgeError}
use Rattle.purge_run.specs.Refusals as purge
use Rattle.purge_run.specs.Refusals.{IsPurgeRefusal}
use Rattle.change_settle.specs.declared.error.SettleError.{SettleError}
use Rattle.change_settle.specs.Refusals as settle
use Rattle.change_settle.specs.Refusals.{IsSettleRefusal}
use Rattle.profile_edit.specs.declared.edit.Edit.{Edit}
use Rattle.profile_edit.specs.declared.error.EditError.{EditError}
use Rattle.profile_edit.specs.Edits.{edit_fault}
use Rattle.answer_lines.specs.Lists.{id_of}
use Rattle.answer_lines.specs.declared.refusal.InputRefusal.{InputRefusal}
use Rattle.answer_lines.specs.declared.refusal.Refusal.TheVariants as group
use Rattle.answer_lines.specs.declared.refusal.PlanRefusal.TheVariants.{Blocked}
use Rattle.answer_lines.specs.declared.refusal.ProfileRefusal.TheVariants.{TooManyMods, TooLong}
use Rattle.answer_lines.specs.declared.refusal.RuleRefusal.TheVariants.{Cycle}
use Rattle.answer_lines.specs.declared.refusal.RecoveryRefusal.TheVariants.{BadIntent}
use Rattle.command_steps.specs.declared.limits.Limits.{Limits}
use Rattle.command_steps.specs.declared.stop.Stop.{Stop}
use Rattle.command_steps.specs.declared.stop.Stop.TheVariants.{Refused, RecoverFirst}
use Rattle.command_steps.specs.Stops.{IsTold, rule_stop, win_stop, manifest_stop, plan_stop, ready_stop, purge_stop, settle_stop, edit_stop}
use Rattle.command_steps.specs.Profiles.{IsReadFault, HasProfile, enabled_ids, bases_of, IsGraphOf, IsOrderOf}
use Rattle.command_steps.specs.Scans.{HaveNoFault, IsFirstScanFault, AreScans, HaveTargets, IsFirstTargetLong}
use Rattle.command_steps.specs.Looks.{Look, IsLook, AreWins, HasWins, placed}
use Rattle.command_steps.specs.Manifests.{HasManifest, HasManifestFault, manifest_size}
use Rattle.command_steps.specs.Inputs.{IsAnswered, IsInputRefusal}
use Rattle.command_steps.specs.Plans.{HasPlan, HasPurgePlan, HasSettlePlan, IsIdleOn}

-- the steps that a command takes before it does its work
pub data Step : Type 0 where
  -- nothing but a file stands at this control place
  fine : Control → Step
  -- no command was stopped before
  no_intent : Step
  -- old temps are taken away, and `keep` is settled
  barrier : Step
  -- the profile is read, and hasn't too many mods
  profile : Step
  -- no rule fails
  rules : Step
  -- there is a load order
  order : Step
  -- the enabled mods are scanned
  scans : Step
  -- each of their files has a user path where it is deployed
  targets : Step
  -- no winning path is a file and a folder
  winners : Step
  -- the manifest is read
  manifest : Step
  -- no folder, and nothing odd, stands at a place of a row
  changes : Step
  -- what stands at the intent's place is an intent
  intent : Step
  -- nothing is in the way of a deployment
  planned : Step
  -- the text of its intent isn't too long
  fits : Step
  -- nothing is in the way of a purge
  purged : Step
  -- the text of its intent isn't too long
  purge_fits : Step
  -- each line of this input is an answer about a change
  answers : List ℕ → Step
  -- nothing is in the way of a settlement by these choices
  settled : Choices → Step
  -- the text of its intent isn't too long
  settle_fits : Choices → Step
  -- the edit of the profile can be made
  edit : Edit → Step

abbrev pub IsFine : Disk → Control → Type 0
IsFine d which = IsFileOrAbsent d (control_spot which)

-- what holds where a step doesn't refuse
abbrev pub Passes : Step → Limits → Disk → Type 0
Passes (fine which) limits d = IsFine d which
Passes no_intent limits d = kind_of d (control_spot Intent) ≢ File
Passes barrier limits d = Unit {0}
Passes profile limits d = (p : ProfileData) × HasProfile d p × (length p.mods ≤ limits.mods)
Passes rules limits d = (p : ProfileData) × HasProfile d p × (first_failing_rule p ≡ None)
Passes order limits d =
    (p : ProfileData) × HasProfile d p × (g : GraphData) × IsGraphOf p g
    × (list : List ℕ) × IsOrderOf g list
Passes scans limits d =
    (p : ProfileData) × HasProfile d p × HaveNoFault d (enabled_ids p) limits.entries
Passes targets limits d =
    (p : ProfileData) × HasProfile d p × (found : List Scan) × AreScans d (enabled_ids p) found
    × HaveTargets (bases_of p) found
Passes winners limits d =
    (look : Look) × IsLook d look × (wins : List WinRow) × AreWins look wins
Passes manifest limits d =
    (manifest_size d ≤ limits.text) × (m : Option Manifest) × HasManifest d m
Passes changes limits d = first_blocked d (rows_on d) ≡ None
Passes intent limits d = (found : Option IntentValue) × IsFound d found
Passes planned limits d = (wins : List Win) × HasWins d wins × NoRefusal d (rows_on d) wins
Passes fits limits d =
    (plan : Plan) × HasPlan d plan × (IsIdleOn d plan ⊎ (length_fault plan limits.text ≡ None))
Passes purged limits d = purge.NoRefusal d (rows_on d)
Passes purge_fits limits d =
    (plan : Plan) × HasPurgePlan d plan
    × (IsIdleOn d plan ⊎ (length_fault plan limits.text ≡ None))
Passes (answers input) limits d = IsAnswered d input
Passes (settled choices) limits d = settle.NoRefusal (choice choices) d (rows_on d)
Passes (settle_fits choices) limits d =
    (plan : Plan) × HasSettlePlan choices d plan
    × (IsIdleOn d plan ⊎ (length_fault plan limits.text ≡ None))
Passes (edit e) limits d =
    (p : ProfileData) × HasProfile d p × (edit_fault limits.mods p e ≡ None)

-- how a step refuses
abbrev pub Refuses : Step → Limits → Disk → Stop → Type 0
Refuses (fine which) limits d stop =
    (place : Place) × (stop ≡ Refused (group.Plan (Blocked place)))
    × (spot_of place ≡ control_spot which) × (¬ IsFine d which)
Refuses no_intent limits d stop =
    (stop ≡ RecoverFirst) × (kind_of d (control_spot Intent) ≡ File)
Refuses barrier limits d stop = ⊥
Refuses profile limits d stop =
    IsReadFault d stop
    ⊎ ((p : ProfileData) × HasProfile d p × (limits.mods < length p.mods)
    × (stop ≡ Refused (group.Profile (TooManyMods (length p.mods)))))
Refuses rules limits d stop =
    (p : ProfileData) × HasProfile d p × (failing : List ℕ × RuleData)
    × (first_failing_rule p ≡ Some failing) × (stop ≡ rule_stop (error_of failing))
Refuses order limits d stop =
    (p : ProfileData) × HasProfile d p × (g : GraphData) × IsGraphOf p g
    × ((list : List ℕ) → ¬ IsLawful g list) × (cycle : List ℕ) × IsCycle g cycle
    × (stop ≡ Refused (group.Rules (Cycle (map (id_of (enabled_ids p)) cycle))))
Refuses scans limits d stop =
    (p : ProfileData) × HasProfile d p × IsFirstScanFault d (enabled_ids p) limits.entries stop
Refuses targets limits d stop =
    (p : ProfileData) × HasProfile d p × (found : List Scan) × AreScans d (enabled_ids p) found
    × IsFirstTargetLong (bases_of p) found stop
Refuses winners limits d stop =
    (look : Look) × IsLook d look × (path : List ℕ) × IsLeastFolder (placed look) look.order path
    × (stop ≡ win_stop (win.FileAndFolder path))
Refuses manifest limits d stop =
    ((limits.text < manifest_size d) × (place : Place) × (spot_of place ≡ control_spot at_manifest)
    × (stop ≡ Refused (group.Profile (TooLong place))))
    ⊎ ((manifest_size d ≤ limits.text) × (error : ManifestError) × HasManifestFault d error
    × IsTold (manifest_stop error) × (stop ≡ manifest_stop error))
Refuses changes limits d stop =
    (place : Place) × (first_blocked d (rows_on d) ≡ Some (spot_of place))
    × (stop ≡ Refused (group.Plan (Blocked place)))
Refuses intent limits d stop = (stop ≡ Refused (group.Recovery BadIntent)) × IsNoIntent d
Refuses planned limits d stop =
    (wins : List Win) × HasWins d wins × (error : PlanError) × IsRefusal error
    × IsPlanRefusal d (rows_on d) wins error × (stop ≡ plan_stop error)
Refuses fits limits d stop =
    (plan : Plan) × HasPlan d plan × (¬ IsIdleOn d plan) × (error : ReadyError)
    × (length_fault plan limits.text ≡ Some error) × (stop ≡ ready_stop error)
Refuses purged limits d stop =
    (error : PurgeError) × purge.IsRefusal error × IsPurgeRefusal d (rows_on d) error
    × (stop ≡ purge_stop error)
Refuses purge_fits limits d stop =
    (plan : Plan) × HasPurgePlan d plan × (¬ IsIdleOn d plan) × (error : ReadyError)
    × (length_fault plan limits.text ≡ Some error) × (stop ≡ ready_stop error)
Refuses (answers input) limits d stop =
    (refusal : InputRefusal) × IsInputRefusal d input refusal
    × (stop ≡ Refused (group.Input refusal))
Refuses (settled choices) limits d stop =
    (error : SettleError) × settle.IsRefusal error
    × IsSettleRefusal (choice choices) d (rows_on d) error × (stop ≡ settle_stop error)
Refuses (settle_fits choices) limits d stop =
    (plan : Plan) × HasSettlePlan choices d plan × (¬ IsIdleOn d plan) × (error : ReadyError)
    × (length_fault plan limits.text ≡ Some error) × (stop ≡ ready_stop error)
Refuses (edit e) limits d stop =
    (p : ProfileData) × HasProfile d p × (error : EditError)
    × (edit_fault limits.mods p e ≡ Some error) × (stop ≡ edit_stop error)

-- the story behind a step, to which the barrier alone adds
abbrev pub next : Step → Story → Story
next barrier s = with_ops s (sweep_ops (disk_of s))
next (fine which) s = s
next no_intent s = s
next profile s = s
next rules s = s
next order s = s
next scans s = s
next targets s = s
next winners s = s
next manifest s = s
next changes s = s
next intent s = s
next planned s = s
next fits s = s
next purged s = s
next purge_fits s = s
next (answers input) s = s
next (settled choices) s = s
next (settle_fits choices) s = s
next (edit e) s = s

-- of a step that gives no value
abbrev pub Nothing : Unit {0} → Type 0
Nothing _ = Unit {0}
