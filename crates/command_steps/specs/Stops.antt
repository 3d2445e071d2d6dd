-- What the errors of the calls below are to a command.
use Rattle.std.specs.Prelude.{ℕ, List}
use Rattle.tree_fs.specs.declared.tree.TreeError.{TreeError}
use Rattle.tree_fs.specs.declared.tree.TreeError.TheVariants as tree
use Rattle.profile_toml.specs.declared.error.ProfileError.{ProfileError}
use Rattle.profile_toml.specs.declared.error.ProfileError.TheVariants as read
use Rattle.mod_rules.specs.declared.error.RuleError.{RuleError}
use Rattle.mod_rules.specs.declared.error.RuleError.TheVariants as rule
use Rattle.stage_scan.specs.declared.error.ScanError.{ScanError}
use Rattle.stage_scan.specs.declared.error.ScanError.TheVariants as scan
use Rattle.winner_table.specs.declared.error.WinError.{WinError}
use Rattle.winner_table.specs.declared.error.WinError.TheVariants as win
use Rattle.manifest_json.specs.declared.error.ManifestError.{ManifestError}
use Rattle.manifest_json.specs.declared.error.ManifestError.TheVariants as manifest
use Rattle.change_detect.specs.declared.error.ChangeError.{ChangeError}
use Rattle.change_detect.specs.declared.error.ChangeError.TheVariants as change
use Rattle.intent_journal.specs.declared.error.IntentError.{IntentError}
use Rattle.intent_journal.specs.declared.error.IntentError.TheVariants as intent
use Rattle.intent_journal.specs.declared.error.ReadyError.{ReadyError}
use Rattle.intent_journal.specs.declared.error.ReadyError.TheVariants as ready
use Rattle.deploy_plan.specs.declared.error.PlanError.{PlanError}
use Rattle.deploy_plan.specs.declared.error.PlanError.TheVariants as plan
use Rattle.purge_run.specs.declared.error.PurgeError.{PurgeError}
use Rattle.purge_run.specs.declared.error.PurgeError.TheVariants as purge
use Rattle.change_settle.specs.declared.error.SettleError.{SettleError}
use Rattle.change_settle.specs.declared.error.SettleError.TheVariants as settle
use Rattle.profile_edit.specs.declared.error.EditError.{EditError}
use Rattle.profile_edit.specs.declared.error.EditError.TheVariants as edit
use Rattle.answer_lines.specs.declared.refusal.EditRefusal.TheVariants.{NoMod, SameRule, NoRule, NoOverride, KeyTaken, OldProfile}
use Rattle.answer_lines.specs.declared.refusal.ProfileRefusal.TheVariants.{ProfileNotToml, ProfileDeep, ProfileFloat, ProfileVersion, ProfileShape, SameMod, SameOverride, BadPath, BadKind, TooManyMods, BadRelease, BadRange, SameType, NoType}
use Rattle.answer_lines.specs.declared.refusal.RuleRefusal.TheVariants.{Missing, Conflict}
use Rattle.answer_lines.specs.declared.refusal.ScanRefusal.TheVariants.{NoFolder, OddEntry, BadEntry, Reserved, TooManyEntries, FileAndFolder}
use Rattle.answer_lines.specs.declared.refusal.ManifestRefusal.TheVariants.{ManifestNotJson, ManifestVersion, ManifestShape, ManifestBadPath, ManifestOrder, ManifestNested, ManifestSource}
use Rattle.answer_lines.specs.declared.refusal.PlanRefusal.TheVariants.{ChangesFound, Turned, Blocked, BackupTaken, AsideFull, PlanTooLong}
use Rattle.answer_lines.specs.declared.refusal.RecoveryRefusal.TheVariants.{BadIntent}
use Rattle.answer_lines.specs.declared.refusal.Refusal.TheVariants as group
use Rattle.command_steps.specs.declared.stop.Stop.{Stop}
use Rattle.command_steps.specs.declared.stop.Stop.TheVariants.{Refused, RecoverFirst, TreeFault, Memory}

-- a stop that no refusal tells
abbrev pub IsFault : Stop → Type 0
IsFault (Refused refusal) = ⊥
IsFault RecoverFirst = ⊥
IsFault TreeFault = Unit {0}
IsFault Memory = Unit {0}

-- a stop that is told in a line
abbrev pub IsTold : Stop → Type 0
IsTold (Refused refusal) = Unit {0}
IsTold RecoverFirst = Unit {0}
IsTold TreeFault = ⊥
IsTold Memory = ⊥

abbrev pub tree_stop : TreeError → Stop
tree_stop tree.Failed = TreeFault
tree_stop tree.Memory = Memory

abbrev pub profile_stop : ProfileError → Stop
profile_stop read.NotToml = Refused (group.Profile ProfileNotToml)
profile_stop read.Deep = Refused (group.Profile ProfileDeep)
profile_stop read.Float = Refused (group.Profile ProfileFloat)
profile_stop read.Version = Refused (group.Profile ProfileVersion)
profile_stop (read.Shape key) = Refused (group.Profile (ProfileShape key))
profile_stop (read.BadPath text) = Refused (group.Profile (BadPath text))
profile_stop (read.BadKind text) = Refused (group.Profile (BadKind text))
profile_stop (read.BadRelease text) = Refused (group.Profile (BadRelease text))
profile_stop (read.BadRange text) = Refused (group.Profile (BadRange text))
profile_stop (read.SameMod id) = Refused (group.Profile (SameMod id))
profile_stop (read.SameOverride path) = Refused (group.Profile (SameOverride path))
profile_stop (read.SameType id) = Refused (group.Profile (SameType id))
profile_stop (read.NoType text) = Refused (group.Profile (NoType text))
profile_stop read.Memory = Memory

abbrev pub rule_stop : RuleError → Stop
rule_stop (rule.Missing id needs) = Refused (group.Rules (Missing id needs))
rule_stop (rule.Conflict id other) = Refused (group.Rules (Conflict id other))
rule_stop rule.Memory = Memory

-- of the mod with this id, where all mods may have so many entries together
abbrev pub scan_stop : List ℕ → ℕ → ScanError → Stop
scan_stop id most scan.NoFolder = Refused (group.Scan (NoFolder id))
scan_stop id most scan.TooMany = Refused (group.Scan (TooManyEntries most))
scan_stop id most (scan.BadEntry folder name) = Refused (group.Scan (BadEntry folder name))
scan_stop id most (scan.OddEntry folder name) = Refused (group.Scan (OddEntry folder name))
scan_stop id most (scan.Reserved place) = Refused (group.Scan (Reserved place))
scan_stop id most scan.Failed = TreeFault
scan_stop id most scan.Memory = Memory

abbrev pub win_stop : WinError → Stop
win_stop (win.FileAndFolder path) = Refused (group.Scan (FileAndFolder path))
win_stop win.Memory = Memory

abbrev pub manifest_stop : ManifestError → Stop
manifest_stop manifest.NotJson = Refused (group.Manifest ManifestNotJson)
manifest_stop manifest.Version = Refused (group.Manifest ManifestVersion)
manifest_stop (manifest.Shape spot) = Refused (group.Manifest (ManifestShape spot))
manifest_stop (manifest.BadPath spot) = Refused (group.Manifest (ManifestBadPath spot))
manifest_stop (manifest.Order spot) = Refused (group.Manifest (ManifestOrder spot))
manifest_stop (manifest.Nested spot) = Refused (group.Manifest (ManifestNested spot))
manifest_stop (manifest.Source spot) = Refused (group.Manifest (ManifestSource spot))
manifest_stop manifest.Memory = Memory

abbrev pub change_stop : ChangeError → Stop
change_stop (change.Blocked place) = Refused (group.Plan (Blocked place))
change_stop change.Failed = TreeFault
change_stop change.Memory = Memory

abbrev pub intent_stop : IntentError → Stop
intent_stop intent.BadIntent = Refused (group.Recovery BadIntent)
intent_stop intent.Failed = TreeFault
intent_stop intent.Memory = Memory

abbrev pub plan_stop : PlanError → Stop
plan_stop (plan.ChangesFound first count) = Refused (group.Plan (ChangesFound first count))
plan_stop (plan.Turned path) = Refused (group.Plan (Turned path))
plan_stop (plan.Blocked place) = Refused (group.Plan (Blocked place))
plan_stop (plan.BackupTaken path) = Refused (group.Plan (BackupTaken path))
plan_stop plan.Failed = TreeFault
plan_stop plan.Memory = Memory

abbrev pub purge_stop : PurgeError → Stop
purge_stop (purge.Blocked place) = Refused (group.Plan (Blocked place))
purge_stop purge.AsideFull = Refused (group.Plan AsideFull)
purge_stop purge.Failed = TreeFault
purge_stop purge.Memory = Memory

abbrev pub settle_stop : SettleError → Stop
settle_stop (settle.Blocked place) = Refused (group.Plan (Blocked place))
settle_stop settle.AsideFull = Refused (group.Plan AsideFull)
settle_stop settle.Failed = TreeFault
settle_stop settle.Memory = Memory

abbrev pub edit_stop : EditError → Stop
edit_stop (edit.TooMany count) = Refused (group.Profile (TooManyMods count))
edit_stop (edit.NoMod id) = Refused (group.Edit (NoMod id))
edit_stop edit.SameRule = Refused (group.Edit SameRule)
edit_stop edit.NoRule = Refused (group.Edit NoRule)
edit_stop (edit.NoOverride path) = Refused (group.Edit (NoOverride path))
edit_stop (edit.KeyTaken key) = Refused (group.Edit (KeyTaken key))
edit_stop edit.OldProfile = Refused (group.Edit OldProfile)
edit_stop edit.Memory = Memory

abbrev pub ready_stop : ReadyError → Stop
ready_stop (ready.TooLong length) = Refused (group.Plan (PlanTooLong length))
ready_stop ready.Memory = Memory
