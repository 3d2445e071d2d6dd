-- What is found of the enabled mods of a disk.
use Rattle.std.specs.Prelude.{◌≡◌, ℕ, List, map}
use Rattle.tree_fs.specs.Disk.{Disk}
use Rattle.profile_toml.specs.Records.{ProfileData}
use Rattle.mod_rules.specs.Edges.{GraphData}
use Rattle.stage_scan.specs.declared.scan.Scan.{Scan}
use Rattle.stage_scan.specs.declared.placed.Sources.{Sources}
use Rattle.winner_table.specs.declared.wins.WinRow.{WinRow}
use Rattle.winner_table.specs.Winners.{AreWinners, paths_of}
use Rattle.winner_table.specs.Folders.{AreApart}
use Rattle.desk_model.specs.Deployed.{Win}
use Rattle.deploy_plan.specs.Sources.{wins_of}
use Rattle.command_steps.specs.Profiles.{HasProfile, enabled_ids, bases_of, IsGraphOf, IsOrderOf}
use Rattle.command_steps.specs.Scans.{AreScans, placed_scans}

-- the profile, the graph of its rules, the load order, and the scan of each node
pub record Look : Type 0 where
  pub profile : ProfileData
  pub graph : GraphData
  pub order : List ℕ
  pub scans : List Scan

-- this is found on the disk
pub record IsLook (d : Disk) (look : Look) : Type 0 where
  pub profile : HasProfile d look.profile
  pub graph : IsGraphOf look.profile look.graph
  pub order : IsOrderOf look.graph look.order
  pub scans : AreScans d (enabled_ids look.profile) look.scans

-- the scans with the files where they are deployed
abbrev pub placed : Look → List Scan
placed look = placed_scans (bases_of look.profile) look.scans

-- the winner of each provided path, and none of these paths is a file and a folder
pub record AreWins (look : Look) (wins : List WinRow) : Type 0 where
  pub winners : AreWinners (placed look) look.order look.profile.overrides wins
  pub apart : AreApart (paths_of wins)

-- where each file of a node lies below its mod
abbrev pub AreSourcesOf : List Scan → List Sources → Type 0
AreSourcesOf scans sources = map (λ s. s.paths.items) sources ≡ map (λ s. s.files) scans

-- the winners of a disk, each with its source
pub record HasWins (d : Disk) (wins : List Win) : Type 0 where
  pub look : Look
  pub is_look : IsLook d look
  pub rows : List WinRow
  pub are_wins : AreWins look rows
  pub sources : List Sources
  pub are_sources : AreSourcesOf look.scans sources
  pub with_sources : wins ≡ wins_of (placed look) sources rows
