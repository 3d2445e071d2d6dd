-- `order`: the load order of the enabled mods is told.
use Rattle.std.specs.Prelude.{◌≡◌, ℕ, List, ◌++◌}
use Rattle.tree_fs.specs.Disk.{Disk}
use Rattle.profile_toml.specs.Records.{ProfileData}
use Rattle.mod_rules.specs.Edges.{GraphData}
use Rattle.answer_lines.specs.Lists.{order_lines}
use Rattle.command_steps.specs.Profiles.{HasProfile, enabled_ids, IsGraphOf, IsOrderOf}
use Rattle.command_steps.specs.Orders.{start, up_to_order}
use Rattle.deploy_engine.specs.Works.{Work, looking, NoChanges}

-- the lines of the load order of the profile's enabled mods
pub record PrintsOrder (d : Disk) (text : List ℕ) : Type 0 where
  pub profile : ProfileData
  pub has_profile : HasProfile d profile
  pub graph : GraphData
  pub is_graph : IsGraphOf profile graph
  pub order : List ℕ
  pub is_order : IsOrderOf graph order
  pub lines : text ≡ order_lines (enabled_ids profile) order

abbrev pub order_work : Work
order_work = looking (start ++ up_to_order) PrintsOrder NoChanges
