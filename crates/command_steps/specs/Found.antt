-- What the functions that look give: facts of the values alone, and facts of the disk.
use Rattle.std.specs.Prelude.{◌≡◌, length, map, nat_eq}
use Rattle.std.specs.List.{AllByRecursion, IsDistinct}
use Rattle.std.specs.Cmp.Lexicographic.{pointwise}
use Rattle.rel_paths.specs.Names.{IsFreePath}
use Rattle.tree_fs.specs.Disk.{Disk}
use Rattle.winner_table.specs.Winners.{AreWinners, HasEachOnce, paths_of}
use Rattle.winner_table.specs.Folders.{AreApart}
use Rattle.deploy_plan.specs.Sources.{AreSources}
use Rattle.answer_lines.specs.Lists.{HasId}
use Rattle.command_steps.specs.declared.look.OrderLook.{OrderLook}
use Rattle.command_steps.specs.declared.look.Looked.{Looked}
use Rattle.command_steps.specs.Profiles.{HasProfile, enabled_ids, IsGraphOf, IsOrderOf}
use Rattle.command_steps.specs.Looks.{Look, IsLook, AreWins, AreSourcesOf, placed}

-- the ids, the graph and the order are those of the profile
pub record IsWholeOrder (found : OrderLook) : Type 0 where
  pub ids : found.ids.items ≡ enabled_ids found.profile
  pub differ : IsDistinct (pointwise nat_eq) found.ids.items
  pub graph : IsGraphOf found.profile found.graph
  pub order : IsOrderOf found.graph found.order.items
  pub has_ids : AllByRecursion (HasId found.ids.items) found.order.items

-- the same, and the profile is that of the disk
pub record IsOrderLook (d : Disk) (found : OrderLook) : Type 0 where
  pub profile : HasProfile d found.profile
  pub whole : IsWholeOrder found

-- the ids, the graph and the order are those of the profile, there is a scan for each node, and the
-- winners are those of the scans
pub record IsWhole (found : Looked) : Type 0 where
  pub ids : found.ids.items ≡ enabled_ids found.profile
  pub differ : IsDistinct (pointwise nat_eq) found.ids.items
  pub graph : IsGraphOf found.profile found.graph
  pub order : IsOrderOf found.graph found.order.items
  pub has_ids : AllByRecursion (HasId found.ids.items) found.order.items
  pub count : found.graph.count ≡ length found.scans.items
  pub same_ids : map (λ s. s.mod_id) found.scans.items ≡ found.ids.items
  pub nodes : HasEachOnce (length found.scans.items) found.order.items
  pub belong : AreSources found.scans.items found.sources.items
  pub winners : AreWinners found.scans.items found.order.items found.profile.overrides found.wins.items
  pub free : AllByRecursion IsFreePath (paths_of found.wins.items)
  pub apart : AreApart (paths_of found.wins.items)

-- what is found is that of the disk
pub record IsLooked (d : Disk) (found : Looked) : Type 0 where
  pub look : Look
  pub is : IsLook d look
  pub profile : found.profile ≡ look.profile
  pub graph : found.graph ≡ look.graph
  pub order : found.order.items ≡ look.order
  pub scans : found.scans.items ≡ placed look
  pub sources : AreSourcesOf look.scans found.sources.items
  pub wins : AreWins look found.wins.items
