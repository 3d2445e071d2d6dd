-- The folders that are missing above the winners of a walk.
use Rattle.std.specs.Prelude.{◌≡◌, ℕ, false, List}
use Rattle.std.specs.List.{Contains}
use Rattle.tree_fs.specs.Spot.{Spot, parent}
use Rattle.tree_fs.specs.Places.{game_spot}
use Rattle.tree_fs.specs.Disk.{Disk}
use Rattle.desk_model.specs.Deployed.{Win}
use Rattle.deploy_plan.specs.declared.parents.Parents.{Parents}
use Rattle.deploy_plan.specs.Walk.{Step, row_alone, both, win_alone}
use Rattle.deploy_plan.specs.Parents.{IsAtOrAbove, IsNoted, IsNotedUpTo, LooksUpTo}

-- a missing folder above a winner without an old row
pub record IsMissing (a : Disk) (steps : List Step) (s : Spot) : Type 0 where
  pub absent : a.folders s ≡ false
  pub win : Win
  pub among : Contains steps (win_alone win)
  pub above : IsAtOrAbove s (parent (game_spot win.path))

-- just these are noted
pub record AreNoted (a : Disk) (steps : List Step) (missing : List (List ℕ)) : Type 0 where
  pub noted : (win : Win) → Contains steps (win_alone win)
      → IsNotedUpTo a missing (parent (game_spot win.path))
  pub only : (s : Spot) → IsNoted missing s → IsMissing a steps s

-- what a step looks at above its path: nothing where its path has an old row
abbrev pub LooksFor : Disk → Step → Parents → Parents → Type 0
LooksFor a (row_alone r) old new = new ≡ old
LooksFor a (both r w) old new = new ≡ old
LooksFor a (win_alone w) old new = LooksUpTo a (parent (game_spot w.path)) old new
