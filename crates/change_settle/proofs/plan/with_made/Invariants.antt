use Rattle.std.proofs.Common.{◌≡◌, ◌++◌, take}
use Rattle.change_settle.specs.Above.{game_paths}
use Rattle.change_settle.proofs.plan.with_made.Given as goal

abbrev pub invariant-loop-folder : goal.invariant-loop-folder
invariant-loop-folder l = l.kept.items ≡ l.fn.kept.items ++ game_paths (take l.folder-index l.made)
