use Rattle.std.proofs.Common.{take}
use Rattle.std.specs.List.{AllByRecursion}
use Rattle.winner_table.specs.Winners.{paths_of}
use Rattle.winner_table.specs.Folders.{IsFolderOf}
use Rattle.winner_table.proofs.folders.first_folder.Given as goal

abbrev pub invariant-loop-index : goal.invariant-loop-index
invariant-loop-index l = AllByRecursion (λ other. IsFolderOf (paths_of l.rows) other.path → ⊥) (take l.index l.rows)
