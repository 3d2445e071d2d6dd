-- What a tree in memory tells, and what it is planned to fail at.
use Rattle.std.specs.Prelude.{◌≡◌, ℕ, List, []}
use Rattle.tree_fs.specs.Disk.{Disk}
use Rattle.tree_fs.specs.Story.{Story}
use Rattle.tree_mem.specs.declared.fail.FailAt.{FailAt}
use Rattle.tree_mem.specs.declared.mem_tree.MemTree.{MemTree}
use Rattle.tree_mem.specs.Starts.{start_in}

-- the story of a tree in memory
abbrev pub mem_story : MemTree → Story
mem_story m = record { start = start_in m.start m.disk; ops = m.ops.items }

-- a story begins at this disk
abbrev pub Begins : Disk → MemTree → Type 0
Begins d m = mem_story m ≡ record { start = d; ops = [] }

-- how often the tree has failed
abbrev pub faults_of : MemTree → ℕ
faults_of m = m.faults

-- the failures that are planned
abbrev pub failures_of : MemTree → List FailAt
failures_of m = m.fails.items

-- how many calls came since they were planned
abbrev pub calls_of : MemTree → ℕ
calls_of m = m.calls

-- what is planned, and the count of calls, stay
pub record KeepsPlan (old new : MemTree) : Type 0 where
  pub failures : failures_of new ≡ failures_of old
  pub calls : calls_of new ≡ calls_of old
