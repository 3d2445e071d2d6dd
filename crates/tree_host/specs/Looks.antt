-- What an error of the system says.
use Rattle.std.specs.Prelude.{Bool, true, false}
use Rattle.std.specs.declared.io.ErrorKind.{ErrorKind}
use Rattle.std.specs.declared.io.ErrorKind.TheVariants.{NotFound, NotADirectory, OutOfMemory}
use Rattle.tree_fs.specs.declared.tree.TreeError.{TreeError}
use Rattle.tree_fs.specs.declared.tree.TreeError.TheVariants.{Failed, Memory}

-- whether the system says by this that nothing is there
abbrev pub is_absence : ErrorKind → Bool
is_absence NotFound = true
is_absence NotADirectory = true
is_absence _ = false

-- the tree's error for one of the system
abbrev pub error_of : ErrorKind → TreeError
error_of OutOfMemory = Memory
error_of _ = Failed
