-- What a tree's error is to a scan.
use Rattle.tree_fs.specs.declared.tree.TreeError.{TreeError}
use Rattle.tree_fs.specs.declared.tree.TreeError.TheVariants as tree_error
use Rattle.stage_scan.specs.declared.error.ScanError.{ScanError}
use Rattle.stage_scan.specs.declared.error.ScanError.TheVariants as scan

abbrev pub scan_error : TreeError → ScanError
scan_error tree_error.Failed = scan.Failed
scan_error tree_error.Memory = scan.Memory
