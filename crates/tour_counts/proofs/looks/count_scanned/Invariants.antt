use Rattle.std.proofs.Common.{◌≡◌, take}
use Rattle.tour_counts.specs.Looks.{file_count}
use Rattle.tour_counts.proofs.looks.count_scanned.Given as goal

abbrev pub invariant-loop-scan : goal.invariant-loop-scan
invariant-loop-scan l = l.count ≡ file_count (take l.scan-index l.scans)
