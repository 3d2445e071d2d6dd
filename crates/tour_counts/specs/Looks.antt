-- What is counted of scans and of conflicts.
use Rattle.std.specs.Prelude.{ℕ, Bool, true, false, List, length, map, filter, sum}
use Rattle.stage_scan.specs.declared.scan.Scan.{Scan}
use Rattle.conflict_report.specs.declared.report.PathReport.{PathReport}
use Rattle.conflict_report.specs.declared.report.Why.{Why}
use Rattle.conflict_report.specs.declared.report.Why.TheVariants.{Override, Rule, Position}

-- how many files these scans have
abbrev pub file_count : List Scan → ℕ
file_count scans = sum (map (λ s. length s.files) scans)

abbrev pub is_why : Why → Why → Bool
is_why Override Override = true
is_why Override Rule = false
is_why Override Position = false
is_why Rule Override = false
is_why Rule Rule = true
is_why Rule Position = false
is_why Position Override = false
is_why Position Rule = false
is_why Position Position = true

-- how many of these paths are decided so
abbrev pub decided_count : Why → List PathReport → ℕ
decided_count why paths = length (filter (λ r. is_why why r.why) paths)
