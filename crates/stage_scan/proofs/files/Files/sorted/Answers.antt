use Rattle.std.proofs.Common.{nat_eq}
use Rattle.std.specs.Cmp.Lexicographic.{pointwise}
use Rattle.std.proofs.lemmas.List.Filters.{dedup_is}
use Rattle.stage_scan.proofs.FileLists.{left_ordered, left_same, left_free}
use Rattle.stage_scan.proofs.files.Files.sorted.Goals as goal

pub invariant_of-result : goal.invariant_of-result
invariant_of-result c =
    let is = dedup_is (pointwise nat_eq) c.sort.new.self.items c.dedup.new.self.items c.dedup.ensures.filtered in
    record {
      order = left_ordered c.args.paths.items c.sort.new.self.items c.dedup.new.self.items c.in_ok-sort.ensures.permutation is c.in_ok-sort.ensures.sorted;
      free = left_free c.args.paths.items c.sort.new.self.items c.dedup.new.self.items c.in_ok-sort.ensures.permutation is c.requires;
    }

pub returns-clause-order : goal.returns-clause-order
returns-clause-order c = (invariant_of-result c).order

pub returns-clause-same : goal.returns-clause-same
returns-clause-same c =
    left_same c.args.paths.items c.sort.new.self.items c.dedup.new.self.items c.in_ok-sort.ensures.permutation
    (dedup_is (pointwise nat_eq) c.sort.new.self.items c.dedup.new.self.items c.dedup.ensures.filtered)
