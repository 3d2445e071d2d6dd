use Rattle.std.proofs.Common.{rules}
use Rattle.std.specs.Ordering.{nat_cmp, is_lt}
use Rattle.std.specs.Cmp.Lexicographic.{slice_cmp}
use Rattle.std.proofs.lemmas.List.Sorted.{answers_always}
use Rattle.stage_scan.proofs.FileLists.{order_from_answer}
use Rattle.stage_scan.proofs.files.are_in_path_order.Goals as goal

pub returns : goal.returns
returns c =
    order_from_answer c.args.paths.now c.is_sorted_by.result
    (c.is_sorted_by.ensures.cases (λ x y. is_lt (slice_cmp nat_cmp x y)) (answers_always _ _ _ (λ f a r f' k. search rules)))
