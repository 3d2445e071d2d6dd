use Rattle.std.proofs.Common.{arith}
use Rattle.tree_fs.proofs.Parses.{bad_name-below}
use Rattle.tree_fs.proofs.place.place_below.Goals as goal

pub overflow_add-result : goal.overflow_add-result
overflow_add-result c = let lt = bad_name-below c.args.path.now c.in-Err-BadName.at ((rw c.in-Err-BadName.field-0-is at c.in-Err-BadName.ensures.err) (λ memory. cc)) in omega arith
