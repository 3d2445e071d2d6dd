-- Each entry that is pushed was below the limit.
use Rattle.std.proofs.Common.{◌≤◌, vec_len}
use Rattle.tree_host.proofs.listing.list_folder.Given as goal

abbrev pub invariant-loop-found : goal.invariant-loop-found
invariant-loop-found g l = vec_len l.entries ≤ 16777216
