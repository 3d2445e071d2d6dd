use Rattle.std.proofs.Common.{rules}
use Rattle.std.proofs.lemmas.List.Sorted.{IsPartitionPoint-from_clause}
use Rattle.winner_table.proofs.Reading.{is_row_below, rows_parted, point_is}
use Rattle.winner_table.proofs.folders.first_from.Goals as goal

pub returns : goal.returns
returns c =
    point_is c.args.text.now c.args.rows.now c.partition_point.result c.partition_point.ensures.bound
    (IsPartitionPoint-from_clause (is_row_below c.args.text.now) c.args.rows.now c.partition_point.result c.partition_point.ensures.partitioned
    (rows_parted c.args.text.now c.args.rows.now c.requires) (λ a r f' k. search rules))
