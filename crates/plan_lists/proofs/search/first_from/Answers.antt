use Rattle.std.proofs.Common.{rules}
use Rattle.std.proofs.lemmas.List.Sorted.{IsPartitionPoint-from_clause}
use Rattle.plan_lists.proofs.Searched.{is_low, parted, point_is}
use Rattle.plan_lists.proofs.search.first_from.Goals as goal

pub returns : goal.returns
returns g c =
    let key = g.T.Pathed.path in
    let text = c.args.text.now in
    let items = c.args.items.now in
    point_is key text items c.partition_point.result c.partition_point.ensures.bound
    (IsPartitionPoint-from_clause (is_low key text items) items c.partition_point.result c.partition_point.ensures.partitioned
    (parted key text items c.requires) (λ a r f' k. search rules))
