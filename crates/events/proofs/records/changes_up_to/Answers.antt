use Rattle.std.proofs.Common.{leb, leb-true, leb-false, rules}
use Rattle.std.proofs.lemmas.List.Sorted.{IsPartitionPoint-from_clause, IsPartitionedBy-leb}
use Rattle.events.proofs.records.changes_up_to.Goals as goal

pub returns-clause-parts_them : goal.returns-clause-parts_them
returns-clause-parts_them g c rising =
    let parted = IsPartitionedBy-leb (λ change. change.tick) _ c.args.tick rising in
    let point = IsPartitionPoint-from_clause (λ change. leb change.tick c.args.tick) _ _ c.partition_point.ensures.partitioned parted (λ a r q k. search rules) in
    (λ k d from to. leb-true _ _ (point.0 k d from to), λ k d from to. leb-false _ _ (point.1 k d from to))
