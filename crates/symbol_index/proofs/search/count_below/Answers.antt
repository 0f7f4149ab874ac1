use Rattle.std.proofs.Common.{ltb, ltb-true, ltb-false, arith, rules}
use Rattle.std.proofs.lemmas.List.Sorted.{IsPartitionPoint-from_clause, IsPartitionedBy-ltb}
use Rattle.symbol_index.specs.Order.{indexed_address}
use Rattle.symbol_index.proofs.search.count_below.Goals as goal

pub returns-clause-below : goal.returns-clause-below
returns-clause-below c =
    let parted = IsPartitionedBy-ltb indexed_address c.args.symbols.now c.args.address c.requires in
    let point = IsPartitionPoint-from_clause (λ indexed. ltb (indexed_address indexed) c.args.address) _ _ c.partition_point.ensures.partitioned parted (λ a r q k. search rules) in
    λ k d h. ltb-true _ _ (point.0 k d (omega arith) h)

pub returns-clause-others : goal.returns-clause-others
returns-clause-others c =
    let parted = IsPartitionedBy-ltb indexed_address c.args.symbols.now c.args.address c.requires in
    let point = IsPartitionPoint-from_clause (λ indexed. ltb (indexed_address indexed) c.args.address) _ _ c.partition_point.ensures.partitioned parted (λ a r q k. search rules) in
    λ k d h within. ltb-false _ _ (point.1 k d h within)
