use Rattle.std.proofs.Common.{leb, leb-true, leb-false, arith, rules}
use Rattle.std.proofs.lemmas.List.Sorted.{IsPartitionPoint-from_clause, IsPartitionedBy-leb}
use Rattle.symbol_index.specs.Order.{indexed_address}
use Rattle.symbol_index.proofs.search.count_up_to.Goals as goal

pub returns-clause-within : goal.returns-clause-within
returns-clause-within c =
    let parted = IsPartitionedBy-leb indexed_address c.args.symbols.now c.args.address c.requires in
    let point = IsPartitionPoint-from_clause (λ indexed. leb (indexed_address indexed) c.args.address) _ _ c.partition_point.ensures.partitioned parted (λ a r q k. search rules) in
    λ k d h. leb-true _ _ (point.0 k d (omega arith) h)

pub returns-clause-above : goal.returns-clause-above
returns-clause-above c =
    let parted = IsPartitionedBy-leb indexed_address c.args.symbols.now c.args.address c.requires in
    let point = IsPartitionPoint-from_clause (λ indexed. leb (indexed_address indexed) c.args.address) _ _ c.partition_point.ensures.partitioned parted (λ a r q k. search rules) in
    λ k d h within. leb-false _ _ (point.1 k d h within)
