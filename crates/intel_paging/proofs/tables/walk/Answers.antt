use Rattle.std.proofs.Common.{refl, sym}
use Rattle.intel_paging.specs.Block.{block_of}
use Rattle.intel_paging.proofs.Walking.{by_phys, by_bits, by_tables}
use Rattle.intel_paging.proofs.tables.walk.Goals as goal

pub returns-in_default-clause-block : goal.returns-in_default-clause-block
returns-in_default-clause-block g c = by_phys (g.Y.Layer.view c.args.phys.now) c.args.space c.in_default.is

pub returns-then-not-is_canonical-clause-block : goal.returns-then-not-is_canonical-clause-block
returns-then-not-is_canonical-clause-block g c = by_bits (g.Y.Layer.view c.args.phys.now) c.args.space c.in-Paged.root c.in-Paged.levels c.non_canonical.result c.in-Paged.is c.non_canonical.ensures

pub returns-clause-block : goal.returns-clause-block
returns-clause-block g c =
    by_tables (g.Y.Layer.view c.args.phys.now) c.args.space c.in-Paged.root c.in-Paged.levels c.count_of.result c.page_address.result c.args.at c.descend.result c.in-Paged.is (sym c.if-not-is_canonical.ensures) c.count_of.ensures c.page_address.ensures c.descend.ensures.block

-- where no table is read, the block is the same in every memory
pub returns-in_default-clause-without_tables : goal.returns-in_default-clause-without_tables
unfolding block_of
returns-in_default-clause-without_tables g c = λ _ memory. rw c.in_default.is refl

pub returns-then-not-is_canonical-clause-without_tables : goal.returns-then-not-is_canonical-clause-without_tables
unfolding block_of
returns-then-not-is_canonical-clause-without_tables g c = λ none memory. rw c.in-Paged.is (rw (rw c.in-Paged.is at none, c.non_canonical.ensures) refl)
