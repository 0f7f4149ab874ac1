use Rattle.std.proofs.Common.{rules}
use Rattle.intel_paging.proofs.Blocks.{block_around-fits}
use Rattle.intel_paging.proofs.block.block_around.Goals as goal

pub overflow_add-result : goal.overflow_add-result
overflow_add-result c = let fits = block_around-fits c.args.level c.args.at c.requires.least c.requires.most c.ranges.at.fits in rw c.block_size-size.ensures (search (rules, fits))
