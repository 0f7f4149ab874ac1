use Rattle.std.proofs.Common.{None, Some, refl}
use Rattle.intel_paging.proofs.Blocks.{IsAligned-block_around}
use Rattle.intel_paging.proofs.Walking.{by_block, by_table}
use Rattle.intel_paging.proofs.tables.+descend.Goals as goal

pub returns-in-Hole-clause-block : goal.returns-in-Hole-clause-block
returns-in-Hole-clause-block g t c =
    by_block (g.Y.Layer.view c.args.phys.now) c.args.level c.args.table c.args.at c.requires.least c.in_ok-entry_at.field-0 c.in_ok-entry_at.ensures.entry None c.block_around.result (λ below. rw c.in-Hole.is refl) c.block_around.ensures

pub returns-in-Hole-clause-aligned : goal.returns-in-Hole-clause-aligned
returns-in-Hole-clause-aligned g t c = rw c.block_around.ensures (IsAligned-block_around c.args.level c.args.at None c.requires.least c.requires.most tt)

pub returns-in-Frame-clause-block : goal.returns-in-Frame-clause-block
returns-in-Frame-clause-block g t c =
    by_block (g.Y.Layer.view c.args.phys.now) c.args.level c.args.table c.args.at c.requires.least c.in_ok-entry_at.field-0 c.in_ok-entry_at.ensures.entry (Some c.in-Frame.to) c.block_around-in-Frame.result (λ below. rw c.in-Frame.is refl) c.block_around-in-Frame.ensures

pub returns-in-Frame-clause-aligned : goal.returns-in-Frame-clause-aligned
returns-in-Frame-clause-aligned g t c = let fits = rw c.in-Frame.is at c.in_ok-entry_at.ensures.fits in rw c.block_around-in-Frame.ensures (IsAligned-block_around c.args.level c.args.at (Some c.in-Frame.to) c.requires.least c.requires.most fits)

pub returns-in-Table-clause-block : goal.returns-in-Table-clause-block
returns-in-Table-clause-block g t c =
    by_table (g.Y.Layer.view c.args.phys.now) c.args.level c.args.table c.args.at c.requires.least c.in_ok-entry_at.field-0 c.in_ok-entry_at.ensures.entry (g.Y.Layer.view c.entry_at.new.phys) c.in-Table.next c.descend.result c.in-Table.is c.in_ok-entry_at.ensures.layer.same_view c.descend.ensures.block
