use Rattle.image_maker.proofs.Counted.{page-next}
use Rattle.image_maker.proofs.Writing.{written-nothing}
use Rattle.image_maker.proofs.page_tables.write_large_pages.Goals as goal

pub loop-index-init : goal.loop-index-init
loop-index-init c = written-nothing c.args.bytes.now

pub loop-index-preserved : goal.loop-index-preserved
loop-index-preserved c = page-next c.args.number c.args.bytes.now c.loop-index.index c.loop-index.bytes _ c.loop-index.invariant c.write_large_page.ensures
