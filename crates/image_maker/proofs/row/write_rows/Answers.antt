use Rattle.std.proofs.Common.{length, arith}
use Rattle.image_maker.specs.declared.row.Content.TheVariants.{Word}
use Rattle.image_maker.proofs.Writing.{written-nothing}
use Rattle.image_maker.proofs.WrittenRows.{within-at, rows-next}
use Rattle.image_maker.proofs.row.write_rows.Goals as goal

pub loop-row-init : goal.loop-row-init
loop-row-init c = written-nothing c.args.bytes.now

pub overflow_add-from : goal.overflow_add-from
overflow_add-from c = omega (arith, within-at (length c.args.bytes.now) c.args.from c.args.rows.now c.loop-row.row-index (0, Word 0) c.requires c.loop-row-test.true)

pub write_content-requires : goal.write_content-requires
write_content-requires c = omega (arith, within-at (length c.args.bytes.now) c.args.from c.args.rows.now c.loop-row.row-index (0, Word 0) c.requires c.loop-row-test.true)

pub loop-row-preserved : goal.loop-row-preserved
loop-row-preserved c =
    rows-next c.args.from c.args.rows.now c.loop-row.row-index (0, Word 0) c.loop-row-test.true c.args.bytes.now c.loop-row.bytes _ c.loop-row.invariant c.write_content.ensures
