use Rattle.std.proofs.Common.{arith}
use Rattle.word_table.proofs.Decoding.{decoded-more}
use Rattle.word_table.proofs.WordLists.{words_from-none}
use Rattle.word_table.proofs.read.decode.Goals as goal

pub loop-index-init : goal.loop-index-init
loop-index-init c = λ memory at read. words_from-none memory at

pub loop-index-preserved : goal.loop-index-preserved
loop-index-preserved c = λ memory at read.
    decoded-more memory at c.loop-index.index _ c.read_u64.result c.args.bytes.now c.loop-index.buf (omega (arith, c.loop-index.auto.buf)) (omega (arith, c.loop-index.auto.buf)) (c.loop-index.invariant memory at read) (omega arith) c.read_u64.ensures read
