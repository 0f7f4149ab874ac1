use Rattle.std.proofs.Common.{sym, arith}
use Rattle.layer_base.proofs.Ranges.{next_first-begun, next_first-none}
use Rattle.layer_base.proofs.segments.rising.before_next.Goals as goal

pub returns-then-begun-segments : goal.returns-then-begun-segments
returns-then-begun-segments c =
    let begun = c.count_begun-begun.ensures in
    sym (next_first-none c.args.segments.now c.args.at c.count_begun-begun.result c.requires begun.begun begun.later (omega arith))

pub returns : goal.returns
returns c =
    let begun = c.count_begun-begun.ensures in
    let i = c.count_begun-begun.result in
    let above = begun.later i (record { first = 0; place = 0; length = 0 }) (omega arith) (omega arith) in
    let next = next_first-begun c.args.segments.now c.args.at i c.requires begun.begun begun.later (record { first = 0; place = 0; length = 0 }) (omega arith) (omega arith) in
    omega (arith, above, next)
