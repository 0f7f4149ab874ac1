use Rattle.std.proofs.Common.{arith}
use Rattle.std.proofs.lemmas.List.{drop_all}
use Rattle.layer_base.proofs.Ranges.{next_first-most}
use Rattle.layer_base.proofs.segments.linear.before_next.Goals as goal

pub loop-segment-init : goal.loop-segment-init
loop-segment-init c = record { fits = omega arith; next = omega (arith, next_first-most c.args.segments.now c.args.at) }

pub returns : goal.returns
returns c =
    let none = drop_all c.loop-segment.segment-index c.args.segments.now c.loop-segment-test.false in
    let last = rw none at c.loop-segment.invariant.next in
    omega (arith, last)
