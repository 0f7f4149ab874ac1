use Rattle.std.proofs.Common.{ap, ◌∙◌, arith, take_all}
use Rattle.tree_order.specs.Climbs.{climb_at}
use Rattle.tree_order.proofs.Climbing.{climbs-once, once_up}
use Rattle.std.proofs.Common.{map}
use Rattle.tree_order.proofs.climb.once.Goals as goal

pub returns : goal.returns
returns c = λ row. ap (λ climbs. climb_at climbs row) (c.loop-parent.invariant ∙ ap (map once_up) (take_all c.loop-parent.parent-index c.args.up.now (omega (arith, c.loop-parent-test.false)))) ∙ climbs-once c.args.up.now row
