use Rattle.std.proofs.Common.{◌-◌, length}
use Rattle.tree_order.specs.Climbs.{entry}
use Rattle.tree_order.proofs.Ordered.{IsState}
use Rattle.tree_order.proofs.order.ordered.Given as goal

abbrev pub invariant-loop-branch : goal.invariant-loop-branch
invariant-loop-branch l = IsState (entry l.over) (length l.over) l.order l.pending.items

-- the rows that are not done yet
abbrev pub decreases-loop-branch : goal.decreases-loop-branch
decreases-loop-branch l = length l.over - length l.order
