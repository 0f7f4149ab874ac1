use Rattle.std.proofs.Common.{◌≡◌, map, take}
use Rattle.tree_order.proofs.Climbing.{once_up}
use Rattle.tree_order.proofs.climb.once.Given as goal

abbrev pub invariant-loop-parent : goal.invariant-loop-parent
invariant-loop-parent l = l.climbs.items ≡ map once_up (take l.parent-index l.up)
