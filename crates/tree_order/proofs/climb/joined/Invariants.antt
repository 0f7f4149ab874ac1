use Rattle.std.proofs.Common.{◌≡◌, map, take}
use Rattle.tree_order.specs.Climbs.{climb_at, goes_on}
use Rattle.tree_order.proofs.climb.joined.Given as goal

abbrev pub invariant-loop-climb : goal.invariant-loop-climb
invariant-loop-climb l = l.joined.items ≡ map (goes_on (climb_at l.next)) (take l.climb-index l.climbs)
