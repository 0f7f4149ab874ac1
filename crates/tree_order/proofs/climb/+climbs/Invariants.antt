use Rattle.tree_order.proofs.climb.+climbs.Given as goal

abbrev pub decreases-climbs : goal.decreases-climbs
decreases-climbs l = l.rows
