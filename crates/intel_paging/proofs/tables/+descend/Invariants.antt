use Rattle.intel_paging.proofs.tables.+descend.Given as goal

abbrev pub decreases-descend : goal.decreases-descend
decreases-descend g l = l.level
