use Rattle.std.proofs.Common.{◌-◌}
use Rattle.run_cache.proofs.list.+find_from.Given as goal

abbrev pub decreases-find_from : goal.decreases-find_from
decreases-find_from l = 6 - l.level
