use Rattle.path_walk.proofs.Pairs.{none-met}
use Rattle.path_walk.proofs.follow.followed.Goals as goal

pub follow-requires : goal.follow-requires
follow-requires g c = none-met c.new.result c.new.ensures.empty
