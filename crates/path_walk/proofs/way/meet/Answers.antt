use Rattle.path_walk.proofs.Pairs.{pair-met}
use Rattle.path_walk.proofs.way.meet.Goals as goal

pub returns : goal.returns
returns c = pair-met c.args.met.now c.insert.new.self c.args.mount c.args.dentry _ c.in_ok-insert.ensures.added c.in_ok-insert.ensures.updates
