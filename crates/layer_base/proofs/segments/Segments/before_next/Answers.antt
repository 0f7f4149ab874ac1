use Rattle.std.proofs.Common.{arith}
use Rattle.layer_base.proofs.Ranges.{next_first-above}
use Rattle.layer_base.proofs.segments.Segments.before_next.Goals as goal

pub returns-then-self-clause-within : goal.returns-then-self-clause-within
returns-then-self-clause-within c = omega (arith, next_first-above c.deref.result.now c.args.at (omega arith))

pub returns-else-self-clause-within : goal.returns-else-self-clause-within
returns-else-self-clause-within c = omega (arith, next_first-above c.deref-else-self.result.now c.args.at (omega arith))
