use Rattle.std.proofs.Common.{arith}
use Rattle.needle_search.proofs.Reached.{all-passed}
use Rattle.needle_search.proofs.progress.Progress.pass.Goals as goal

pub returns : goal.returns
returns c = λ needles window old new reached order. all-passed needles window c.args.count old new c.args.self.now (record { reaches = c.pass_each.new.reaches }) reached order (omega (arith, c.pass_each.auto.reaches, reached.room)) (λ k below. c.pass_each.ensures k (omega (arith, c.pass_each.auto.reaches, reached.room)))
