use Rattle.std.proofs.lemmas.Bool.{leb-true}
use Rattle.needle_search.proofs.Reached.{passed}
use Rattle.needle_search.proofs.progress.Reach.behind.Goals as goal

pub returns-then-self : goal.returns-then-self
returns-then-self c = λ window needle first next reached order. passed window needle c.args.count first next _ c.args.self _ reached order c.saturating_sub.ensures (λ kept. (c.if-self.true, leb-true c.args.count c.args.self.place kept))

pub returns-else-self : goal.returns-else-self
returns-else-self c = λ window needle first next reached order. passed window needle c.args.count first next _ c.args.self _ reached order c.saturating_sub.ensures (λ kept. absurd (cc (kept, c.if-self.false)))
