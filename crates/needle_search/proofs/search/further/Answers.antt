use Rattle.std.proofs.Common.{length, ap, arith}
use Rattle.needle_search.proofs.Reached.{further-found, further-none, found-before}
use Rattle.needle_search.proofs.search.further.Goals as goal

pub returns-then-reach-start-clause-first : goal.returns-then-reach-start-clause-first
returns-then-reach-start-clause-first c = rw c.if-reach.true (found-before c.args.window.now c.args.needle.now c.args.from c.args.reach c.requires c.if-reach.true (omega arith))

pub returns-in-Some-clause-reached : goal.returns-in-Some-clause-reached
returns-in-Some-clause-reached c = (further-found c.args.window.now c.args.needle.now c.args.from c.max-start.result (omega arith) (λ place above below. c.requires.none place above (omega arith)) c.in-Some.place c.in-Some.ensures).0

pub returns-in-Some-clause-first : goal.returns-in-Some-clause-first
returns-in-Some-clause-first c = (further-found c.args.window.now c.args.needle.now c.args.from c.max-start.result (omega arith) (λ place above below. c.requires.none place above (omega arith)) c.in-Some.place c.in-Some.ensures).1

pub returns-in-None-clause-reached : goal.returns-in-None-clause-reached
returns-in-None-clause-reached c = (further-none c.args.window.now c.args.needle.now c.args.from c.max-start.result (omega arith) (λ place above below. c.requires.none place above (omega arith)) c.max.result c.in-None.ensures (λ place above below. omega (arith, ap length c.needle.ensures))).0

pub returns-in-None-clause-first : goal.returns-in-None-clause-first
returns-in-None-clause-first c = (further-none c.args.window.now c.args.needle.now c.args.from c.max-start.result (omega arith) (λ place above below. c.requires.none place above (omega arith)) c.max.result c.in-None.ensures (λ place above below. omega (arith, ap length c.needle.ensures))).1
