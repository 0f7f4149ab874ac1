use Rattle.std.proofs.Common.{refl, arith}
use Rattle.chunk_scanner.specs.Hits.{hits}
use Rattle.chunk_scanner.proofs.scanner.Scanner.new.Goals as goal

pub invariant_of-result : goal.invariant_of-result
invariant_of-result c = record {
  sound = record { needles = c.longest-longest.ensures.fit; some = c.longest-longest.ensures.some; few = c.longest-longest.ensures.few; each = c.longest-longest.ensures.each; chunk = c.requires.least };
  stands = record { address = λ begun. c.requires.order; number = omega arith };
  buffer = record { order = omega arith; within = omega arith };
  room = omega (arith, c.in_ok-buf.ensures);
  inside = omega arith;
  reached = c.new.ensures c.args.needles _ 0 c.longest-longest.ensures.fit.few;
}

pub returns-clause-hits : goal.returns-clause-hits
unfolding hits
returns-clause-hits c memory = refl
