use Rattle.std.proofs.Common.{◌≤◌, length, take}
use Rattle.std.specs.Prelude.{All}
use Rattle.needle_search.proofs.needles.Needles.longest.Given as goal

-- as long as each needle so far
abbrev pub invariant-loop-needle : goal.invariant-loop-needle
invariant-loop-needle l = record {
  some : 1 ≤ l.longest;
  few : l.longest ≤ 4096;
  each : All (λ needle. length needle ≤ l.longest) (take l.needle-index l.needle-items);
}
