use Rattle.std.proofs.Common.{◌≡◌, ℕ, ◌<◌, ◌≤◌, get_or}
use Rattle.needle_search.specs.Progress.{IsPassed, unsearched}
use Rattle.needle_search.proofs.progress.pass_each.Given as goal

-- those before the index are, and the others stay
abbrev pub invariant-loop-reach : goal.invariant-loop-reach
invariant-loop-reach l = record {
  before : (k : ℕ) → k < l.reach-index → IsPassed l.count (get_or l.fn.reaches k unsearched) (get_or l.reaches k unsearched);
  after : (k : ℕ) → l.reach-index ≤ k → get_or l.reaches k unsearched ≡ get_or l.fn.reaches k unsearched;
}
