use Rattle.needle_search.specs.FirstHit.{IsFirstOf}
use Rattle.needle_search.specs.Progress.{AreReached}
use Rattle.needle_search.proofs.search.first_among.Given as goal

-- the first hit of the needles so far
abbrev pub invariant-loop-index : goal.invariant-loop-index
invariant-loop-index l = record {
  first : IsFirstOf l.needles l.window l.index l.least l.first;
  reached : AreReached l.needles l.window l.least l.progress;
}
