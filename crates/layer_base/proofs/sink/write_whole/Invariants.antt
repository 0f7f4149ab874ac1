use Rattle.std.proofs.Common.{◌≡◌, ◌≤◌, ℕ, List, ◌++◌, length}
use Rattle.std.specs.Io.KnownBytes.{Appends}
use Rattle.layer_base.proofs.sink.write_whole.Given as goal

-- what was appended so far and what is left are the piece
abbrev pub invariant-loop-rest : goal.invariant-loop-rest
invariant-loop-rest g l = record {
  appended : (done : List ℕ) × Appends (g.O.Sink.written l.fn.out) (g.O.Sink.written l.out) done × (l.piece ≡ done ++ l.rest);
  kept : g.O.Sink.faults l.fn.out ≤ g.O.Sink.faults l.out;
}

abbrev pub decreases-loop-rest : goal.decreases-loop-rest
decreases-loop-rest g l = length l.rest
