use Rattle.std.proofs.Common.{◌-◌, ◌≤◌, replicate}
use Rattle.std.specs.Io.KnownBytes.{Appends}
use Rattle.session.proofs.dump.write_zeros.Given as goal

-- so many zeros were written
abbrev pub invariant-loop-done : goal.invariant-loop-done
invariant-loop-done g l = record {
  so_far : Appends (g.D.Sink.written l.fn.dump) (g.D.Sink.written l.dump) (replicate l.done 0);
  within : l.done ≤ l.count;
  kept : g.D.Sink.faults l.fn.dump ≤ g.D.Sink.faults l.dump;
}

abbrev pub decreases-loop-done : goal.decreases-loop-done
decreases-loop-done g l = l.count - l.done
