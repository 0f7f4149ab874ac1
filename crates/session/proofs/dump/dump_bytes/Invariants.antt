use Rattle.std.proofs.Common.{◌≡◌, ◌-◌, ◌<◌, ◌≤◌}
use Rattle.std.specs.Prelude.{IfSome}
use Rattle.layer_base.specs.View.{physical}
use Rattle.space_memory.specs.InSpace.{in_space}
use Rattle.space_memory.proofs.Writers.{HasWritten}
use Rattle.session.specs.Dump.{dumped_bytes, absent_bytes}
use Rattle.session.proofs.dump.dump_bytes.Given as goal

-- so many bytes were dumped and counted
abbrev pub invariant-loop-done : goal.invariant-loop-done
invariant-loop-done g l = record {
  so_far : HasWritten g.D.Sink.written g.D.Sink.faults l.fn.dump l.dump l.fn.memory l.memory (λ memory. dumped_bytes (in_space memory l.place.space) l.place.at l.done);
  counted : IfSome l.fn.memory.view (λ view. l.absent ≡ absent_bytes (in_space (physical view) l.place.space) l.place.at l.done);
  few : l.absent ≤ l.done;
  within : l.done ≤ l.len;
}

abbrev pub decreases-loop-done : goal.decreases-loop-done
decreases-loop-done g l = l.len - l.done
