use Rattle.std.proofs.Common.{◌≡◌, ℕ, ◌*◌, ◌-◌, ◌≤◌, ◌⊎◌}
use Rattle.space_memory.proofs.Writers.{HasWritten}
use Rattle.session.specs.Command.{read_text}
use Rattle.session.proofs.read.write_read.Given as goal

-- the rows of whole pieces were written, or all
abbrev pub invariant-loop-done : goal.invariant-loop-done
invariant-loop-done g l = record {
  so_far : HasWritten g.O.Sink.written g.O.Sink.faults l.fn.out l.out l.fn.memory l.memory (λ memory. read_text memory l.done l.place);
  whole : ((rows : ℕ) × (l.done ≡ 16 * rows)) ⊎ (l.done ≡ l.len);
  within : l.done ≤ l.len;
}

abbrev pub decreases-loop-done : goal.decreases-loop-done
decreases-loop-done g l = l.len - l.done
