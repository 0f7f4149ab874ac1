use Rattle.std.proofs.Common.{◌≡◌}
use Rattle.std.specs.Prelude.{IfSome}
use Rattle.layer_base.specs.View.{physical}
use Rattle.space_memory.specs.State.{IsSameMemory}
use Rattle.chunk_scanner.specs.State.{hits_left, pairs_left, KeepsTrue}
use Rattle.kernel_find.specs.Candidate.{first_accepted, kernel_named_at}
use Rattle.kernel_find.specs.Layout.{table_of}
use Rattle.kernel_find.proofs.search.first_accepted.Given as goal

-- no hit that was passed is accepted
abbrev pub invariant-loop-hit : goal.invariant-loop-hit
invariant-loop-hit g l = record {
  kernel : IfSome l.fn.memory.view (λ view.
      first_accepted (kernel_named_at (physical view) (table_of l.fn.layout)) (hits_left (physical view) l.fn.scanner)
      ≡ first_accepted (kernel_named_at (physical view) (table_of l.fn.layout)) (hits_left (physical view) l.scanner));
  kept : IfSome l.memory.view (λ view. KeepsTrue (physical view) l.scanner);
  memory : IsSameMemory l.fn.memory l.memory;
}

abbrev pub decreases-loop-hit : goal.decreases-loop-hit
decreases-loop-hit g l = pairs_left l.scanner
