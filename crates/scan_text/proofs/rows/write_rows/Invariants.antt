use Rattle.std.proofs.Common.{◌≡◌, ◌+◌, ◌≤◌, ◌++◌, length}
use Rattle.std.specs.Prelude.{min, IfSome}
use Rattle.layer_base.specs.View.{physical}
use Rattle.space_memory.specs.State.{IsSameMemory}
use Rattle.chunk_scanner.specs.State.{hits_left, pairs_left, KeepsTrue}
use Rattle.scan_text.specs.Rows.{most_count, rows_left}
use Rattle.walk_text.specs.Front.{WritesFront}
use Rattle.scan_text.proofs.rows.write_rows.Given as goal

-- of all lines a front was written, and the hits that were passed are counted
abbrev pub invariant-loop-count : goal.invariant-loop-count
invariant-loop-count g l = record {
  rows : IfSome l.fn.memory.view (λ view.
      WritesFront (g.O.Sink.written l.fn.out) (g.O.Sink.written l.out) (l.fn.text.items ++ rows_left l.listing (physical view) l.fn.scanner) (l.text.items ++ rows_left l.listing (physical view) l.scanner)
      × (min (l.count + length (hits_left (physical view) l.scanner)) most_count ≡ min (length (hits_left (physical view) l.fn.scanner)) most_count));
  fits : l.count ≤ most_count;
  kept : IfSome l.memory.view (λ view. KeepsTrue (physical view) l.scanner);
  memory : IsSameMemory l.fn.memory l.memory;
  out : g.O.Sink.faults l.fn.out ≤ g.O.Sink.faults l.out;
}

abbrev pub decreases-loop-count : goal.decreases-loop-count
decreases-loop-count g l = pairs_left l.scanner
