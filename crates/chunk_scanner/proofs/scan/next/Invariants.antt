use Rattle.std.proofs.Common.{◌≡◌, ◌≤◌}
use Rattle.std.specs.Prelude.{IfSome}
use Rattle.layer_base.specs.View.{physical}
use Rattle.space_memory.specs.State.{IsSameMemory}
use Rattle.chunk_scanner.specs.Position.{pairs_behind}
use Rattle.chunk_scanner.specs.Scan.{hits_behind, IsScan, Keeps}
use Rattle.chunk_scanner.proofs.scan.next.Given as goal

-- the hits that are left are those that were
abbrev pub invariant-loop-position : goal.invariant-loop-position
invariant-loop-position g l = record {
  scan : IsScan l.wanted l.position l.window l.progress;
  hits : IfSome l.fn.memory.view (λ view. hits_behind (physical view) l.wanted l.fn.position ≡ hits_behind (physical view) l.wanted l.position);
  kept : IfSome l.fn.memory.view (λ view. Keeps (physical view) l.wanted l.position l.window);
  fewer : pairs_behind l.wanted.last l.position ≤ pairs_behind l.wanted.last l.fn.position;
  memory : IsSameMemory l.fn.memory l.memory;
}

abbrev pub decreases-loop-position : goal.decreases-loop-position
decreases-loop-position g l = pairs_behind l.wanted.last l.position
