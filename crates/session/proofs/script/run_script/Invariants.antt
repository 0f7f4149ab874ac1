use Rattle.std.proofs.Common.{◌≡◌, ◌≤◌}
use Rattle.std.specs.Prelude.{IfSome}
use Rattle.session.specs.Headline.{GaveAtMost}
use Rattle.session.specs.Evidence.{evidence_in}
use Rattle.session.specs.Kernel.{KeepsKernel}
use Rattle.session.specs.Line.{line_said, is_quit}
use Rattle.space_memory.specs.State.{IsSameMemory}
use Rattle.session.proofs.Underway.{Underway}
use Rattle.session.proofs.script.run_script.Given as goal

abbrev pub invariant-loop : goal.invariant-loop
invariant-loop g l = record {
  underway : IfSome l.fn.desk.memory.view (λ view. IfSome (g.S.Source.left l.fn.script) (λ bytes.
      Underway (line_said l.has_dump (evidence_in view l.fn.desk.file.table.now)) is_quit bytes (g.S.Source.left l.script) (g.O.Sink.written l.fn.out) (g.O.Sink.written l.out) (g.D.Sink.written l.fn.dump) (g.D.Sink.written l.dump) l.line l.counter));
  most : GaveAtMost l.counter (g.S.Source.left l.fn.script) (g.S.Source.left l.script);
  memory : IsSameMemory l.fn.desk.memory l.desk.memory;
  kept : KeepsKernel l.desk.memory.view l.desk.file.table.now l.desk.found;
  file : l.desk.file ≡ l.fn.desk.file;
  script : g.S.Source.faults l.fn.script ≤ g.S.Source.faults l.script;
  out : g.O.Sink.faults l.fn.out ≤ g.O.Sink.faults l.out;
  dump : g.D.Sink.faults l.fn.dump ≤ g.D.Sink.faults l.dump;
}
