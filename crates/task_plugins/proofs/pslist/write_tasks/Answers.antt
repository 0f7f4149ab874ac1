use Rattle.std.proofs.Common.{ℕ, List, ◌++◌, Err, subst, codes, ap, ◌∙◌}
use Rattle.layer_base.specs.AddressSpace.{AddressSpace}
use Rattle.kernel_records.specs.declared.fault.PluginFault.TheVariants.{Device, Out}
use Rattle.space_memory.specs.InSpace.{in_space}
use Rattle.space_memory.specs.Writer.{WritesOver}
use Rattle.walk_text.specs.WalkText.{walk_text}
use Rattle.task_plugins.specs.Pslist.{task_row}
use Rattle.task_plugins.specs.Task.{task_at}
use Rattle.task_plugins.proofs.RowTexts.{rows-from, rows-of-walk}
use Rattle.task_plugins.proofs.pslist.write_tasks.Goals as goal

pub returns-in-Ok : goal.returns-in-Ok
returns-in-Ok g c = record {
  writes =
      subst (λ (text_of : AddressSpace → List ℕ). WritesOver g.O.Sink.written g.O.Sink.faults c.args.out.now c.write_walk.new.out c.args.memory.now c.write_walk.new.memory Device Out c.write_walk.result text_of)
      (λ i memory. ((λ j. c.head.ensures j ++ walk_text (λ at. task_row (task_at (in_space memory (c.of-reader.ensures.space j)) (c.of-reader.ensures.table j) (c.of-reader.ensures.members j) at)) (in_space memory (c.in-Ok.ensures.space j)) c.in-Ok.walk)
      ∙ ap (λ (rows : List ℕ). codes "OFFSET\tPID\tTID\tPPID\tCOMM\n" ++ rows) (rows-of-walk memory c.args.ground.table.now c.args.ground.kernel c.in-Ok.walk c.in-Ok.ensures.walk)) i)
      c.write_walk.ensures.writes;
}

pub returns-in-Err : goal.returns-in-Err
returns-in-Err g c = record {
  writes =
      subst (λ (text_of : AddressSpace → List ℕ). WritesOver g.O.Sink.written g.O.Sink.faults c.args.out.now c.write_lines.new.out c.args.memory.now c.write_lines.new.memory Device Out c.write_lines.result text_of)
      (λ i memory. c.head-in-Err.ensures i ++ rows-from memory c.args.ground.table.now c.args.ground.kernel (Err c.in-Err.stop) c.in-Err.ensures.walk i)
      c.write_lines.ensures.writes;
}
