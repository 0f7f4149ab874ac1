use Rattle.std.proofs.Common.{ℕ, List, ◌++◌, flat_map, subst}
use Rattle.layer_base.specs.AddressSpace.{AddressSpace}
use Rattle.kernel_records.specs.declared.fault.PluginFault.TheVariants.{Device, Out}
use Rattle.space_memory.specs.Writer.{WritesOver}
use Rattle.walk_text.specs.Added.{end_line}
use Rattle.task_plugins.specs.Pstree.{branch_row}
use Rattle.task_plugins.proofs.tree.write_branches.Goals as goal

pub returns : goal.returns
returns g c = record {
  writes =
      subst (λ (text_of : AddressSpace → List ℕ). WritesOver g.O.Sink.written g.O.Sink.faults c.args.out.now c.write_lines.new.out c.args.memory.now c.write_lines.new.memory Device Out c.write_lines.result text_of)
      (λ i memory. c.head.ensures i ++ (flat_map (branch_row (c.items.ensures i)) c.args.branches.now ++ end_line c.args.found.now.stop))
      c.write_lines.ensures.writes;
}
