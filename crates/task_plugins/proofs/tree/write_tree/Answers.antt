use Rattle.std.proofs.Common.{◌≡◌, ℕ, List, map, subst, ap, ◌∙◌}
use Rattle.layer_base.specs.AddressSpace.{AddressSpace}
use Rattle.kernel_records.specs.declared.fault.PluginFault.TheVariants.{Device, Out}
use Rattle.kernel_records.specs.declared.task.Task.{Task}
use Rattle.space_memory.specs.Writer.{WritesOver}
use Rattle.tree_order.specs.Tree.{tree}
use Rattle.task_plugins.specs.Pstree.{key_of, branches_text}
use Rattle.task_plugins.proofs.tree.write_tree.Goals as goal

pub returns : goal.returns
returns g c =
    let order : c.items-2.result.now ≡ tree (map key_of c.args.found.now.rows) = c.items-2.ensures ∙ c.in_ok-branches.ensures ∙ ap (λ (rows : List Task). tree (map key_of rows)) c.items.ensures in
    record {
      writes =
          subst (λ (text_of : AddressSpace → List ℕ). WritesOver g.O.Sink.written g.O.Sink.faults c.args.out.now c.write_branches.new.out c.args.memory.now c.write_branches.new.memory Device Out c.write_branches.result text_of)
          (λ i memory. branches_text c.args.found.now.rows (order i) c.args.found.now.stop)
          c.write_branches.ensures.writes;
    }
