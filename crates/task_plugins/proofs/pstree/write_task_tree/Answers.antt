use Rattle.layer_base.proofs.Told.{IfSome-both}
use Rattle.kernel_records.specs.declared.fault.PluginFault.TheVariants.{Device, Out}
use Rattle.task_plugins.specs.Pstree.{tree_text}
use Rattle.task_plugins.specs.Tasks.{tasks, task_stop}
use Rattle.task_plugins.proofs.Read.{WritesOver-read}
use Rattle.task_plugins.proofs.pstree.write_task_tree.Goals as goal

pub returns : goal.returns
returns g c =
    let found = c.in_ok-found.found in
    record {
      writes =
          WritesOver-read g.O.Sink.written g.O.Sink.faults c.args.out.now c.write_tree.new.out c.args.memory.now c.all_tasks.new.memory c.write_tree.new.memory Device Out c.write_tree.result
          (tree_text found.rows found.stop) (λ memory. tree_text (tasks memory c.args.ground.table.now c.args.ground.kernel) (task_stop memory c.args.ground.table.now c.args.ground.kernel))
          c.all_tasks.ensures.memory (IfSome-both c.args.memory.now.view c.in_ok-found.ensures.rows c.in_ok-found.ensures.stop (λ view rows stop i. tree_text (rows i) (stop i))) c.write_tree.ensures.writes;
    }
