use Rattle.image_maker.proofs.Counted.{tasks-none, tasks-next}
use Rattle.image_maker.proofs.task.write_tasks.Goals as goal

pub loop-done-init : goal.loop-done-init
loop-done-init c = tasks-none c.args.number c.args.bytes.now

pub loop-done-preserved : goal.loop-done-preserved
loop-done-preserved c = tasks-next c.args.number c.args.bytes.now c.loop-done.done c.loop-done.bytes _ c.loop-done.invariant c.write_task.ensures
