use Rattle.image_maker.specs.Task.{task}
use Rattle.image_maker.proofs.Writing.{behind}
use Rattle.image_maker.proofs.task.write_task.Goals as goal

pub returns : goal.returns
unfolding task
returns c =
    behind _ _ _ _ _ (
    behind _ _ _ _ _ (
    behind _ _ _ _ _ (
    behind _ _ _ _ _ c.write_task_struct.ensures c.write_task_memory.ensures) c.write_task_files.ensures) c.write_task_tables.ensures) c.write_task_upper.ensures
