use Rattle.std.proofs.Common.{ap, ◌∙◌}
use Rattle.image_maker.specs.Image.{machine}
use Rattle.image_maker.specs.Written.{written}
use Rattle.image_maker.proofs.Writing.{behind}
use Rattle.image_maker.proofs.image.write_machine.Goals as goal

pub returns : goal.returns
unfolding machine
returns c =
    behind _ _ _ _ _ (behind _ _ _ _ _ c.write_page_tables.ensures c.write_kernel.ensures) (rw c.task_count.ensures at c.write_tasks.ensures)
    ∙ ap (written _) c.requires.zeros
