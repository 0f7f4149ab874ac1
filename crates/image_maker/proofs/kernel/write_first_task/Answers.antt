use Rattle.image_maker.proofs.kernel.write_first_task.Goals as goal

pub returns : goal.returns
returns c = rw (c.task_link.ensures, c.task_link-2.ensures, c.task_count.ensures, c.virtual_at.ensures) at c.write_rows.ensures
