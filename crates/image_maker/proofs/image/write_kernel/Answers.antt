use Rattle.image_maker.specs.Image.{kernel}
use Rattle.image_maker.proofs.Writing.{behind}
use Rattle.image_maker.proofs.image.write_kernel.Goals as goal

pub returns : goal.returns
unfolding kernel
returns c =
    behind _ _ _ _ _ (
    behind _ _ _ _ _ (
    behind _ _ _ _ _ (
    behind _ _ _ _ _ (
    behind _ _ _ _ _ (
    behind _ _ _ _ _ (
    behind _ _ _ _ _ (
    behind _ _ _ _ _ c.write_first_task.ensures c.write_modules.ensures) c.write_system_calls.ensures) (rw c.requires.banner at c.write_rows.ensures)) c.write_root_mount.ensures) c.write_dentries.ensures) c.write_names.ensures) c.write_pipe.ensures) c.write_open_files.ensures
