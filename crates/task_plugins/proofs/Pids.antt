-- The first task with a PID among those that a walk gives.
use Rattle.std.proofs.Common.{◌≡◌, ℕ, find, Result, refl, sym, ap, ◌∙◌}
use Rattle.layer_base.specs.AddressSpace.{AddressSpace}
use Rattle.isf_reader.specs.Table.{IsfTable}
use Rattle.kernel_records.specs.declared.kernel.Kernel.{Kernel}
use Rattle.kernel_records.specs.declared.stop.Stop.{Stop}
use Rattle.list_walk.specs.State.{WalkState}
use Rattle.typed_object.specs.Ground.{kernel_memory}
use Rattle.task_plugins.specs.Pid.{is_number, has_pid, task_of_pid}
use Rattle.task_plugins.specs.Task.{task_members, task_at}
use Rattle.task_plugins.specs.Tasks.{places_of, task_walk, tasks}
use Rattle.task_plugins.proofs.First.{find-made}

module _ (physical : AddressSpace) (table : IsfTable) (kernel : Kernel) (pid : ℕ) where
  abbrev memory : AddressSpace
  memory = kernel_memory physical kernel

  -- it is the task of the PID
  pub first-of-walk : (from : Result WalkState Stop) → from ≡ task_walk table kernel → find (has_pid memory table (task_members table).tgid pid) (places_of memory from) ≡ task_of_pid physical table kernel pid
  unfolding task_of_pid tasks task_at
  first-of-walk from is =
      ap (λ (walk : Result WalkState Stop). find (has_pid memory table (task_members table).tgid pid) (places_of memory walk)) is
      ∙ sym (find-made (task_at memory table (task_members table)) (λ task. task.at) (λ task. is_number pid task.pid) (λ at. refl) (places_of memory (task_walk table kernel)))
