-- The text of the tasks that a walk gives.
use Rattle.std.proofs.Common.{◌≡◌, ℕ, List, ◌++◌, map, flat_map, Result, Ok, sym, ap, ◌∙◌}
use Rattle.std.proofs.lemmas.List.Folds.{flat_map-map}
use Rattle.layer_base.specs.AddressSpace.{AddressSpace}
use Rattle.isf_reader.specs.Table.{IsfTable}
use Rattle.kernel_records.specs.declared.kernel.Kernel.{Kernel}
use Rattle.kernel_records.specs.declared.stop.Stop.{Stop}
use Rattle.list_walk.specs.Objects.{objects, stop_of}
use Rattle.list_walk.specs.State.{WalkState}
use Rattle.typed_object.specs.Ground.{kernel_memory}
use Rattle.walk_text.specs.Added.{end_line}
use Rattle.walk_text.specs.WalkText.{walk_text}
use Rattle.task_plugins.specs.Pslist.{task_row}
use Rattle.task_plugins.specs.Task.{task_members, task_at}
use Rattle.task_plugins.specs.Tasks.{places_of, stop_for, task_walk, tasks, task_stop}

module _ (physical : AddressSpace) (table : IsfTable) (kernel : Kernel) where
  abbrev memory : AddressSpace
  memory = kernel_memory physical kernel

  -- the rows of the tasks, by the walk over them or by why there is none
  pub rows-from : (from : Result WalkState Stop) → from ≡ task_walk table kernel
      → flat_map task_row (map (task_at memory table (task_members table)) (places_of memory from)) ++ end_line (stop_for memory from) ≡ flat_map task_row (tasks physical table kernel) ++ end_line (task_stop physical table kernel)
  unfolding tasks task_stop
  rows-from from is = ap (λ (walk : Result WalkState Stop). flat_map task_row (map (task_at memory table (task_members table)) (places_of memory walk)) ++ end_line (stop_for memory walk)) is

  -- the rows of a walk over the tasks are those of the tasks
  pub rows-of-walk : (walk : WalkState) → Ok walk ≡ task_walk table kernel
      → walk_text (λ at. task_row (task_at memory table (task_members table) at)) memory walk ≡ flat_map task_row (tasks physical table kernel) ++ end_line (task_stop physical table kernel)
  rows-of-walk walk is =
      ap (λ (rows : List ℕ). rows ++ end_line (stop_of memory walk)) (sym (flat_map-map task_row (task_at memory table (task_members table)) (objects memory walk))) ∙ rows-from (Ok walk) is
