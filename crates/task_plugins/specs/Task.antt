-- A task, read from its `task_struct`.
use Rattle.std.specs.Prelude.{ℕ, Option, option_and_then}
use Rattle.layer_base.specs.AddressSpace.{AddressSpace}
use Rattle.layer_base.specs.declared.number.Number.{Number}
use Rattle.isf_reader.specs.Table.{IsfTable}
use Rattle.kernel_records.specs.declared.need.Need.TheVariants as needs
use Rattle.kernel_records.specs.declared.task.Task.{Task}
use Rattle.type_layout.specs.Member.{Spot}
use Rattle.typed_object.specs.Members.{member_number, member_word, member_text}
use Rattle.typed_object.specs.Needs.{needed_member}

-- where the members of a task stand that are printed: the number of its process, its own, its parent and its name
pub record TaskMembers : Type 0 where
  pub tgid : Option Spot
  pub pid : Option Spot
  pub parent : Option Spot
  pub comm : Option Spot

-- where a table has them
abbrev pub task_members : IsfTable → TaskMembers
task_members table = record {
  tgid = needed_member table needs.TaskStructTgid;
  pid = needed_member table needs.TaskStructPid;
  parent = needed_member table needs.TaskStructRealParent;
  comm = needed_member table needs.TaskStructComm;
}

-- the number of the process of the task that a task's parent is
abbrev pub parent_pid : AddressSpace → IsfTable → TaskMembers → ℕ → Option Number
parent_pid memory table members at = option_and_then (member_number memory table members.tgid) (member_word memory table members.parent at)

-- the task at an address of the kernel's memory
unfoldable pub task_at : AddressSpace → IsfTable → TaskMembers → ℕ → Task
task_at memory table members at = record {
  at = at;
  pid = member_number memory table members.tgid at;
  tid = member_number memory table members.pid at;
  ppid = parent_pid memory table members at;
  comm = member_text memory table members.comm at;
}
