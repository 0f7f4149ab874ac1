-- Where a reader of tasks has their members.
use Rattle.std.specs.Prelude.{option_map}
use Rattle.type_layout.specs.Member.{spot}
use Rattle.task_plugins.specs.Task.{TaskMembers}
use Rattle.task_plugins.specs.declared.reader.TaskReader.{TaskReader}

abbrev pub members_of : TaskReader → TaskMembers
members_of reader = record {
  tgid = option_map spot reader.tgid;
  pid = option_map spot reader.pid;
  parent = option_map spot reader.parent;
  comm = option_map spot reader.comm;
}
