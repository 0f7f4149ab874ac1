-- Where a reader of areas has their members.
use Rattle.std.specs.Prelude.{option_map}
use Rattle.type_layout.specs.Member.{spot}
use Rattle.vma_walk.specs.Area.{AreaMembers}
use Rattle.vma_walk.specs.declared.reader.AreaReader.{AreaReader}

abbrev pub members_of : AreaReader → AreaMembers
members_of reader = record {
  start = option_map spot reader.start;
  end = option_map spot reader.end;
  flags = option_map spot reader.flags;
  pgoff = option_map spot reader.pgoff;
  file = option_map spot reader.file;
}
