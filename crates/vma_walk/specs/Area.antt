-- An area of a process's memory, read from its `vm_area_struct`.
use Rattle.std.specs.Prelude.{ℕ, Option}
use Rattle.layer_base.specs.AddressSpace.{AddressSpace}
use Rattle.isf_reader.specs.Table.{IsfTable}
use Rattle.kernel_records.specs.declared.area.Area.{Area}
use Rattle.kernel_records.specs.declared.need.Need.TheVariants as needs
use Rattle.type_layout.specs.Member.{Spot}
use Rattle.typed_object.specs.Members.{member_number, member_word}
use Rattle.typed_object.specs.Needs.{needed_member}

-- where the members of an area stand that are printed
pub record AreaMembers : Type 0 where
  pub start : Option Spot
  pub end : Option Spot
  pub flags : Option Spot
  pub pgoff : Option Spot
  pub file : Option Spot

-- where a table has them
abbrev pub area_members : IsfTable → AreaMembers
area_members table = record {
  start = needed_member table needs.VmAreaStructVmStart;
  end = needed_member table needs.VmAreaStructVmEnd;
  flags = needed_member table needs.VmAreaStructVmFlags;
  pgoff = needed_member table needs.VmAreaStructVmPgoff;
  file = needed_member table needs.VmAreaStructVmFile;
}

-- the area at an address of the kernel's memory
unfoldable pub area_at : AddressSpace → IsfTable → AreaMembers → ℕ → Area
area_at memory table members at = record {
  start = member_number memory table members.start at;
  end = member_number memory table members.end at;
  flags = member_number memory table members.flags at;
  pgoff = member_number memory table members.pgoff at;
  file = member_word memory table members.file at;
}
