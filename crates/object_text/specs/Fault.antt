-- The error lines of a type that gives no object.
use Rattle.std.specs.Prelude.{ℕ, List, [], ◌++◌, codes}
use Rattle.cell_text.specs.TextCell.{text_cell}
use Rattle.type_layout.specs.declared.fault.TypeFault.{TypeFault}
use Rattle.type_layout.specs.declared.fault.TypeFault.TheVariants as faults

-- that no field has a name
unfoldable pub no_member_text : List ℕ → List ℕ
no_member_text name = codes "error: no member " ++ text_cell name ++ codes "\n"

-- the line of a fault, at the name of a path where it is a member's; the last three come of no path and of no size
unfoldable pub fault_text : List ℕ → TypeFault → List ℕ
fault_text name faults.NoType = codes "error: no type\n"
fault_text name faults.NoMember = no_member_text name
fault_text name faults.NotCompound = codes "error: not a compound type\n"
fault_text name faults.PastEnd = codes "error: out of range\n"
fault_text name faults.TooBig = codes "error: too big\n"
fault_text name faults.NotArray = []
fault_text name faults.NotPointer = []
fault_text name faults.NotNumber = []
