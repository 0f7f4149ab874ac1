-- Places of members and elements.
use Rattle.std.specs.Prelude.{ℕ, ◌+◌, ◌^◌, List, nat_lt, if◌then◌else◌, Result, Ok, Err}
use Rattle.isf_reader.specs.Table.{IsfTable}
use Rattle.isf_reader.specs.declared.type_ref.TypeRef.{TypeRef}
use Rattle.type_layout.specs.Element.{element}
use Rattle.type_layout.specs.Member.{Spot, member}
use Rattle.type_layout.specs.declared.fault.TypeFault.{TypeFault}
use Rattle.type_layout.specs.declared.fault.TypeFault.TheVariants.{PastEnd}
use Rattle.typed_object.specs.declared.view.View.{View}

-- the address and the type of a view
abbrev pub seen : View → Spot
seen view = (view.at, view.of.now)

-- a spot of a type, where the type stands at an address; an address above 2 ^ 64 - 1 is none
abbrev pub placed : ℕ → Spot → Result Spot TypeFault
placed at s = if nat_lt (at + s.0) (2 ^ 64) then Ok (at + s.0, s.1) else Err PastEnd

-- the same where a type has such a spot
abbrev pub placed_if : ℕ → Result Spot TypeFault → Result Spot TypeFault
placed_if at (Ok s) = placed at s
placed_if at (Err fault) = Err fault

-- where the member of a name stands
abbrev pub member_at : IsfTable → ℕ → TypeRef → List ℕ → Result Spot TypeFault
member_at table at of name = placed_if at (member table of name)

-- where the element of an index stands
abbrev pub element_at : IsfTable → ℕ → TypeRef → ℕ → Result Spot TypeFault
element_at table at of index = placed_if at (element table of index)
