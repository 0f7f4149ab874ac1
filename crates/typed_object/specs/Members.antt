-- Members of objects, read from where the table has them. A member that the table has not is absent; so is one whose place
-- lies above 2^64 - 1, and one of which a byte is absent.
use Rattle.std.specs.Prelude.{ℕ, ◌+◌, ◌^◌, nat_lt, if◌then◌else◌, List, Option, None, Some, option_map, option_and_then}
use Rattle.std.specs.Result.{result_ok}
use Rattle.layer_base.specs.AddressSpace.{AddressSpace}
use Rattle.layer_base.specs.Number.{low_word}
use Rattle.layer_base.specs.declared.number.Number.{Number}
use Rattle.isf_reader.specs.Table.{IsfTable}
use Rattle.kernel_records.specs.declared.stop.Stop.{Stop}
use Rattle.kernel_records.specs.declared.stop.Stop.TheVariants.{Unreadable, Outside}
use Rattle.type_layout.specs.Member.{Spot}
use Rattle.typed_object.specs.Number.{number}
use Rattle.typed_object.specs.Place.{placed}
use Rattle.typed_object.specs.Text.{text}

-- where the member of an object stands, and its type
abbrev pub member_spot : Option Spot → ℕ → Option Spot
member_spot None at = None
member_spot (Some s) at = result_ok (placed at s)

-- the number of a member of the object at an address
abbrev pub member_number : AddressSpace → IsfTable → Option Spot → ℕ → Option Number
member_number memory table member at = option_and_then (λ s. result_ok (number memory table s.0 s.1)) (member_spot member at)

-- the number of a member as an address, a word or a count
abbrev pub member_word : AddressSpace → IsfTable → Option Spot → ℕ → Option ℕ
member_word memory table member at = option_map low_word (member_number memory table member at)

-- the text of a member of the object at an address
abbrev pub member_text : AddressSpace → IsfTable → Option Spot → ℕ → Option (List ℕ)
member_text memory table member at = option_and_then (λ s. result_ok (text memory table s.0 s.1)) (member_spot member at)

-- how far a member stands from the start of its object
abbrev pub offset_of : Option Spot → ℕ
offset_of None = 0
offset_of (Some s) = s.0

-- why a walk stops at an absent member of the object at an address: at the member's place, or at the object where that
-- place lies above 2^64 - 1
abbrev pub absent_stop : Option Spot → ℕ → Stop
absent_stop member at = if nat_lt (at + offset_of member) (2 ^ 64) then Unreadable (at + offset_of member) else Outside at
