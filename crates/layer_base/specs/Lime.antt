-- LiME version 1: a list of ranges of addresses. A range is a header of 32 bytes and then its bytes, and the next header
-- follows at once. All numbers are little-endian.
--
--     offset  size
--          0     4  magic, 0x4C694D45
--          4     4  version, 1
--          8     8  the first address
--         16     8  the last address, itself included
--         24     8  reserved
use Rattle.std.specs.Prelude.{ℕ, zero, suc, ◌+◌, ◌-◌, Bool, not, ◌==◌, ◌&&◌, ◌||◌, nat_lt, if◌then◌else◌, List, [], ◌∷◌, ◌++◌, length, drop, Result, Ok, Err}
use Rattle.byteorder.specs.Endian.{little_number}
use Rattle.layer_base.specs.AddressSpace.{AddressSpace}
use Rattle.layer_base.specs.Present.{present_from}
use Rattle.layer_base.specs.declared.segment.Segment.{Segment}
use Rattle.layer_base.specs.declared.why.Rule.{Rule}
use Rattle.layer_base.specs.declared.why.Rule.TheVariants.{Many, Cut, Magic, Version, Order}
use Rattle.layer_base.specs.declared.why.Why.{Why}
use Rattle.layer_base.specs.declared.why.Why.TheVariants.{NotThis, Bad}

-- the number in so many bytes of a header
abbrev pub field : ℕ → ℕ → List ℕ → ℕ
field offset size header = little_number size (drop offset header)

abbrev pub magic_of : List ℕ → ℕ
magic_of header = field 0 4 header

abbrev pub version_of : List ℕ → ℕ
version_of header = field 4 4 header

abbrev pub first_of : List ℕ → ℕ
first_of header = field 8 8 header

abbrev pub last_of : List ℕ → ℕ
last_of header = field 16 8 header

abbrev pub is_cut : List ℕ → Bool
is_cut header = nat_lt (length header) 32

abbrev pub has_magic : List ℕ → Bool
has_magic header = magic_of header == 0x4C694D45

-- a header that is whole and has the magic
abbrev pub is_lime : List ℕ → Bool
is_lime header = not (is_cut header) && has_magic header

-- the range of a header at a place, or the first rule that it breaks; `above` is the address after the range before it
unfoldable pub range_of : ℕ → ℕ → List ℕ → Result Segment Rule
range_of place above header =
    if is_cut header then Err Cut
    else if not (has_magic header) then Err Magic
    else if not (version_of header == 1) then Err Version
    else if nat_lt (last_of header) (first_of header) || nat_lt (first_of header) above then Err Order
    else Ok (record { first = first_of header; place = place + 32; length = last_of header - first_of header + 1 })

-- a list of ranges in front of the others
abbrev pub with_front : List Segment → Result (List Segment) Why → Result (List Segment) Why
with_front front (Ok others) = Ok (front ++ others)
with_front front (Err why) = Err why

-- the list ends where the byte at a header's place is absent
abbrev pub ends_or : List ℕ → Result (List Segment) Why → Result (List Segment) Why
ends_or [] more = Ok []
ends_or (byte ∷ rest) more = more

-- a range and the ranges behind it; a rule that is broken is told with the place of the header
abbrev pub and_behind : ℕ → Result Segment Rule → (Segment → Result (List Segment) Why) → Result (List Segment) Why
and_behind place (Ok segment) more = with_front (segment ∷ []) (more segment)
and_behind place (Err rule) more = Err (Bad place rule)

-- the ranges from a header's place on, of which there may be n
unfoldable pub ranges_from : ℕ → AddressSpace → ℕ → ℕ → Result (List Segment) Why
ranges_from zero memory place above = ends_or (present_from memory place 32) (Err (Bad place Many))
ranges_from (suc n) memory place above =
    ends_or (present_from memory place 32) (and_behind place (range_of place above (present_from memory place 32)) (λ segment. ranges_from n memory (segment.place + segment.length) (segment.first + segment.length)))

-- What LiME reads in a memory: at most 65,536 ranges. A memory that does not begin with 32 bytes and the magic is of
-- another format.
unfoldable pub lime : AddressSpace → Result (List Segment) Why
lime memory =
    if is_lime (present_from memory 0 32) then ranges_from 65536 memory 0 0
    else Err NotThis
