-- What an entry of a table says. Reserved bits and access rights say nothing here.
use Rattle.std.specs.Prelude.{ℕ, ◌^◌, ◌<◌, ◌≤◌, ◌/◌, ◌%◌, Bool, ◌&&◌, ◌||◌, ◌==◌, if◌then◌else◌, Option, None, Some}
use Rattle.layer_base.specs.Mapped.{block_size}
use Rattle.layer_base.specs.Space.{frame_of, page_address}
use Rattle.intel_paging.specs.declared.entry.Entry.{Entry}
use Rattle.intel_paging.specs.declared.entry.Entry.TheVariants.{Hole, Frame, Table}

-- bit 0: the entry maps something
abbrev pub is_present : ℕ → Bool
is_present entry = entry % 2 == 1

-- At level 1 an entry maps a page. At levels 2 and 3 it maps a block of 2 MiB or 1 GiB where its bit 7 is set. At the
-- levels above it does not, whatever its bit 7.
abbrev pub maps_a_block : ℕ → ℕ → Bool
maps_a_block level entry = level == 1 || ((level == 2 || level == 3) && entry / 2 ^ 7 % 2 == 1)

abbrev pub present_entry : ℕ → ℕ → Entry
present_entry level entry = if maps_a_block level entry then Frame (frame_of (block_size level) entry) else Table (page_address entry)

-- an entry with an absent byte maps nothing
abbrev pub entry_of : ℕ → Option ℕ → Entry
entry_of level None = Hole
entry_of level (Some entry) = if is_present entry then present_entry level entry else Hole

-- Frames and tables lie below 2 ^ 52, and an entry of level 1 names no table.
abbrev pub IsEntryOf : ℕ → Entry → Type 0
IsEntryOf level Hole = Unit {0}
IsEntryOf level (Frame to) = to < 2 ^ 52
IsEntryOf level (Table at) = (2 ≤ level) × (at < 2 ^ 52)
