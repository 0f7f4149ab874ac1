-- What a reading does with the addresses from one on.
use Rattle.std.specs.Prelude.{◌≡◌, ℕ, ◌+◌, ◌≤◌, Option, None, Some}
use Rattle.layer_base.specs.AddressSpace.{AddressSpace}
use Rattle.layer_base.specs.declared.reading.Stretch.{Stretch}

-- the byte k bytes behind a place, None where there is no place
abbrev pub byte_behind : AddressSpace → Option ℕ → ℕ → Option ℕ
byte_behind below None k = None
byte_behind below (Some place) k = below (place + k)

-- at each address of the stretch the memory has the byte that stands at its place below
abbrev pub IsShownFrom : AddressSpace → AddressSpace → ℕ → Stretch → Type 0
IsShownFrom memory below at stretch = (k : ℕ) → at + k ≤ stretch.last → memory (at + k) ≡ byte_behind below stretch.place k
