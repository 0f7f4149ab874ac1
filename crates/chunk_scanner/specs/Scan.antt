-- A scan on its way.
use Rattle.std.specs.Prelude.{◌≡◌, ◌+◌, ◌≤◌, List, ◌∷◌, length, vec_len, Option, None, Some}
use Rattle.layer_base.specs.AddressSpace.{AddressSpace}
use Rattle.space_memory.specs.InSpace.{in_space}
use Rattle.needle_search.specs.Progress.{AreReached}
use Rattle.needle_search.specs.declared.hit.Hit.{Hit}
use Rattle.needle_search.specs.declared.progress.Progress.{Progress}
use Rattle.chunk_scanner.specs.Hits.{up_to, hits_from}
use Rattle.chunk_scanner.specs.Position.{addresses_left, IsWanted, StandsWithin}
use Rattle.chunk_scanner.specs.Window.{AreBytesFrom, kept_bytes, IsWindow}
use Rattle.chunk_scanner.specs.declared.position.Position.{Position}
use Rattle.chunk_scanner.specs.declared.wanted.Wanted.{Wanted}
use Rattle.chunk_scanner.specs.declared.window.Window.{Window}

-- It stands at or before the last address, and keeps no bytes of those behind it. The buffer has room for a chunk behind
-- what is too little to be searched. So far as is said the bytes that are kept were searched.
pub record IsScan (wanted : Wanted) (position : Position) (window : Window) (progress : Progress) : Type 0 where
  pub sound : IsWanted wanted
  pub stands : StandsWithin wanted.last position
  pub buffer : IsWindow window
  pub room : wanted.longest + wanted.chunk ≤ vec_len window.buf
  pub inside : length (kept_bytes window) ≤ addresses_left wanted.last position
  pub reached : AreReached wanted.needles (kept_bytes window) position.number progress

-- the part of a physical memory that is searched
abbrev pub searched : AddressSpace → Wanted → AddressSpace
searched memory wanted = up_to wanted.last (in_space memory wanted.space)

-- the hits that are left in it
abbrev pub hits_behind : AddressSpace → Wanted → Position → List Hit
hits_behind memory wanted position = hits_from (searched memory wanted) wanted.needles position.at position.number (addresses_left wanted.last position)

-- the bytes that are kept are those of the memory
abbrev pub Keeps : AddressSpace → Wanted → Position → Window → Type 0
Keeps memory wanted position window = AreBytesFrom (in_space memory wanted.space) position.at (kept_bytes window)

-- the first of the hits that were left was found, or none was passed
abbrev pub Passes : AddressSpace → Wanted → Position → Position → Option Hit → Type 0
Passes memory wanted old new None = hits_behind memory wanted old ≡ hits_behind memory wanted new
Passes memory wanted old new (Some hit) = hits_behind memory wanted old ≡ hit ∷ hits_behind memory wanted new
