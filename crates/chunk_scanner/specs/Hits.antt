-- Where needles occur in a memory.
use Rattle.std.specs.Prelude.{ℕ, zero, suc, ◌+◌, ◌-◌, Bool, true, false, ◌==◌, ◌&&◌, nat_le, if◌then◌else◌, List, [], ◌∷◌, ◌++◌, length, slice_index_or, Option, None, Some}
use Rattle.layer_base.specs.AddressSpace.{AddressSpace}
use Rattle.needle_search.specs.declared.hit.Hit.{Hit}

-- a byte that is present and equal
abbrev pub is_byte : ℕ → Option ℕ → Bool
is_byte byte None = false
is_byte byte (Some other) = other == byte

-- each byte of a needle is present and equal, from an address on
unfoldable pub occurs : AddressSpace → ℕ → List ℕ → Bool
occurs memory at [] = true
occurs memory at (byte ∷ bytes) = is_byte byte (memory at) && occurs memory (at + 1) bytes

-- a memory without the bytes behind an address
unfoldable pub up_to : ℕ → AddressSpace → AddressSpace
up_to last memory = λ a. if nat_le a last then memory a else None

-- the hits at an address, of n needles from a number on
unfoldable pub hits_at : AddressSpace → List (List ℕ) → ℕ → ℕ → ℕ → List Hit
hits_at memory needles at number zero = []
hits_at memory needles at number (suc n) =
    if occurs memory at (slice_index_or needles number []) then record { at = at; needle = number } ∷ hits_at memory needles at (number + 1) n
    else hits_at memory needles at (number + 1) n

-- the hits at n addresses from one on; at the first of them, those of the needles from a number on
unfoldable pub hits_from : AddressSpace → List (List ℕ) → ℕ → ℕ → ℕ → List Hit
hits_from memory needles at number zero = []
hits_from memory needles at number (suc n) = hits_at memory needles at number (length needles - number) ++ hits_from memory needles (at + 1) 0 n

-- The hits of needles in the addresses from a first to a last one: all pairs of an address and a needle number where
-- each byte of the needle is present and equal from the address on, and all lie in these addresses. They rise by
-- address, then by needle number, and may overlap.
unfoldable pub hits : AddressSpace → ℕ → ℕ → List (List ℕ) → List Hit
hits memory first last needles = hits_from (up_to last memory) needles first 0 (last + 1 - first)
