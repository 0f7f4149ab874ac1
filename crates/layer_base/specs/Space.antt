-- Bits of a root, or of an entry of a table, that say where a block is.
use Rattle.std.specs.Prelude.{ℕ, ◌*◌, ◌^◌, ◌/◌, ◌%◌}

-- The physical address of a block of a size in a root or an entry: the bits below bit 52, and zeros where they are
-- within the block.
abbrev pub frame_of : ℕ → ℕ → ℕ
frame_of size n = n % 2 ^ 52 / size * size

-- the address of a page: bits 51 to 12
abbrev pub page_address : ℕ → ℕ
page_address n = frame_of (2 ^ 12) n
