-- Bytes of which pieces are written over.
use Rattle.std.specs.Prelude.{ℕ, ◌+◌, List, ◌++◌, length, take, drop, replicate, fold}
use Rattle.byteorder.specs.Endian.{little_bytes}

-- so many zero bytes
unfoldable pub zeros : ℕ → List ℕ
zeros size = replicate size 0

-- a number in eight bytes
unfoldable pub word : ℕ → List ℕ
word number = little_bytes 8 number

-- a number in four bytes
unfoldable pub half : ℕ → List ℕ
half number = little_bytes 4 number

-- bytes with a piece in place of those that stood at an offset
abbrev pub written_at : ℕ → List ℕ → List ℕ → List ℕ
written_at offset piece bytes = take offset bytes ++ (piece ++ drop (offset + length piece) bytes)

-- bytes with pieces at their offsets, written one after the other
unfoldable pub written : List (ℕ × List ℕ) → List ℕ → List ℕ
written pieces bytes = fold (λ bytes piece. written_at piece.0 piece.1 bytes) bytes pieces
