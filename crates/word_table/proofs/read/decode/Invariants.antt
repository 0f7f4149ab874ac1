use Rattle.std.proofs.Common.{◌≡◌, ℕ, Some, length, map, take}
use Rattle.layer_base.specs.AddressSpace.{AddressSpace, bytes_from}
use Rattle.word_table.specs.Words.{words_from}
use Rattle.word_table.proofs.read.decode.Given as goal

-- the words so far stand in front
abbrev pub invariant-loop-index : goal.invariant-loop-index
invariant-loop-index l = (memory : AddressSpace) (at : ℕ) → bytes_from memory at (length l.bytes) ≡ map Some l.bytes → words_from memory at l.index ≡ take l.index l.buf
