-- Words one behind the other.
use Rattle.std.specs.Prelude.{ℕ, zero, suc, ◌+◌, List, [], ◌∷◌, Option}
use Rattle.intel_paging.specs.Word.{word}
use Rattle.layer_base.specs.AddressSpace.{AddressSpace}

-- so many words from an address on, each of eight bytes; one is absent where a byte of it is
unfoldable pub words_from : AddressSpace → ℕ → ℕ → List (Option ℕ)
words_from memory at zero = []
words_from memory at (suc n) = word memory at ∷ words_from memory (at + 8) n
