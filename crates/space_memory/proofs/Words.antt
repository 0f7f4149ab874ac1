-- The number in eight bytes that were read.
use Rattle.std.proofs.Common.{◌≡◌, ℕ, List, length, None, Some, refl, sym, ap, ◌∙◌}
use Rattle.byteorder.specs.Endian.{little_number}
use Rattle.layer_base.specs.AddressSpace.{AddressSpace}
use Rattle.layer_base.specs.Present.{present_from}
use Rattle.layer_base.proofs.Present.{present_from-bytes}
use Rattle.intel_paging.specs.Word.{word}
use Rattle.intel_paging.proofs.Words.{word-none, word-some}
use Rattle.space_memory.specs.Hole.{IsGot}
use Rattle.space_memory.specs.declared.memory.Got.TheVariants.{All, Hole}
use Rattle.space_memory.proofs.Holes.{present_from-fewer}

pub word-all : (memory : AddressSpace) (at : ℕ) (buf : List ℕ) → length buf ≡ 8 → IsGot memory at buf All → (n : ℕ) → n ≡ little_number 8 buf → Some n ≡ word memory at
word-all memory at buf eight got n is = ap (λ number. Some number) is ∙ word-some memory at buf (sym (present_from-bytes memory at 8 buf (rw eight at got.1))) eight

pub word-hole : (memory : AddressSpace) (at : ℕ) (buf : List ℕ) → length buf ≡ 8 → (a : ℕ) → IsGot memory at buf (Hole a) → None ≡ word memory at
word-hole memory at buf eight a got = word-none memory at (present_from memory at 8) refl (present_from-fewer memory at 8 a (rw eight at got.0))
