-- The number in the eight bytes from an address on.
use Rattle.std.proofs.Common.{◌≡◌, ℕ, ◌<◌, true, false, List, length, None, Some, refl, arith}
use Rattle.std.specs.Prelude.{nat_lt}
use Rattle.std.proofs.lemmas.Bool.Decides.{nat_tests}
use Rattle.layer_base.specs.AddressSpace.{AddressSpace}
use Rattle.layer_base.specs.Present.{present_from}
use Rattle.byteorder.specs.Endian.{little_number}
use Rattle.intel_paging.specs.Word.{word}

-- fewer than eight bytes are no number
pub word-none : (memory : AddressSpace) (at : ℕ) (bytes : List ℕ) → bytes ≡ present_from memory at 8 → length bytes < 8 → None ≡ word memory at
unfolding word
word-none memory at bytes there few =
    let short : nat_lt (length bytes) 8 ≡ true = grind (arith, nat_tests) in
    rw (← there, short) refl

-- eight bytes are
pub word-some : (memory : AddressSpace) (at : ℕ) (bytes : List ℕ) → bytes ≡ present_from memory at 8 → length bytes ≡ 8 → Some (little_number 8 bytes) ≡ word memory at
unfolding word
word-some memory at bytes there eight =
    let long : nat_lt (length bytes) 8 ≡ false = grind (arith, nat_tests) in
    rw (← there, long) refl
