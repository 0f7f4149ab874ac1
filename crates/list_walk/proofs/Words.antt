-- The laws of the word behind an address.
use Rattle.std.proofs.Common.{◌≡◌, ℕ, ◌+◌, ◌-◌, ◌^◌, ◌<◌, ◌≤◌, true, false, Option, Err, refl, ap, arith}
use Rattle.std.specs.Prelude.{nat_lt}
use Rattle.std.proofs.lemmas.Bool.Decides.{nat_tests}
use Rattle.layer_base.specs.AddressSpace.{AddressSpace}
use Rattle.intel_paging.specs.Word.{word}
use Rattle.kernel_records.specs.declared.stop.Stop.TheVariants.{Outside}
use Rattle.list_walk.specs.Turn.{word_or_stop, word_behind}

pub word-outside : (memory : AddressSpace) (at offset : ℕ) → 2 ^ 64 - 8 < at + offset → Err (Outside at) ≡ word_behind memory at offset
unfolding word_behind
word-outside memory at offset past =
    let high : nat_lt (2 ^ 64 - 8) (at + offset) ≡ true = grind (arith, nat_tests) in
    rw high refl

pub word-there : (memory : AddressSpace) (at offset place : ℕ) (found : Option ℕ) → at + offset ≤ 2 ^ 64 - 8 → place ≡ at + offset → found ≡ word memory place → word_or_stop at found ≡ word_behind memory at offset
unfolding word_behind
word-there memory at offset place found fits there is =
    let low : nat_lt (2 ^ 64 - 8) (at + offset) ≡ false = grind (arith, nat_tests) in
    rw (low, ← there) (ap (word_or_stop at) is)
