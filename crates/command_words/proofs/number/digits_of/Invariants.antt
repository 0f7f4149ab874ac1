use Rattle.std.proofs.Common.{◌≡◌, ◌<◌, ◌^◌, drop}
use Rattle.command_words.specs.Number.{digits_of}
use Rattle.command_words.proofs.Numbers.{digits_after}
use Rattle.command_words.proofs.number.digits_of.Given as goal

-- what is left, behind the value so far, gives the value of all
abbrev pub invariant-loop-byte : goal.invariant-loop-byte
invariant-loop-byte l = record {
  so_far : digits_after l.base l.value (drop l.byte-index l.word) ≡ digits_of l.base l.word;
  small : l.value < 2 ^ 64;
}
