-- Numbers in memory.
use Rattle.std.specs.Prelude.{ℕ, ◌%◌, ◌^◌}
use Rattle.std.specs.Int.{cast_unsigned, w128}
use Rattle.layer_base.specs.declared.number.Number.{Number}
use Rattle.layer_base.specs.declared.number.Number.TheVariants.{Unsigned, Signed}

-- the low 64 bits of a number, those of two's complement where it is signed
abbrev pub low_word : Number → ℕ
low_word (Unsigned n) = n % 2 ^ 64
low_word (Signed z) = cast_unsigned w128 z % 2 ^ 64
