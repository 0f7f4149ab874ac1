-- Numbers as whole numbers.
use Rattle.std.specs.Prelude.{ℤ, pos}
use Rattle.layer_base.specs.declared.number.Number.{Number}
use Rattle.layer_base.specs.declared.number.Number.TheVariants.{Unsigned, Signed}

-- a number without regard to how it was read
abbrev pub whole : Number → ℤ
whole (Unsigned n) = pos n
whole (Signed z) = z
