use Rattle.std.proofs.Common.{◌≡◌, ◌++◌, map}
use Rattle.isf_reader.specs.Enums.{constant_at}
use Rattle.isf_reader.proofs.enum_type.constants_from.Given as goal

abbrev pub invariant-loop-value : goal.invariant-loop-value
invariant-loop-value l = l.constants ++ map constant_at l.value-iterator ≡ map constant_at l.fn.found.keys
