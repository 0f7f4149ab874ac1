use Rattle.std.proofs.Common.{◌≡◌, ◌++◌, map}
use Rattle.isf_reader.specs.UserTypes.{field_at}
use Rattle.isf_reader.proofs.user_type.fields_from.Given as goal

abbrev pub invariant-loop-offset : goal.invariant-loop-offset
invariant-loop-offset l = l.fields ++ map field_at l.offset-iterator ≡ map field_at l.fn.found.entries
