use Rattle.std.proofs.Common.{◌≡◌, []}
use Rattle.serde_json.specs.View.{members_view}
use Rattle.isf_reader.specs.Enums.{values_onto}
use Rattle.isf_reader.proofs.enum_type.values_in.Given as goal

abbrev pub invariant-loop-name : goal.invariant-loop-name
invariant-loop-name l = values_onto l.found.keys (members_view l.name-iterator) ≡ values_onto [] (members_view l.fn.members.entries)
