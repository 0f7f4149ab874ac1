use Rattle.std.proofs.Common.{◌≡◌, []}
use Rattle.serde_json.specs.View.{members_view}
use Rattle.isf_reader.specs.UserTypes.{fields_onto}
use Rattle.isf_reader.proofs.user_type.placed_in.Given as goal

abbrev pub invariant-loop-name : goal.invariant-loop-name
invariant-loop-name l = fields_onto l.found.entries (members_view l.name-iterator) ≡ fields_onto [] (members_view l.fn.members.entries)
