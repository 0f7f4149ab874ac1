use Rattle.serde_json.proofs.Views.{view-Object}
use Rattle.isf_reader.proofs.enum_type.constants_of.Goals as goal

pub returns-in-Object : goal.returns-in-Object
returns-in-Object c = rw (c.in-Some.is, c.in-Object.is, view-Object c.in-Object.members) c.constants_in.ensures
