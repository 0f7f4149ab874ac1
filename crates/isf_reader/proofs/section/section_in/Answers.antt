use Rattle.serde_json.proofs.Views.{view-Object}
use Rattle.isf_reader.proofs.section.section_in.Goals as goal

pub returns-in-Object : goal.returns-in-Object
returns-in-Object g c = rw (c.in-Object.is, view-Object c.in-Object.members) c.entries_in.ensures
