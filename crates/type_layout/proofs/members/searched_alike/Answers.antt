use Rattle.type_layout.proofs.Depths as depths
use Rattle.type_layout.proofs.members.searched_alike.Goals as goal

pub returns : goal.returns
returns c = depths.searched_alike c.args.table.now c.args.name.now c.symbols-symbols.ensures.kept
