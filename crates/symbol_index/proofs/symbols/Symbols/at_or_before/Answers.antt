use Rattle.symbol_index.proofs.Telling.{tells_before}
use Rattle.symbol_index.proofs.symbols.Symbols.at_or_before.Goals as goal

pub returns : goal.returns
returns c = rw (c.entry_of.ensures, c.first_at_nearest.ensures, c.deref.ensures.value, ← c.self.view_is) (tells_before c.self.inside.by_name.items c.self.inside.by_address.items c.self.invariant.same c.args.address)
