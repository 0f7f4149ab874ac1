use Rattle.symbol_index.proofs.Telling.{tells_after}
use Rattle.symbol_index.proofs.symbols.Symbols.next_after.Goals as goal

pub returns : goal.returns
returns c = rw (c.next_after.ensures, c.deref.ensures.value, ← c.self.view_is) (tells_after c.self.inside.by_name.items c.self.inside.by_address.items c.self.invariant.same c.args.address)
