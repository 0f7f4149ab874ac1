use Rattle.symbol_index.proofs.symbols.Symbols.of.Goals as goal

pub invariant_of-result : goal.invariant_of-result
invariant_of-result c = record {
  by_name = c.in_ok-by_name.ensures.order;
  by_address = c.in_ok-by_address.ensures.order;
  same = rw (← c.deref.ensures.value) c.in_ok-by_address.ensures.same;
}
