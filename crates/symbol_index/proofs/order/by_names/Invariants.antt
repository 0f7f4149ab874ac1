use Rattle.std.proofs.Common.{◌≡◌, map, take}
use Rattle.symbol_index.specs.Index.{listed}
use Rattle.symbol_index.proofs.order.by_names.Given as goal

-- the symbols so far
abbrev pub invariant-loop-name : goal.invariant-loop-name
invariant-loop-name l = map listed l.symbols.items ≡ take l.name-index l.all
