use Rattle.std.proofs.Common.{◌≡◌, drop}
use Rattle.isf_reader.specs.Depth.{entry_named}
use Rattle.kernel_find.proofs.banner.symbol_named.Given as goal

-- the symbols that were passed have other names
abbrev pub invariant-loop-other : goal.invariant-loop-other
invariant-loop-other l = entry_named l.name l.symbols ≡ entry_named l.name (drop l.other-index l.symbols)
