use Rattle.std.proofs.Common.{◌≡◌, ◌++◌, take}
use Rattle.std.specs.List.{flat_map}
use Rattle.symbol_texts.specs.Layout.{constant_row}
use Rattle.symbol_texts.proofs.layout.append_constants.Given as goal

abbrev pub invariant-loop-constant : goal.invariant-loop-constant
invariant-loop-constant l = l.text.items ≡ l.fn.text.items ++ flat_map constant_row (take l.constant-index l.constants)
