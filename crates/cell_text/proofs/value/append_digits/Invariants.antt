use Rattle.std.proofs.Common.{◌≡◌, ◌++◌, take}
use Rattle.std.specs.List.{flat_map}
use Rattle.hex_text.specs.DumpRow.{hex_digits}
use Rattle.cell_text.proofs.value.append_digits.Given as goal

-- the bytes so far were appended
abbrev pub invariant-loop-byte : goal.invariant-loop-byte
invariant-loop-byte l = l.text.items ≡ l.fn.text.items ++ flat_map (hex_digits 2) (take l.byte-index l.bytes)
