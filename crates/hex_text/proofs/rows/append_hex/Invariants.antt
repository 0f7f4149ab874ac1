use Rattle.std.proofs.Common.{◌≡◌, ◌-◌, ◌++◌}
use Rattle.std.specs.Io.{StartsWith}
use Rattle.hex_text.specs.DumpRow.{hex_digits}
use Rattle.hex_text.proofs.rows.append_hex.Given as goal

-- the digits so far and those that are left are all digits
abbrev pub invariant-loop-done : goal.invariant-loop-done
invariant-loop-done l = record {
  digits : l.text.items ++ hex_digits (l.digits - l.done) l.value ≡ l.fn.text.items ++ hex_digits l.digits l.value;
  front : StartsWith l.text.items l.fn.text.items;
}
