use Rattle.std.proofs.Common.{◌≡◌, ℕ, ◌*◌, ◌-◌, ◌≤◌, ◌⊎◌, ◌++◌, length, take}
use Rattle.hex_text.specs.DumpRow.{dump_text}
use Rattle.hex_text.proofs.rows.append_rows.Given as goal

-- whole rows were appended, or all
abbrev pub invariant-loop-start : goal.invariant-loop-start
invariant-loop-start l = record {
  appended : l.text.items ≡ l.fn.text.items ++ dump_text l.at (take l.start l.cells);
  whole : ((rows : ℕ) × (l.start ≡ 16 * rows)) ⊎ (l.start ≡ length l.cells);
  within : l.start ≤ length l.cells;
}

abbrev pub decreases-loop-start : goal.decreases-loop-start
decreases-loop-start l = length l.cells - l.start
