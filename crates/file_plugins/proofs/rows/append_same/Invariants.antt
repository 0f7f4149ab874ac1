use Rattle.std.proofs.Common.{◌≡◌, ℕ, ◌≤◌, List, ◌++◌}
use Rattle.std.specs.Io.{StartsWith}
use Rattle.layer_base.specs.AddressSpace.{AddressSpace}
use Rattle.word_table.specs.Kept.{count_left}
use Rattle.file_plugins.specs.Rows.{lines_left}
use Rattle.file_plugins.proofs.rows.append_same.Given as goal

-- the text and the lines that are left are what they were at first
abbrev pub invariant-same : goal.invariant-same
invariant-same l = record {
  lines : (cells_of : ℕ → List ℕ) (memory : AddressSpace) → cells_of l.file ≡ l.cells → l.text.items ++ lines_left cells_of memory l.slots ≡ l.initial.text.items ++ lines_left cells_of memory l.initial.slots;
  front : StartsWith l.text.items l.initial.text.items;
  left : count_left l.slots ≤ count_left l.initial.slots;
  space : l.slots.space ≡ l.initial.slots.space;
  table : l.slots.table ≡ l.initial.slots.table;
}

abbrev pub decreases-same : goal.decreases-same
decreases-same l = count_left l.slots
