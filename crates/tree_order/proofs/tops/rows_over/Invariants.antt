use Rattle.std.proofs.Common.{◌≡◌, ◌<◌, ℕ, length}
use Rattle.tree_order.specs.Climbs.{entry}
use Rattle.tree_order.specs.Tops.{over}
use Rattle.tree_order.proofs.tops.rows_over.Given as goal

abbrev pub invariant-loop-row : goal.invariant-loop-row
invariant-loop-row l = record {
  count : length l.rows.items ≡ l.row;
  each : (row : ℕ) → row < l.row → entry l.rows.items row ≡ over (entry l.up) (length l.up) row;
}
