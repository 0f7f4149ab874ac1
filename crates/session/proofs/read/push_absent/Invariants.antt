use Rattle.std.proofs.Common.{◌≡◌, ◌+◌, ◌++◌, replicate, None}
use Rattle.std.specs.Prelude.{vec_len, vec_capacity}
use Rattle.session.proofs.read.push_absent.Given as goal

abbrev pub invariant-loop : goal.invariant-loop
invariant-loop l = record {
  items : l.cells.items ≡ l.fn.cells.items ++ replicate l.counter None;
  count : vec_len l.cells ≡ vec_len l.fn.cells + l.counter;
  capacity : vec_capacity l.cells ≡ vec_capacity l.fn.cells;
}
