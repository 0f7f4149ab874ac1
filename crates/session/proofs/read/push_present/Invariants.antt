use Rattle.std.proofs.Common.{◌≡◌, ◌+◌, ◌++◌, map, take, Some}
use Rattle.std.specs.Prelude.{vec_len, vec_capacity}
use Rattle.session.proofs.read.push_present.Given as goal

abbrev pub invariant-loop-byte : goal.invariant-loop-byte
invariant-loop-byte l = record {
  items : l.cells.items ≡ l.fn.cells.items ++ map Some (take l.byte-index l.bytes);
  count : vec_len l.cells ≡ vec_len l.fn.cells + l.byte-index;
  capacity : vec_capacity l.cells ≡ vec_capacity l.fn.cells;
}
