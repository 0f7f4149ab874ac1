use Rattle.std.proofs.Common.{◌≡◌, ◌≤◌, ◌++◌, length, take}
use Rattle.std.specs.Prelude.{reverse}
use Rattle.std.specs.List.{join_with_byte}
use Rattle.path_walk.proofs.ended.append_names.Given as goal

-- what was appended, and the names that are left, are all of them
abbrev pub invariant-loop-left : goal.invariant-loop-left
invariant-loop-left l = record {
  within : l.left ≤ length l.names;
  text : l.text.items ++ join_with_byte 47 (reverse (take l.left l.names)) ≡ l.fn.text.items ++ join_with_byte 47 (reverse l.names);
}

abbrev pub decreases-loop-left : goal.decreases-loop-left
decreases-loop-left l = l.left
