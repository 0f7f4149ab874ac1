use Rattle.std.proofs.Common.{◌≡◌, ℤ, take}
use Rattle.std.specs.BTreeMap.{get}
use Rattle.tree_order.specs.Parents.{key_cmp, row_of, sign_and_size}
use Rattle.tree_order.proofs.parents.first_rows.Given as goal

-- the first rows of the keys so far
abbrev pub invariant-loop-row : goal.invariant-loop-row
invariant-loop-row l = (pid : ℤ) → get key_cmp l.rows (sign_and_size pid) ≡ row_of (take l.row l.keys) pid
