use Rattle.std.proofs.Common.{◌≡◌, length}
use Rattle.tree_order.specs.Climbs.{entry}
use Rattle.tree_order.specs.Family.{IsFamily}
use Rattle.tree_order.proofs.family.family_of.Given as goal

-- the family of the rows so far, with room for all
abbrev pub invariant-loop-place : goal.invariant-loop-place
invariant-loop-place l = record {
  family : IsFamily (entry l.over) l.place-index l.family;
  room : length l.family.last.items ≡ length l.over;
}
