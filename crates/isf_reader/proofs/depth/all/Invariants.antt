use Rattle.std.proofs.Common.{◌≡◌, map, take}
use Rattle.isf_reader.proofs.depth.all.Given as goal

abbrev pub invariant-loop-entry : goal.invariant-loop-entry
invariant-loop-entry l = map (λ entry. entry.now) l.types.items ≡ take l.entry-index l.users
