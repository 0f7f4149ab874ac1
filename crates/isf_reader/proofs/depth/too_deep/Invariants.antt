use Rattle.std.proofs.Common.{◌≡◌, map}
use Rattle.isf_reader.specs.Depth.{nesting}
use Rattle.isf_reader.proofs.depth.too_deep.Given as goal

abbrev pub invariant-loop-level : goal.invariant-loop-level
invariant-loop-level l = map (λ entry. entry.now) l.types.items ≡ nesting l.users l._level
