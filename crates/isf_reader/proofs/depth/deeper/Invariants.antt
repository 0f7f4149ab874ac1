use Rattle.std.proofs.Common.{◌≡◌, map, take, filter}
use Rattle.isf_reader.specs.Depth.{brings_one_of}
use Rattle.isf_reader.proofs.depth.deeper.Given as goal

abbrev pub invariant-loop-entry : goal.invariant-loop-entry
invariant-loop-entry l =
    map (λ entry. entry.now) l.found.items ≡ filter (λ e. brings_one_of (map (λ entry. entry.now) l.types) e.1) (map (λ entry. entry.now) (take l.entry-index l.types))
