use Rattle.std.proofs.Common.{◌≡◌, leb, true, false, arith, rules}
use Rattle.std.proofs.lemmas.Bool.Decides.{nat_tests}
use Rattle.std.proofs.lemmas.List.Sorted.{IsPartitionPoint-from_clause, IsPartitionedBy-leb}
use Rattle.std.specs.List.Sorted.{IsPartitionPoint}
use Rattle.layer_base.proofs.Ranges.{first-rises}
use Rattle.layer_base.proofs.segments.rising.count_begun.Goals as goal

point : (c : goal.After-partition_point) → IsPartitionPoint (λ s. leb s.first c.args.at ≡ true) (λ s. leb s.first c.args.at ≡ false) c.args.segments.now c.partition_point.result
point c =
    IsPartitionPoint-from_clause (λ s. leb s.first c.args.at) c.args.segments.now c.partition_point.result c.partition_point.ensures.partitioned
    (IsPartitionedBy-leb (λ s. s.first) c.args.segments.now c.args.at (first-rises c.args.segments.now c.requires))
    (λ a r f called. search rules)

pub returns-clause-begun : goal.returns-clause-begun
returns-clause-begun c = λ k d low below. let test = (point c).0 k d low below in grind (arith, nat_tests)

pub returns-clause-later : goal.returns-clause-later
returns-clause-later c = λ k d low below. let test = (point c).1 k d low below in grind (arith, nat_tests)
