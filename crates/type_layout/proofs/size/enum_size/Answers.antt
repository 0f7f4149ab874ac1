use Rattle.std.proofs.Common.{Some, ◌^◌, ◌<◌}
use Rattle.type_layout.proofs.Entries.{kept_behind}
use Rattle.type_layout.proofs.size.enum_size.Goals as goal

pub returns-in-Some-clause-bound : goal.returns-in-Some-clause-bound
returns-in-Some-clause-bound c =
    kept_behind (λ entry. entry.size < 2 ^ 32) c.args.name.now c.args.table.now.enums (Some c.in-Some.enumeration) c.in-Some.ensures.value c.in-Some.ensures.kept.enum_sizes
