use Rattle.std.proofs.Common.{Some, ◌^◌, ◌<◌}
use Rattle.type_layout.proofs.Entries.{kept_behind}
use Rattle.type_layout.proofs.size.user_size.Goals as goal

pub returns-in-Some-clause-bound : goal.returns-in-Some-clause-bound
returns-in-Some-clause-bound c =
    kept_behind (λ entry. entry.size < 2 ^ 32) c.args.name.now c.args.table.now.users (Some c.in-Some.user) c.in-Some.ensures.value c.in-Some.ensures.kept.user_sizes
