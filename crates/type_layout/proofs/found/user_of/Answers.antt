use Rattle.std.specs.List.{AllByRecursion}
use Rattle.isf_reader.specs.Table.{IsNear}
use Rattle.type_layout.proofs.Entries.{kept_behind}
use Rattle.type_layout.proofs.found.user_of.Goals as goal

pub returns-clause-near : goal.returns-clause-near
returns-clause-near c =
    kept_behind (λ user. AllByRecursion IsNear user.fields) c.args.name.now c.args.table.now.users c.user.result c.user.ensures.value c.user.ensures.kept.offsets
