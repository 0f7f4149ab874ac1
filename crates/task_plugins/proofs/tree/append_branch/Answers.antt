use Rattle.std.proofs.Common.{◌≡◌, ◌++◌, length, Option, OnOk, refl, sym, subst}
use Rattle.std.proofs.lemmas.List.{append-nil}
use Rattle.std.proofs.lemmas.Option.{slice_get_read, slice_get_past}
use Rattle.kernel_records.specs.declared.task.Task.{Task}
use Rattle.task_plugins.specs.Pstree.{row_behind}
use Rattle.task_plugins.proofs.tree.append_branch.Goals as goal

pub returns-in-Some-clause-ok : goal.returns-in-Some-clause-ok
returns-in-Some-clause-ok c =
    let lookup = c.in-Some.ensures.lookup in
    subst (λ (task : Option Task). OnOk c.append_behind.result (c.append_behind.new.text.items ≡ c.args.text.now.items ++ row_behind c.args.branch.depth task))
    (sym (slice_get_read c.args.rows.now (length c.args.rows.now) c.args.branch.row c.in-Some.task.now refl lookup.3.0 lookup.1)) c.append_behind.ensures.ok

pub returns-in-None-clause-ok : goal.returns-in-None-clause-ok
returns-in-None-clause-ok c =
    subst (λ (task : Option Task). c.args.text.now.items ≡ c.args.text.now.items ++ row_behind c.args.branch.depth task)
    (sym (slice_get_past c.args.rows.now c.args.branch.row c.in-None.ensures.lookup.3)) (sym (append-nil c.args.text.now.items))
