use Rattle.std.proofs.Common.{◌++◌, ◌∙◌}
use Rattle.layer_base.proofs.Told.{IfSome-after}
use Rattle.module_plugins.specs.Modules.{module_cells}
use Rattle.module_plugins.proofs.modules.ModuleRowObjectRow.append_row.Goals as goal

pub returns-clause-ok : goal.returns-clause-ok
returns-clause-ok g c =
    IfSome-after c.args.memory.now.view c.text.new.memory.view c.in_ok-name.ensures.memory.same_view c.in_ok-name.ensures.text c.in_ok-size.ensures.size (λ view name size.
    c.in_ok-append_module.ensures.ok ∙ (λ i. c.args.text.now.items ++ module_cells c.args.at ((c.bytes_of.ensures ∙ name) i) (size i)))
