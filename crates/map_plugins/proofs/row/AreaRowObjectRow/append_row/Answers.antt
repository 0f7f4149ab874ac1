use Rattle.std.proofs.Common.{◌++◌, ap, ◌∙◌}
use Rattle.layer_base.specs.View.{physical}
use Rattle.layer_base.proofs.Told.{IfSome-after}
use Rattle.typed_object.specs.Ground.{kernel_memory}
use Rattle.map_plugins.specs.Row.{area_line, area_row}
use Rattle.map_plugins.proofs.row.AreaRowObjectRow.append_row.Goals as goal

pub returns-clause-ok : goal.returns-clause-ok
returns-clause-ok g c =
    let paths = c.args.self.now.paths in
    IfSome-after c.args.memory.now.view c.area_at.new.memory.view c.area_at.ensures.memory.same_view c.in_ok-area.ensures.area c.in_ok-path.ensures.cell (λ view area path.
    c.in_ok-append_area.ensures.ok
    ∙ ap (λ cell. c.args.text.now.items ++ area_line c.in_ok-area.area cell) (c.deref.ensures.value ∙ path)
    ∙ ap (λ found. c.args.text.now.items ++ area_row (kernel_memory (physical view) paths.kernel) paths.table.now paths.kernel found) area)
