use Rattle.std.proofs.Common.{◌≡◌, ◌++◌, sym, ap, ◌∙◌}
use Rattle.kernel_records.specs.declared.fault.PluginFault.TheVariants.{Device, Out}
use Rattle.kernel_records.specs.declared.need.Need.TheVariants.{TaskStructMm}
use Rattle.typed_object.specs.Members.{absent_stop}
use Rattle.typed_object.specs.Needs.{needed_member}
use Rattle.walk_text.specs.Added.{end_line}
use Rattle.map_plugins.specs.Maps.{head, descriptor_text}
use Rattle.map_plugins.proofs.Whole.{WritesOver-whole}
use Rattle.map_plugins.proofs.areas.write_descriptor.Goals as goal

pub returns-in_ok-write_whole-in-None : goal.returns-in_ok-write_whole-in-None
returns-in_ok-write_whole-in-None g c =
    let table = c.args.ground.table.now in
    let stop : c.absent_stop-stop.result ≡ absent_stop (needed_member table TaskStructMm) c.args.task =
    c.absent_stop-stop.ensures ∙ ap (λ member. absent_stop member c.args.task) c.needed_member-mm.ensures.place in
    record {
      writes = WritesOver-whole g.O.Sink.written g.O.Sink.faults c.args.out.now c.write_whole.new.out c.args.memory.now Device Out (tt {0}) c.deref.result.now _
          c.in_ok-write_whole-in-None.ensures.bytes
          (λ memory. c.deref.ensures.value ∙ c.in_ok-no_areas-in-None.ensures ∙ ap (λ why. head ++ end_line why) stop ∙ ap (descriptor_text memory table c.args.ground.kernel c.args.task) (sym c.in-None.is))
          c.write_whole.ensures.cause.kept;
    }
