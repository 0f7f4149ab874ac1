use Rattle.std.proofs.Common.{rules, ◌≡◌, ℕ, List, ◌++◌, subst, ◌∙◌}
use Rattle.layer_base.specs.AddressSpace.{AddressSpace}
use Rattle.kernel_records.specs.declared.fault.PluginFault.TheVariants.{Device, Out}
use Rattle.space_memory.specs.InSpace.{in_space}
use Rattle.space_memory.specs.Writer.{WritesOver}
use Rattle.typed_object.specs.Ground.{kernel_memory}
use Rattle.vma_walk.specs.Area.{area_at}
use Rattle.walk_text.specs.Added.{end_line}
use Rattle.walk_text.specs.WalkText.{walk_text}
use Rattle.map_plugins.specs.Maps.{head}
use Rattle.map_plugins.specs.Row.{area_row}
use Rattle.map_plugins.proofs.Chain.{walk-areas, no-areas}
use Rattle.map_plugins.proofs.Whole.{WritesOver-whole}
use Rattle.map_plugins.proofs.areas.write_areas.Goals as goal

pub returns-in-Ok : goal.returns-in-Ok
returns-in-Ok g c =
    let walk = c.in-Ok.walk in
    record {
      writes =
          subst (λ (text_of : AddressSpace → List ℕ). WritesOver g.O.Sink.written g.O.Sink.faults c.args.out.now c.write_walk.new.out c.args.memory.now c.write_walk.new.memory Device Out c.write_walk.result text_of)
          ((λ i memory. c.head.ensures i ++ walk_text (λ at. area_row (kernel_memory memory (c.of-in-Ok.ensures.kernel i)) (c.of-in-Ok.ensures.table i) (c.of-in-Ok.ensures.kernel i) (area_at (in_space memory (c.of.ensures.space i)) (c.of.ensures.table i) (c.of.ensures.members i) at)) (in_space memory (c.in-Ok.ensures.space i)) walk)
          ∙ (λ i memory. walk-areas memory c.args.ground.table.now c.args.ground.kernel c.args.mm walk c.in-Ok.ensures.walk i))
          c.write_walk.ensures.writes;
    }

pub returns-in_err-write_whole-in-Err : goal.returns-in_err-write_whole-in-Err
returns-in_err-write_whole-in-Err g c =
    let known : WritesOver g.O.Sink.written g.O.Sink.faults c.args.out.now c.write_whole.new.out c.args.memory.now c.args.memory.now Device Out c.from_residual-in_err-write_whole-in-Err.result (λ memory. head ++ end_line c.in-Err.stop) = search rules in
    record {
      writes =
          subst (λ (text_of : AddressSpace → List ℕ). WritesOver g.O.Sink.written g.O.Sink.faults c.args.out.now c.write_whole.new.out c.args.memory.now c.args.memory.now Device Out c.from_residual-in_err-write_whole-in-Err.result text_of)
          (λ i memory. no-areas memory c.args.ground.table.now c.args.ground.kernel c.args.mm c.in-Err.stop c.in-Err.ensures.walk i)
          known;
    }

pub returns-in_ok-write_whole-in-Err : goal.returns-in_ok-write_whole-in-Err
returns-in_ok-write_whole-in-Err g c = record {
  writes = WritesOver-whole g.O.Sink.written g.O.Sink.faults c.args.out.now c.write_whole.new.out c.args.memory.now Device Out (tt {0}) c.deref.result.now _
      c.in_ok-write_whole-in-Err.ensures.bytes
      (λ memory. c.deref.ensures.value ∙ c.in_ok-no_areas-in-Err.ensures ∙ no-areas memory c.args.ground.table.now c.args.ground.kernel c.args.mm c.in-Err.stop c.in-Err.ensures.walk)
      c.write_whole.ensures.cause.kept;
}
