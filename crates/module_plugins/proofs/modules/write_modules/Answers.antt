use Rattle.std.proofs.Common.{ℕ, List, ◌++◌, subst, codes}
use Rattle.layer_base.specs.AddressSpace.{AddressSpace}
use Rattle.kernel_records.specs.declared.fault.PluginFault.TheVariants.{Device, Out}
use Rattle.space_memory.specs.InSpace.{in_space}
use Rattle.space_memory.specs.Writer.{WritesOver}
use Rattle.walk_text.specs.WalkText.{walk_text}
use Rattle.module_plugins.specs.Modules.{module_row}
use Rattle.module_plugins.proofs.modules.write_modules.Goals as goal

pub returns : goal.returns
returns g c = record {
  writes =
      subst (λ (text_of : AddressSpace → List ℕ). WritesOver g.O.Sink.written g.O.Sink.faults c.args.out.now c.write_walk.new.out c.args.memory.now c.write_walk.new.memory Device Out c.write_walk.result text_of)
      (λ i memory. codes "OFFSET\tNAME\tSIZE\n" ++ walk_text (module_row (in_space memory (c.objects.ensures.space i)) (c.objects.ensures.table i) (record { name = c.needed_member.ensures.place i; size = c.size_places.ensures i })) (in_space memory (c.module_walk-walk.ensures i).space) (c.module_walk-walk.ensures i))
      c.write_walk.ensures.writes;
}
