use Rattle.std.proofs.Common.{◌≡◌, ℕ, List, None, Some, subst, ap, ◌∙◌}
use Rattle.layer_base.specs.AddressSpace.{AddressSpace}
use Rattle.kernel_records.specs.Groups.{syscall_needs}
use Rattle.kernel_records.specs.Need.{need_text}
use Rattle.kernel_records.specs.declared.fault.PluginFault.TheVariants.{Device, Out}
use Rattle.kernel_records.specs.declared.need.Need.TheVariants.{SysCallTable}
use Rattle.space_memory.specs.Writer.{WritesOver}
use Rattle.symbol_index.specs.Index.{held, by_name}
use Rattle.typed_object.specs.Ground.{kernel_memory}
use Rattle.typed_object.specs.Needs.{first_missing}
use Rattle.cell_text.specs.ErrorLine.{unless_missing}
use Rattle.module_plugins.specs.Syscalls.{symbol_calls, check_syscall_text}
use Rattle.module_plugins.proofs.syscalls.write_check_syscall.Goals as goal

pub returns-in-Some-by_name : goal.returns-in-Some-by_name
unfolding check_syscall_text
returns-in-Some-by_name g c =
    let missing : None ≡ first_missing c.args.ground.table.now syscall_needs = c.in_default.ensures ∙ ap (first_missing c.args.ground.table.now) c.syscall_needs.ensures in
    let found : Some (held c.in-Some-by_name.symbol) ≡ by_name (need_text SysCallTable) c.args.ground.table.now.symbols =
    c.in-Some-by_name.ensures ∙ (λ i. by_name ((c.as_bytes.ensures.value ∙ c.need_text.ensures) i) (c.args.ground.same i)) in
    record {
      writes =
          subst (λ (text_of : AddressSpace → List ℕ). WritesOver g.O.Sink.written g.O.Sink.faults c.args.out.now c.write_calls.new.out c.args.memory.now c.write_calls.new.memory Device Out c.write_calls.result text_of)
          (λ i memory. unless_missing (missing i) (symbol_calls (kernel_memory memory c.args.ground.kernel) c.args.ground.table.now c.args.ground.kernel (found i)))
          c.write_calls.ensures.writes;
    }
