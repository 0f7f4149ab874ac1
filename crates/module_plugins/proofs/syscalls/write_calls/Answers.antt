use Rattle.std.proofs.Common.{◌≡◌, ℕ, List, ◌++◌, subst, codes, ap, ◌∙◌}
use Rattle.layer_base.specs.AddressSpace.{AddressSpace}
use Rattle.kernel_records.specs.declared.fault.PluginFault.TheVariants.{Device, Out}
use Rattle.space_memory.specs.InSpace.{in_space}
use Rattle.space_memory.specs.Writer.{WritesOver}
use Rattle.symbol_index.specs.Index.{held}
use Rattle.typed_object.specs.Ground.{kernel_memory}
use Rattle.walk_text.specs.Added.{end_line}
use Rattle.word_table.specs.Kept.{words_left}
use Rattle.word_table.specs.Rows.{rows_from}
use Rattle.word_table.specs.Table.{words_of, table_stop}
use Rattle.module_plugins.specs.Syscalls.{call_row, call_table}
use Rattle.module_plugins.proofs.syscalls.write_calls.Goals as goal

pub returns : goal.returns
returns g c =
    let words : (memory : AddressSpace) → words_left (in_space memory c.new.result.space) c.new.result ≡ words_of (kernel_memory memory c.args.ground.kernel) (call_table c.args.ground.table.now c.args.ground.kernel (held c.args.symbol)) =
    λ memory. ap (λ space. words_left (in_space memory space) c.new.result) (c.new.ensures.space ∙ c.space.ensures) ∙ c.new.ensures.words (kernel_memory memory c.args.ground.kernel) ∙ ap (words_of (kernel_memory memory c.args.ground.kernel)) c.call_table.ensures in
    record {
      writes =
          subst (λ (text_of : AddressSpace → List ℕ). WritesOver g.O.Sink.written g.O.Sink.faults c.args.out.now c.write_lines.new.out c.args.memory.now c.write_lines.new.memory Device Out c.write_lines.result text_of)
          (λ i memory. codes "INDEX\tHANDLER\tSYMBOL\n" ++ (rows_from (call_row c.args.ground.table.now c.args.ground.kernel) (c.new.ensures.index i) (words memory i) ++ end_line (table_stop ((c.new.ensures.table ∙ c.call_table.ensures) i))))
          c.write_lines.ensures.writes;
    }
