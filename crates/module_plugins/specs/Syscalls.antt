-- What the command `check_syscall` prints.
use Rattle.std.specs.Prelude.{ℕ, ◌-◌, ◌/◌, nat_lt, if◌then◌else◌, List, [], ◌++◌, codes, decimal, Option, None, Some}
use Rattle.layer_base.specs.AddressSpace.{AddressSpace}
use Rattle.kernel_records.specs.Groups.{syscall_needs}
use Rattle.kernel_records.specs.Need.{need_text}
use Rattle.kernel_records.specs.Shift.{shifted, unshifted}
use Rattle.kernel_records.specs.declared.kernel.Kernel.{Kernel}
use Rattle.kernel_records.specs.declared.need.Need.TheVariants.{SysCallTable}
use Rattle.isf_reader.specs.Table.{IsfTable}
use Rattle.isf_reader.specs.declared.type_ref.TypeRef.{TypeRef, out-TypeRef}
use Rattle.isf_reader.specs.declared.type_ref.TypeRef.TheOpen.{TypeRef-F}
use Rattle.symbol_index.specs.Index.{Told, by_name, at_address, next_after}
use Rattle.typed_object.specs.Ground.{kernel_memory}
use Rattle.typed_object.specs.Needs.{first_missing}
use Rattle.cell_text.specs.ErrorLine.{unless_missing}
use Rattle.cell_text.specs.OptionalCell.{optional_address_cell}
use Rattle.cell_text.specs.TextCell.{text_cell}
use Rattle.walk_text.specs.Added.{end_line}
use Rattle.word_table.specs.Rows.{rows_from}
use Rattle.word_table.specs.Table.{words_of, table_stop}
use Rattle.word_table.specs.declared.table.WordTable.{WordTable}

-- how many elements a type has, which is an array
abbrev pub elements_in : TypeRef-F TypeRef → ℕ
elements_in (TypeRef-F.Array count of) = count
elements_in other = 0

abbrev pub elements : Option TypeRef → ℕ
elements None = 0
elements (Some of) = elements_in (out-TypeRef of)

-- how many words of eight bytes there are from an address to the next symbol
abbrev pub words_before : ℕ → Option ℕ → ℕ
words_before address None = 0
words_before address (Some next) = (next - address) / 8

-- the elements of a symbol's type, or where it has none, the words before the next symbol
abbrev pub word_count : IsfTable → Told → ℕ
word_count table symbol = if nat_lt 0 (elements symbol.of) then elements symbol.of else words_before symbol.address (next_after symbol.address table.symbols)

-- the table of system calls, of which at most 4,096 words are listed
abbrev pub call_table : IsfTable → Kernel → Told → WordTable
call_table table kernel symbol = record { base = shifted kernel symbol.address; count = word_count table symbol; limit = 4096 }

-- the name of a symbol, or that none is known
abbrev pub known_name : Option Told → List ℕ
known_name None = codes "UNKNOWN"
known_name (Some symbol) = text_cell symbol.name

-- the first name of the symbol that a handler's address is in the symbol file
abbrev pub handler_name : IsfTable → Kernel → Option ℕ → List ℕ
handler_name table kernel None = codes "-"
handler_name table kernel (Some handler) = known_name (at_address (unshifted kernel handler) table.symbols)

-- the index of a system call, the address of its handler and the handler's name, on a line
abbrev pub call_row : IsfTable → Kernel → ℕ → Option ℕ → List ℕ
call_row table kernel index handler =
    decimal index ++ codes "\t" ++ optional_address_cell handler ++ codes "\t" ++ handler_name table kernel handler ++ codes "\n"

-- a line of the names of the columns, a row for each word of a table, and why it ended
abbrev pub calls_text : AddressSpace → IsfTable → Kernel → WordTable → List ℕ
calls_text memory table kernel calls = codes "INDEX\tHANDLER\tSYMBOL\n" ++ rows_from (call_row table kernel) 0 (words_of memory calls) ++ end_line (table_stop calls)

-- the table that a symbol is; without the symbol there is nothing to print
abbrev pub symbol_calls : AddressSpace → IsfTable → Kernel → Option Told → List ℕ
symbol_calls memory table kernel None = []
symbol_calls memory table kernel (Some symbol) = calls_text memory table kernel (call_table table kernel symbol)

-- the line of the first missing name, else the system calls of a kernel in a physical memory
unfoldable pub check_syscall_text : AddressSpace → IsfTable → Kernel → List ℕ
check_syscall_text memory table kernel = unless_missing (first_missing table syscall_needs) (symbol_calls (kernel_memory memory kernel) table kernel (by_name (need_text SysCallTable) table.symbols))
