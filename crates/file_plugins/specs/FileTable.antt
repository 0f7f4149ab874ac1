-- Where the words stand that are the open files of a task.
--
--     task_struct.files     a files_struct
--     files_struct.fdt      a fdtable         max_fds, fd
--
-- The members are read in the order files, fdt, max_fds, fd. The first that is absent is the stop; files or fdt that are 0
-- are the end.
use Rattle.std.specs.Prelude.{◌≡◌, ℕ, ◌==◌, if◌then◌else◌, Result, Ok, Err, ok_or}
use Rattle.layer_base.specs.AddressSpace.{AddressSpace}
use Rattle.isf_reader.specs.Table.{IsfTable}
use Rattle.kernel_records.specs.declared.need.Need.{Need}
use Rattle.kernel_records.specs.declared.need.Need.TheVariants as needs
use Rattle.kernel_records.specs.declared.stop.Stop.{Stop}
use Rattle.kernel_records.specs.declared.stop.Stop.TheVariants as stops
use Rattle.typed_object.specs.Members.{member_word, absent_stop}
use Rattle.typed_object.specs.Needs.{needed_member}
use Rattle.word_table.specs.declared.table.WordTable.{WordTable}
use Rattle.file_plugins.specs.declared.file_table.NoTable.{NoTable}
use Rattle.file_plugins.specs.declared.file_table.NoTable.TheVariants.{Stopped, Device}

-- what follows an answer, unless it is a stop
abbrev pub past : {A B : Type 0} → Result A Stop → (A → Result B Stop) → Result B Stop
past (Ok a) next = next a
past (Err stop) next = Err stop

-- the word of a needed member of the object at an address
abbrev pub present : AddressSpace → IsfTable → Need → ℕ → Result ℕ Stop
present memory table need at = ok_or (member_word memory table (needed_member table need) at) (absent_stop (needed_member table need) at)

-- an address, of which 0 leads nowhere
abbrev pub leading : ℕ → Result ℕ Stop
leading address = if address == 0 then Err stops.End else Ok address

-- the address of the object that a needed member leads to
abbrev pub led_to : AddressSpace → IsfTable → Need → ℕ → Result ℕ Stop
led_to memory table need at = past (present memory table need at) leading

-- so many words from an address on, of which at most 1,048,576 are listed
abbrev pub words_at : ℕ → ℕ → WordTable
words_at count base = record { base = base; count = count; limit = 1048576 }

-- the words of the table of descriptors at an address
abbrev pub described_by : AddressSpace → IsfTable → ℕ → Result WordTable Stop
described_by memory table fdt =
    past (present memory table needs.FdtableMaxFds fdt) (λ count.
    past (present memory table needs.FdtableFd fdt) (λ base.
    Ok (words_at count base)))

-- the words that are the open files of the task at an address of the kernel's memory, or why there are none
unfoldable pub file_table : AddressSpace → IsfTable → ℕ → Result WordTable Stop
file_table memory table task =
    past (led_to memory table needs.TaskStructFiles task) (λ files.
    past (led_to memory table needs.FilesStructFdt files) (λ fdt.
    described_by memory table fdt))

-- a call answers what the definition has, unless a call on the device failed
abbrev pub Finds : {A : Type 0} → Result A Stop → Result A NoTable → Type 0
Finds wanted (Ok a) = wanted ≡ Ok a
Finds wanted (Err (Stopped stop)) = wanted ≡ Err stop
Finds wanted (Err Device) = Unit {0}
