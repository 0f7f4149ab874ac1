-- A table of words, each of eight bytes, which stand one behind the other.
use Rattle.std.specs.Prelude.{ℕ, ◌+◌, ◌-◌, ◌*◌, ◌/◌, ◌^◌, min, nat_lt, if◌then◌else◌, List, Option}
use Rattle.layer_base.specs.AddressSpace.{AddressSpace}
use Rattle.kernel_records.specs.declared.stop.Stop.{Stop}
use Rattle.kernel_records.specs.declared.stop.Stop.TheVariants.{End, Outside, Limit}
use Rattle.word_table.specs.Words.{words_from}
use Rattle.word_table.specs.declared.table.WordTable.{WordTable}

-- where the word of an index stands
abbrev pub slot_address : WordTable → ℕ → ℕ
slot_address table index = table.base + 8 * index

-- a table has so many words, of which at most as many as its limit are wanted
abbrev pub wanted : WordTable → ℕ
wanted table = min table.count table.limit

-- those are listed that end at the last address at most
abbrev pub listed : WordTable → ℕ
listed table = min (wanted table) ((2 ^ 64 - table.base) / 8)

-- why a table ends before the word of an index that has no room: its address, or where that is none, the one before it
abbrev pub outside : WordTable → ℕ → Stop
outside table index = if nat_lt (slot_address table index) (2 ^ 64) then Outside (slot_address table index) else Outside (slot_address table (index - 1))

-- why it ends behind all that are wanted
abbrev pub end_of : WordTable → Stop
end_of table = if nat_lt table.limit table.count then Limit table.limit else End

-- why it ends behind the words that are listed
abbrev pub table_stop : WordTable → Stop
table_stop table = if nat_lt (listed table) (wanted table) then outside table (listed table) else end_of table

-- the words that are listed, over the memory of their space
unfoldable pub words_of : AddressSpace → WordTable → List (Option ℕ)
words_of memory table = words_from memory table.base (listed table)
