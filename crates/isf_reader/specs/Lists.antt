-- The lists of the four sections, and what contracts see of them.
use Rattle.isf_reader.specs.Table.{IsfTable}
use Rattle.isf_reader.specs.declared.file.Lists.{Lists}

abbrev pub table_view : Lists → IsfTable
table_view lists = record { bases = lists.bases.items; enums = lists.enums.items; users = lists.users.items; symbols = lists.symbols.items }
