-- What a script is run over.
use Rattle.std.specs.Prelude.{ℕ, List, [], Result, Ok, Err}
use Rattle.layer_base.specs.AddressSpace.{AddressSpace}
use Rattle.layer_base.specs.View.{View, physical}
use Rattle.isf_reader.specs.Table.{IsfTable, table_of}
use Rattle.isf_reader.specs.declared.refusal.IsfRefusal.{IsfRefusal}

-- the physical memory of an image, and the table of a symbol file
pub record Evidence : Type 0 where
  pub memory : AddressSpace
  pub table : IsfTable

abbrev pub evidence_at : AddressSpace → IsfTable → Evidence
evidence_at memory table = record { memory = memory; table = table }

abbrev pub evidence_in : View → IsfTable → Evidence
evidence_in view table = evidence_at (physical view) table

-- a refused symbol file has no entries
abbrev pub table_in : Result IsfTable IsfRefusal → IsfTable
table_in (Ok table) = table
table_in (Err refusal) = record { bases = []; enums = []; users = []; symbols = [] }

abbrev pub evidence_over : AddressSpace → List ℕ → Evidence
evidence_over memory symbols = evidence_at memory (table_in (table_of symbols))
