-- What a symbol file has of what commands need.
use Rattle.std.specs.Prelude.{ℕ, Bool, not, List, codes, find, Option, None, Some, is_some, option_map}
use Rattle.std.specs.Option.{option_or}
use Rattle.std.specs.Result.{result_ok}
use Rattle.isf_reader.specs.Depth.{entry_named}
use Rattle.isf_reader.specs.Table.{IsfTable}
use Rattle.kernel_records.specs.Meaning.{Meant, Symbol, RootSymbol, Member, meaning}
use Rattle.kernel_records.specs.declared.need.Need.{Need}
use Rattle.type_layout.specs.Member.{Spot, member_named}

-- the address of the symbol of a name
abbrev pub symbol_address : IsfTable → List ℕ → Option ℕ
symbol_address table name = option_map (λ symbol. symbol.address) (entry_named name table.symbols)

-- the address of the root of the kernel's page tables: that of the first of three symbols that the table has
abbrev pub root_address : IsfTable → Option ℕ
root_address table = option_or (symbol_address table (codes "init_top_pgt")) (option_or (symbol_address table (codes "init_level4_pgt")) (symbol_address table (codes "swapper_pg_dir")))

-- the member of a user type; a type that is missing has none
abbrev pub member_of_type : IsfTable → List ℕ → List ℕ → Option Spot
member_of_type table user name = result_ok (member_named table user name)

-- the member that is meant; a symbol is none
abbrev pub member_meant : IsfTable → Meant → Option Spot
member_meant table (Symbol name) = None
member_meant table RootSymbol = None
member_meant table (Member user name) = member_of_type table user name

-- the member that a need asks for
abbrev pub needed_member : IsfTable → Need → Option Spot
needed_member table need = member_meant table (meaning need)

-- whether a table has what is meant
abbrev pub has_meant : IsfTable → Meant → Bool
has_meant table (Symbol name) = is_some (symbol_address table name)
has_meant table RootSymbol = is_some (root_address table)
has_meant table (Member user name) = is_some (member_of_type table user name)

-- whether a table has what a need asks for
abbrev pub is_met : IsfTable → Need → Bool
is_met table need = has_meant table (meaning need)

-- the first need that a table does not meet
abbrev pub first_missing : IsfTable → List Need → Option Need
first_missing table needs = find (λ need. not (is_met table need)) needs
