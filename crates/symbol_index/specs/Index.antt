-- What a table of symbols answers. The symbols stand by their names in byte order, each name once.
use Rattle.std.specs.Prelude.{ℕ, List, map, filter, ◌==◌, nat_le, nat_lt, Option, option_map, option_and_then}
use Rattle.std.specs.List.{find, list_all}
use Rattle.std.specs.Option.{option_copied}
use Rattle.isf_reader.specs.Depth.{entry_named}
use Rattle.isf_reader.specs.declared.symbol.Symbol.{Symbol}
use Rattle.isf_reader.specs.declared.type_ref.TypeRef.{TypeRef}
use Rattle.symbol_index.specs.declared.indexed.Entry.{Entry}
use Rattle.symbol_index.specs.declared.indexed.IndexedSymbol.{IndexedSymbol}

-- what is told of a symbol
pub record Told : Type 0 where
  pub address : ℕ
  pub name : List ℕ
  pub of : Option TypeRef

-- a symbol behind its name
abbrev pub Named : Type 0
Named = List ℕ × Symbol

abbrev pub address_of : Named → ℕ
address_of named = (named.1).address

abbrev pub told : Named → Told
told named = record { address = address_of named; name = named.0; of = (named.1).of }

-- what an entry tells
abbrev pub held : Entry → Told
held entry = record { address = entry.address; name = entry.name.now; of = option_copied entry.of }

-- the symbol that the index holds
abbrev pub listed : IndexedSymbol → Named
listed indexed = (indexed.name.now, indexed.symbol.now)

-- the symbol of a name
abbrev pub by_name : List ℕ → List Named → Option Told
by_name name symbols = option_map (λ symbol. told (name, symbol)) (entry_named name symbols)

-- the symbol at an address; ties go to the first name in byte order
abbrev pub at_address : ℕ → List Named → Option Told
at_address address symbols = option_map told (find (λ named. address_of named == address) symbols)

-- the least number of a list
unfoldable pub least : List ℕ → Option ℕ
least ns = find (λ n. list_all (λ m. nat_le n m) ns) ns

-- the greatest number of a list
unfoldable pub greatest : List ℕ → Option ℕ
greatest ns = find (λ n. list_all (λ m. nat_le m n) ns) ns

-- the least greater address
abbrev pub next_after : ℕ → List Named → Option ℕ
next_after address symbols = least (filter (λ other. nat_lt address other) (map address_of symbols))

-- the symbol at the greatest address at or below one; ties go to the first name in byte order
abbrev pub at_or_before : ℕ → List Named → Option Told
at_or_before address symbols = option_and_then (λ nearest. at_address nearest symbols) (greatest (filter (λ other. nat_le other address) (map address_of symbols)))
