-- Symbols in the order of their addresses.
use Rattle.std.specs.Prelude.{◌≡◌, ℕ, List, filter, map, ◌==◌}
use Rattle.std.specs.List.Sorted.{IsNonDecreasingBy}
use Rattle.isf_reader.specs.Table.{HasNamesInOrder}
use Rattle.symbol_index.specs.Index.{listed}
use Rattle.symbol_index.specs.declared.indexed.IndexedSymbol.{IndexedSymbol}

abbrev pub indexed_address : IndexedSymbol → ℕ
indexed_address indexed = (indexed.symbol.now).address

-- each address has the same symbols, in the same order
pub record AreSameByAddress (xs ys : List IndexedSymbol) : Type 0 where
  pub at : (address : ℕ) → filter (λ indexed. indexed_address indexed == address) ys ≡ filter (λ indexed. indexed_address indexed == address) xs

-- the symbols by their names, and the same by their addresses
pub record IsIndex (names addresses : List IndexedSymbol) : Type 0 where
  pub by_name : HasNamesInOrder (map listed names)
  pub by_address : IsNonDecreasingBy indexed_address addresses
  pub same : AreSameByAddress names addresses
