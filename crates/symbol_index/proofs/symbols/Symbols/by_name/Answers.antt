use Rattle.std.proofs.Common.{◌≡◌, Option, Some, None, option_map, refl, List, ℕ}
use Rattle.isf_reader.specs.declared.symbol.Symbol.{Symbol}
use Rattle.symbol_index.specs.Index.{told}
use Rattle.symbol_index.proofs.Telling.{told_listed}
use Rattle.symbol_index.proofs.symbols.Symbols.by_name.Goals as goal

named : (name : List ℕ) (symbol : Option Symbol) → option_map told (option_map (λ s. (name, s)) symbol) ≡ option_map (λ s. told (name, s)) symbol
named name None = refl
named name (Some symbol) = refl

pub returns : goal.returns
returns c = rw (c.entry_of.ensures, told_listed c.symbol_named.result, c.symbol_named.ensures, c.deref.ensures.value, ← c.self.view_is) (named c.args.name.now _)
