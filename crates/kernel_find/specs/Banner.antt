-- The banner of the kernel that a symbol file is for.
use Rattle.std.specs.Prelude.{ℕ, ◌-◌, ◌^◌, Bool, true, false, ◌==◌, List, [], ◌∷◌, take, codes, Option, None, Some, option_and_then}
use Rattle.std.specs.List.{before_first}
use Rattle.layer_base.specs.AddressSpace.{AddressSpace}
use Rattle.isf_reader.specs.Depth.{entry_named}
use Rattle.isf_reader.specs.Table.{IsfTable}
use Rattle.isf_reader.specs.declared.symbol.Symbol.{Symbol}
use Rattle.needle_search.specs.declared.hit.Hit.{Hit}
use Rattle.chunk_scanner.specs.Hits.{hits}

-- the constant data of a symbol
abbrev pub constant_of : Option Symbol → Option (List ℕ)
constant_of symbol = option_and_then (λ symbol. symbol.constant) symbol

abbrev pub is_zero : ℕ → Bool
is_zero byte = byte == 0

-- the bytes of data before the first zero byte, and at most 4,096 of them; none where there are no data
abbrev pub text_of : Option (List ℕ) → List ℕ
text_of None = []
text_of (Some bytes) = take 4096 (before_first is_zero bytes)

-- the text of the constant data of `linux_banner`
unfoldable pub banner : IsfTable → List ℕ
banner table = text_of (constant_of (entry_named (codes "linux_banner") table.symbols))

-- all hits of needles in a memory
unfoldable pub all_hits : AddressSpace → List (List ℕ) → List Hit
all_hits memory needles = hits memory 0 (2 ^ 64 - 1) needles

abbrev pub is_some_hit : List Hit → Bool
is_some_hit [] = false
is_some_hit (hit ∷ found) = true

-- a banner occurs in a memory; one without bytes is not looked for
abbrev pub banner_occurs : AddressSpace → List ℕ → Bool
banner_occurs memory [] = true
banner_occurs memory (byte ∷ bytes) = is_some_hit (all_hits memory ((byte ∷ bytes) ∷ []))
