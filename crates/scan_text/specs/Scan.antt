-- What the command `scan` prints.
use Rattle.std.specs.Prelude.{ℕ, ◌+◌, ◌-◌, List, [], ◌∷◌, ◌++◌, length, codes}
use Rattle.std.specs.Fmt.{decimal}
use Rattle.std.specs.List.{flat_map}
use Rattle.layer_base.specs.AddressSpace.{AddressSpace}
use Rattle.needle_search.specs.declared.hit.Hit.{Hit}
use Rattle.chunk_scanner.specs.Hits.{hits}
use Rattle.hex_text.specs.DumpRow.{address_cell}

-- the address of a hit, on a line
abbrev pub address_row : ℕ → List ℕ
address_row at = address_cell at ++ codes "\n"

-- how many hits there are, on a line
abbrev pub count_row : ℕ → List ℕ
count_row count = codes "hits " ++ decimal count ++ codes "\n"

-- a line for each hit, and how many there are
abbrev pub hits_text : List Hit → List ℕ
hits_text found = flat_map (λ hit. address_row hit.at) found ++ count_row (length found)

-- the hits of one needle among so many addresses from a first one on
unfoldable pub scan_text : AddressSpace → ℕ → ℕ → List ℕ → List ℕ
scan_text memory first len needle = hits_text (hits memory first (first + len - 1) (needle ∷ []))
