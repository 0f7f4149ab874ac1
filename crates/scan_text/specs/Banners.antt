-- What the command `banners` prints.
use Rattle.std.specs.Prelude.{ℕ, ◌-◌, ◌^◌, ◌||◌, ◌==◌, if◌then◌else◌, List, [], ◌∷◌, ◌++◌, codes, Bool}
use Rattle.std.specs.List.{flat_map}
use Rattle.layer_base.specs.AddressSpace.{AddressSpace}
use Rattle.layer_base.specs.Present.{present_from}
use Rattle.chunk_scanner.specs.Hits.{hits}
use Rattle.cell_text.specs.TextCell.{text_cell}
use Rattle.hex_text.specs.DumpRow.{address_cell}

-- how a banner of the Linux kernel begins
abbrev pub banner_head : List ℕ
banner_head = codes "Linux version "

-- a zero byte or a newline ends a banner
abbrev pub is_end : ℕ → Bool
is_end byte = (byte == 0) || (byte == 10)

-- the bytes before the first that ends a banner
unfoldable pub before_end : List ℕ → List ℕ
before_end [] = []
before_end (byte ∷ bytes) = if is_end byte then [] else byte ∷ before_end bytes

-- The banner at an address: the bytes before the first that is absent, or ends it. At most 512 are looked at.
unfoldable pub banner : AddressSpace → ℕ → List ℕ
banner memory at = before_end (present_from memory at 512)

-- the address of a banner and its text, on a line
abbrev pub banner_line : ℕ → List ℕ → List ℕ
banner_line at text = address_cell at ++ codes "\t" ++ text_cell text ++ codes "\n"

abbrev pub banner_row : AddressSpace → ℕ → List ℕ
banner_row memory at = banner_line at (banner memory at)

-- a line of the names of the columns, and one for each banner in a space
unfoldable pub banners_text : AddressSpace → List ℕ
banners_text memory = codes "OFFSET\tBANNER\n" ++ flat_map (λ hit. banner_row memory hit.at) (hits memory 0 (2 ^ 64 - 1) (banner_head ∷ []))
