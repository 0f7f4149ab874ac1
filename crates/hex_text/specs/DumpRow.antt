-- The rows of a dump: sixteen bytes in each.
use Rattle.std.specs.Prelude.{ℕ, zero, suc, ◌+◌, ◌*◌, ◌/◌, ◌%◌, ◌^◌, ◌&&◌, nat_le, nat_lt, if◌then◌else◌, List, [], ◌∷◌, ◌++◌, length, take, drop, map, codes, Option, None, Some}
use Rattle.std.specs.List.{flat_map}

-- a digit below 16 in lower case
abbrev pub hex_digit : ℕ → ℕ
hex_digit n = if nat_lt n 10 then 48 + n else 87 + n

-- the last so many hexadecimal digits of a number, the most significant first; a digit is four bits
abbrev pub hex_digits : ℕ → ℕ → List ℕ
hex_digits zero n = []
hex_digits (suc place) n = hex_digit (n / 2 ^ (4 * place) % 16) ∷ hex_digits place n

-- an address: `0x` and sixteen digits
abbrev pub address_cell : ℕ → List ℕ
address_cell at = codes "0x" ++ hex_digits 16 at

-- a byte in two digits, and `--` where it is absent
abbrev pub byte_cell : Option ℕ → List ℕ
byte_cell None = codes "--"
byte_cell (Some byte) = hex_digits 2 byte

-- a byte as a character: itself from 0x20 to 0x7e, else a dot, and a blank where it is absent
abbrev pub character : Option ℕ → ℕ
character None = 32
character (Some byte) = if nat_le 32 byte && nat_le byte 126 then byte else 46

-- the address, two blanks, the bytes separated by a blank, two blanks, and the characters between two `|`
unfoldable pub dump_row : ℕ → List (Option ℕ) → List ℕ
dump_row at cells = address_cell at ++ codes " " ++ flat_map (λ cell. codes " " ++ byte_cell cell) cells ++ codes "  |" ++ map character cells ++ codes "|"

-- so many rows, each with its newline: the first has the first sixteen bytes
abbrev pub dump_rows : ℕ → ℕ → List (Option ℕ) → List ℕ
dump_rows zero at cells = []
dump_rows (suc rows) at cells = dump_row at (take 16 cells) ++ codes "\n" ++ dump_rows rows (at + 16) (drop 16 cells)

-- the rows of bytes from an address on; the last may have fewer than sixteen
unfoldable pub dump_text : ℕ → List (Option ℕ) → List ℕ
dump_text at cells = dump_rows ((length cells + 15) / 16) at cells
