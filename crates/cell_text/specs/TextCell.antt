-- Bytes as a text that shows in a terminal.
use Rattle.std.specs.Prelude.{ℕ, List, [], ◌∷◌, ◌++◌, Bool, not, ◌&&◌, ◌==◌, nat_le, if◌then◌else◌, codes}
use Rattle.std.specs.List.{flat_map}
use Rattle.hex_text.specs.DumpRow.{hex_digits}
use Rattle.cell_text.specs.declared.text.Quoting.{Quoting}
use Rattle.cell_text.specs.declared.text.Quoting.TheVariants.{Bare, Quoted}

-- a byte from 0x20 to 0x7e other than a backslash
abbrev pub is_plain : ℕ → Bool
is_plain byte = not (byte == 92) && nat_le 32 byte && nat_le byte 126

-- whether a byte stands for itself: a plain one, and between quotes a plain one other than a quote
abbrev pub is_plain_in : Quoting → ℕ → Bool
is_plain_in Bare byte = is_plain byte
is_plain_in Quoted byte = not (byte == 34) && is_plain byte

-- a byte that stands for itself, every other as a backslash, `x` and two hexadecimal digits
abbrev pub text_byte : Quoting → ℕ → List ℕ
text_byte quoting byte = if is_plain_in quoting byte then byte ∷ [] else codes "\\x" ++ hex_digits 2 byte

-- the text of bytes
unfoldable pub text_cell : List ℕ → List ℕ
text_cell bytes = flat_map (text_byte Bare) bytes

-- the text of bytes between two quotes, in which no quote stands for itself
unfoldable pub quoted_cell : List ℕ → List ℕ
quoted_cell bytes = codes "\"" ++ flat_map (text_byte Quoted) bytes ++ codes "\""
