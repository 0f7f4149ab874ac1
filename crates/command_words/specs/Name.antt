-- Names in a line, and the words of a type and its path.
use Rattle.std.specs.Prelude.{ℕ, ◌+◌, ◌*◌, ◌==◌, ◌&&◌, if◌then◌else◌, List, [], ◌∷◌, ◌++◌, Result, Ok, Err}
use Rattle.std.specs.Char.{digit_value, is_digit}
use Rattle.std.specs.List.{slice_split}
use Rattle.command_words.specs.Answer.{◌>>=◌}
use Rattle.command_words.specs.declared.fault.LineFault.{LineFault}
use Rattle.command_words.specs.declared.fault.LineFault.TheVariants.{Hex}

-- the byte of two hexadecimal digits
abbrev pub escaped : ℕ → ℕ → Result ℕ LineFault
escaped high low = if is_digit high 16 && is_digit low 16 then Ok (digit_value high * 16 + digit_value low) else Err Hex

-- what stands behind a `%`: the byte of two hexadecimal digits, and the bytes behind them
abbrev pub piece_of : List ℕ → Result (List ℕ) LineFault
piece_of (high ∷ low ∷ plain) = do
  byte ← escaped high low
  Ok (byte ∷ plain)
piece_of _ = Err Hex

-- the lists that words stand for, one behind another; the first fault, where there is one
abbrev pub joined : {A : Type 0} → (List ℕ → Result (List A) LineFault) → List (List ℕ) → Result (List A) LineFault
joined list_of [] = Ok []
joined list_of (word ∷ words) = do
  list ← list_of word
  lists ← joined list_of words
  Ok (list ++ lists)

-- the bytes before the first `%`, which are the first piece, and those that the pieces behind each `%` stand for
abbrev pub name_of_pieces : List (List ℕ) → Result (List ℕ) LineFault
name_of_pieces [] = Ok []
name_of_pieces (plain ∷ pieces) = do
  bytes ← joined piece_of pieces
  Ok (plain ++ bytes)

-- the bytes of a name: `%` and two hexadecimal digits stand for one byte, every other byte for itself
abbrev pub name_of : List ℕ → Result (List ℕ) LineFault
name_of word = name_of_pieces (slice_split (λ byte. byte == 37) word)

-- the names of words
abbrev pub names_of : List (List ℕ) → Result (List (List ℕ)) LineFault
names_of words = joined (λ word. name_of word >>= λ name. Ok (name ∷ [])) words

-- the name before the first dot, which is the first part, and the path behind it
abbrev pub type_of_parts : List (List ℕ) → Result (List ℕ × List (List ℕ)) LineFault
type_of_parts [] = Ok ([], [])
type_of_parts (first ∷ rest) = do
  name ← name_of first
  path ← names_of rest
  Ok (name, path)

-- a type's name and a path, separated by dots that are looked for before escapes are read
abbrev pub type_of : List ℕ → Result (List ℕ × List (List ℕ)) LineFault
type_of word = type_of_parts (slice_split (λ byte. byte == 46) word)
