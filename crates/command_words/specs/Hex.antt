-- Bytes that are written as hexadecimal digits.
use Rattle.std.specs.Prelude.{ℕ, List, [], ◌∷◌, Result, Ok, Err}
use Rattle.hex.specs.Hex.{decode_of}
use Rattle.hex.specs.declared.error.FromHexError.{FromHexError}
use Rattle.command_words.specs.declared.fault.LineFault.{LineFault}
use Rattle.command_words.specs.declared.fault.LineFault.TheVariants.{Hex}

-- every cause for which digits stand for no bytes is one fault
abbrev pub decoded : Result (List ℕ) FromHexError → Result (List ℕ) LineFault
decoded (Ok bytes) = Ok bytes
decoded (Err _) = Err Hex

-- the bytes of an even number of hexadecimal digits, at least two
abbrev pub needle_of : List ℕ → Result (List ℕ) LineFault
needle_of [] = Err Hex
needle_of (digit ∷ digits) = decoded (decode_of (digit ∷ digits))
