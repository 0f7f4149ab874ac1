-- What of a text was written, and what is left to write.
use Rattle.std.specs.Prelude.{◌≡◌, ℕ, List, ◌++◌, Option, Result, Ok, Err}
use Rattle.std.specs.Io.KnownBytes.{Appends}
use Rattle.layer_base.specs.Known.{AppendsPrefix}
use Rattle.layer_base.specs.declared.sink.SinkFault.{SinkFault}

-- a front of a text was written, and the rest is left
abbrev pub WritesFront : Option (List ℕ) → Option (List ℕ) → List ℕ → List ℕ → Type 0
WritesFront old new text rest = (piece : List ℕ) × Appends old new piece × (text ≡ piece ++ rest)

-- a text was written and is gone, or it is kept; after a failure a front of it was written
abbrev pub WritesPiece : Option (List ℕ) → Option (List ℕ) → List ℕ → List ℕ → Result Unit SinkFault → Type 0
WritesPiece old new text text' (Ok done) = WritesFront old new text text'
WritesPiece old new text text' (Err fault) = AppendsPrefix old new text
