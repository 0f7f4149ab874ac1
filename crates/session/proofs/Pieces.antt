-- What a writer appended.
use Rattle.std.proofs.Common.{◌≡◌, ℕ, List, [], Option, Result, Ok, Err, refl}
use Rattle.std.specs.Prelude.{IsOk}
use Rattle.std.specs.Io.{StartsWith}
use Rattle.std.specs.Io.KnownBytes.{Appends}
use Rattle.layer_base.specs.Known.{Writes}
use Rattle.layer_base.proofs.Appending.{Appends-none, StartsWith-same}

module _ (old new : Option (List ℕ)) (text : List ℕ) where
  -- it is in front of the text, and on Ok all of it
  pub record Piece {E : Type 0} (result : Result (Unit {0}) E) : Type 0 where
    pub piece : List ℕ
    pub written : Appends old new piece
    pub front : StartsWith text piece
    pub whole : IsOk result → piece ≡ text

  pub piece_of : {E : Type 0} (result : Result (Unit {0}) E) → Writes old new result text → Piece result
  piece_of (Ok _) writes = record { piece = text; written = writes; front = StartsWith-same text; whole = λ ok. refl }
  piece_of (Err fault) writes = record { piece = writes.0; written = writes.1; front = writes.2; whole = λ ok. absurd (cc ok) }

-- whatever a call came to, no bytes were written where none were to be
pub writes_none : {E : Type 0} (old : Option (List ℕ)) (result : Result (Unit {0}) E) → Writes old old result []
writes_none old (Ok _) = Appends-none old
writes_none old (Err fault) = ([], Appends-none old, refl)
