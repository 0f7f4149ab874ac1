-- Objects in memory.
use Rattle.std.specs.Prelude.{ℕ, ◌-◌, ◌≤◌, min, List, length, Option, None, Some, IsSomeAnd}

-- A device or a source in memory: the bytes that it holds or has left, the numbers of the calls that fail, how many
-- bytes a call gives at most, how many calls were made and how many of them failed.
pub record Played : Type 0 where
  pub bytes : List ℕ
  pub fails : List ℕ
  pub cut : ℕ
  pub calls : ℕ
  pub faults : ℕ

-- a sink in memory: what was written, how much it takes in all, how much a call takes at most, and how many calls failed
pub record Collected : Type 0 where
  pub bytes : List ℕ
  pub room : Option ℕ
  pub cut : ℕ
  pub faults : ℕ

-- all that it has room for was written
abbrev pub IsFull : Collected → Type 0
IsFull sink = IsSomeAnd sink.room (λ room. room ≤ length sink.bytes)

-- how many bytes it takes of a piece of n
abbrev pub taken_of : Collected → ℕ → ℕ
taken_of sink n = min (min sink.cut n) (room_of sink.room)
  where
    room_of : Option ℕ → ℕ
    room_of None = n
    room_of (Some room) = room - length sink.bytes
