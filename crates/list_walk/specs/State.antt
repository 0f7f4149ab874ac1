-- A walk over objects that lead to one another.
use Rattle.std.specs.Prelude.{ℕ, Bool, true, false, List, [], Option, None}
use Rattle.layer_base.specs.declared.space.Space.{Space}
use Rattle.kernel_records.specs.declared.stop.Stop.{Stop}

-- A ring or a chain in a space, its head or its first place, and its shape: an object starts so many bytes before its
-- link, and its next word stands so many bytes after it. Some links were given, which are kept in order, one of them last.
-- A walk that has stopped keeps its stop.
pub record WalkState : Type 0 where
  pub is_ring : Bool
  pub space : Space
  pub start : ℕ
  pub back : ℕ
  pub next : ℕ
  pub given : List ℕ
  pub last : Option ℕ
  pub stop : Option Stop

-- a new walk over a ring, from its head on
abbrev pub ring_walk : Space → ℕ → ℕ → ℕ → WalkState
ring_walk space head back next = record { is_ring = true; space = space; start = head; back = back; next = next; given = []; last = None; stop = None }

-- a new walk over a chain, whose first word stands at a place
abbrev pub chain_walk : Space → ℕ → ℕ → ℕ → WalkState
chain_walk space place back next = record { is_ring = false; space = space; start = place; back = back; next = next; given = []; last = None; stop = None }
