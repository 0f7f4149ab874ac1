-- Ranges of addresses: which one shows an address, and how far from there nothing begins or ends.
use Rattle.std.specs.Prelude.{ℕ, ◌+◌, ◌-◌, ◌^◌, ◌<◌, ◌≤◌, min, nat_lt, if◌then◌else◌, Bool, IsTrue, List, [], ◌∷◌, All, AllPairs, find, Option, None, Some}
use Rattle.layer_base.specs.View.{holds_address}
use Rattle.layer_base.specs.declared.segment.Segment.{Segment}

-- the numbers of a segment are in their bounds
pub record IsSegment (segment : Segment) : Type 0 where
  pub first : segment.first < 2 ^ 64
  pub place : segment.place ≤ 2 ^ 64
  pub some : 1 ≤ segment.length
  pub most : segment.length ≤ 2 ^ 64

-- the segments rise and do not meet: each ends before any later one begins
abbrev pub AreRising : List Segment → Type 0
AreRising segments = AllPairs (λ s t. s.first + s.length ≤ t.first) segments

-- what is kept of a list of segments: each is in its bounds, and where it is said that they rise they do
pub record AreKept (segments : List Segment) (rising : Bool) : Type 0 where
  pub fit : All IsSegment segments
  pub rise : IsTrue rising → AreRising segments

-- the segment that shows an address: the first that holds it
abbrev pub segment_at : List Segment → ℕ → Option Segment
segment_at segments a = find (λ segment. holds_address segment a) segments

-- the least address above this one at which a segment begins, or 2 ^ 64
abbrev pub next_first : List Segment → ℕ → ℕ
next_first [] a = 2 ^ 64
next_first (segment ∷ rest) a = if nat_lt a segment.first then min segment.first (next_first rest a) else next_first rest a

-- The last address of a hole at an address: the one before the next segment begins, and no further than the segment
-- that shows the address, where one does.
abbrev pub reach : List Segment → ℕ → ℕ
reach segments a = before (segment_at segments a)
  where
    before : Option Segment → ℕ
    before None = next_first segments a - 1
    before (Some segment) = min (next_first segments a) (segment.first + segment.length) - 1
