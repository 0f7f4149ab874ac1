-- Counts that never fall, and what an answer says of them.
use Rattle.std.specs.Prelude.{ℕ, ◌+◌, ◌-◌, ◌^◌, ◌≤◌, max, min}

-- one more, but for a count that stands at the last value of its type
abbrev pub next_count : ℕ → ℕ
next_count n = max n (min (n + 1) (2 ^ 64 - 1))

-- the count went up, or stands at the last value of its type
abbrev pub Rose : ℕ → ℕ → Type 0
Rose before now = next_count before ≤ now

-- the count of faults didn't fall, and a fault was answered only where it rose
pub record HasCause (before now : ℕ) (answered_a_fault : Type 0) : Type 0 where
  pub kept : before ≤ now
  pub rose : answered_a_fault → Rose before now
