-- What one search knows of what was read.
use Rattle.std.specs.Prelude.{◌≡◌, ◌≢◌, ℕ, ◌+◌, ◌<◌, ◌≤◌, ◌⊎◌, true, List, length, slice_index_or, [], MatchOption}
use Rattle.layer_base.specs.AddressSpace.{AddressSpace}
use Rattle.needle_search.specs.FirstHit.{NeedleOccurs}
use Rattle.chunk_scanner.specs.Hits.{occurs}
use Rattle.chunk_scanner.specs.declared.filled.Filled.{Filled}
use Rattle.chunk_scanner.specs.declared.wanted.Wanted.{Wanted}

-- What was read from an address on is enough to go on: it reaches the last address or a hole, or has room for the longest
-- needle.
abbrev pub IsEnough : Wanted → ℕ → Filled → Type 0
IsEnough wanted at filled =
    MatchOption filled.hole
    ((1 ≤ filled.count) × (at + filled.count ≤ wanted.last + 1) × (at + filled.count ≢ wanted.last + 1 → wanted.longest ≤ filled.count))
    (λ hole. (at + filled.count ≤ hole) × (at + filled.count ≤ wanted.last))

-- No needle that begins at or before an address passes the bytes that were read: they reach the last address, the longest
-- needle fits, or all addresses from behind them up to that one lie in a hole.
abbrev pub IsKnownUntil : Wanted → ℕ → Filled → ℕ → Type 0
IsKnownUntil wanted at filled until =
    MatchOption filled.hole
    (((until ≡ wanted.last) × (at + filled.count ≡ wanted.last + 1)) ⊎ (until + wanted.longest ≤ at + filled.count))
    (λ hole. (until ≤ hole) × (at + filled.count ≤ until))

-- up to an address, the needles occur in a memory just where they occur in the bytes that were read
pub record Tells (memory : AddressSpace) (needles : List (List ℕ)) (at : ℕ) (bytes : List ℕ) (until : ℕ) : Type 0 where
  pub there : (place number : ℕ) → at + place ≤ until → number < length needles → NeedleOccurs needles bytes number place → occurs memory (at + place) (slice_index_or needles number []) ≡ true
  pub only : (place number : ℕ) → at + place ≤ until → number < length needles → occurs memory (at + place) (slice_index_or needles number []) ≡ true → NeedleOccurs needles bytes number place
