-- How far a window was searched for needles.
use Rattle.std.specs.Prelude.{◌≡◌, ℕ, ◌+◌, ◌<◌, ◌≤◌, true, false, nat_lt, if◌then◌else◌, List, [], length, drop, slice_index_or, Option, None, Some}
use Rattle.memchr.specs.Find.{OccursAt}
use Rattle.needle_search.specs.declared.progress.Progress.{Progress}
use Rattle.needle_search.specs.declared.progress.Reach.{Reach}

-- Where the search for the needle of a number begins: at the first place, or behind it where the number is below the
-- least one there.
abbrev pub first_place : ℕ → ℕ → ℕ
first_place number least = if nat_lt number least then 1 else 0

-- At each place from one on and before the one that was reached, a needle has room and does not occur. Where it was
-- found, it occurs at the one that was reached.
pub record IsReached (window needle : List ℕ) (from : ℕ) (reach : Reach) : Type 0 where
  pub none : (place : ℕ) → from ≤ place → place < reach.place → (place + length needle ≤ length window) × ¬ OccursAt window needle place
  pub found : reach.found ≡ true → OccursAt window needle reach.place

-- the place at which a needle was found
abbrev pub place_found : Reach → Option ℕ
place_found reach = if reach.found then Some reach.place else None

-- what is said of a needle in a window is true from so many places further on
abbrev pub IsPassed : ℕ → Reach → Reach → Type 0
IsPassed count old new = (window needle : List ℕ) → (first next : ℕ) → IsReached window needle first old → first ≤ count + next → IsReached (drop count window) needle next new

-- nothing was searched
abbrev pub unsearched : Reach
unsearched = record { place = 0; found = false }

-- so far was a window searched for each of at most 8 needles, from a least number at the first place on
pub record AreReached (needles : List (List ℕ)) (window : List ℕ) (least : ℕ) (progress : Progress) : Type 0 where
  pub few : length needles ≤ 8
  pub room : length progress.reaches ≡ 8
  pub each : (number : ℕ) → number < length needles → IsReached window (slice_index_or needles number []) (first_place number least) (slice_index_or progress.reaches number unsearched)
