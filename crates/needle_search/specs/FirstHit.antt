-- The first hit of several needles in a window of bytes. A needle occurs at a place where all its bytes stand from there
-- on.
use Rattle.std.specs.Prelude.{ℕ, ◌+◌, ◌*◌, ◌<◌, ◌≤◌, nat_le, if◌then◌else◌, List, [], length, slice_index_or, Option, None, Some, MatchOption}
use Rattle.memchr.specs.Find.{OccursAt}
use Rattle.needle_search.specs.declared.hit.Hit.{Hit}

-- the needle of a number occurs in the window at a place
abbrev pub NeedleOccurs : List (List ℕ) → List ℕ → ℕ → ℕ → Type 0
NeedleOccurs needles window number place = OccursAt window (slice_index_or needles number []) place

-- the first place at which a needle occurs, and there the needle with the least number
pub record IsFirstHit (needles : List (List ℕ)) (window : List ℕ) (hit : Hit) : Type 0 where
  pub number : hit.needle < length needles
  pub occurs : NeedleOccurs needles window hit.needle hit.at
  pub none_before : (place number : ℕ) → place < hit.at → number < length needles → ¬ NeedleOccurs needles window number place
  pub none_lower : (number : ℕ) → number < hit.needle → ¬ NeedleOccurs needles window number hit.at

-- the answer is the first hit in the window, or none where no needle occurs
abbrev pub IsFirstIn : List (List ℕ) → List ℕ → Option Hit → Type 0
IsFirstIn needles window answer = MatchOption answer ((place number : ℕ) → number < length needles → ¬ NeedleOccurs needles window number place) (IsFirstHit needles window)

-- Pairs of a place and a needle number rise by place, then by number. As numbers are below 8, this number of a pair rises
-- with them.
abbrev pub rank : ℕ → ℕ → ℕ
rank place number = 8 * place + number

-- the first hit of the first so many needles that is not below a rank
pub record IsFirstHitFrom (needles : List (List ℕ)) (window : List ℕ) (count least : ℕ) (hit : Hit) : Type 0 where
  pub number : hit.needle < count
  pub above : least ≤ rank hit.at hit.needle
  pub occurs : NeedleOccurs needles window hit.needle hit.at
  pub none_before : (place number : ℕ) → number < count → least ≤ rank place number → rank place number < rank hit.at hit.needle → ¬ NeedleOccurs needles window number place

-- the same as an answer, or none where none of these needles occurs
abbrev pub IsFirstOf : List (List ℕ) → List ℕ → ℕ → ℕ → Option Hit → Type 0
IsFirstOf needles window count least answer = MatchOption answer ((place number : ℕ) → number < count → least ≤ rank place number → ¬ NeedleOccurs needles window number place) (IsFirstHitFrom needles window count least)

-- the answer is the first hit in the window that is not below a rank, or none where there is none
abbrev pub IsFirstFrom : List (List ℕ) → List ℕ → ℕ → Option Hit → Type 0
IsFirstFrom needles window least answer = IsFirstOf needles window (length needles) least answer

-- a hit, or the place of a needle with a higher number where that is before it
abbrev pub earlier : Option Hit → Option ℕ → ℕ → Option Hit
earlier first None number = first
earlier None (Some place) number = Some (record { at = place; needle = number })
earlier (Some hit) (Some place) number = if nat_le hit.at place then Some hit else Some (record { at = place; needle = number })
