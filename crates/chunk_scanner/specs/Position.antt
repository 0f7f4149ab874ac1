-- Where a scan stands, and what it looks for.
use Rattle.std.specs.Prelude.{◌≡◌, ℕ, ◌+◌, ◌-◌, ◌*◌, ◌≤◌, false, if◌then◌else◌, length, All}
use Rattle.needle_search.specs.Needles.{AreNeedles}
use Rattle.chunk_scanner.specs.declared.position.Position.{Position}
use Rattle.chunk_scanner.specs.declared.wanted.Wanted.{Wanted}

-- how many addresses are left, up to a last one
abbrev pub addresses_left : ℕ → Position → ℕ
addresses_left last position = if position.done then 0 else last + 1 - position.at

-- what falls with each pair that is passed: there are at most 8 needles
abbrev pub pairs_behind : ℕ → Position → ℕ
pairs_behind last position = 9 * addresses_left last position - position.number

-- the address is not behind the last one, and the number is that of a needle or the next one
pub record StandsWithin (last : ℕ) (position : Position) : Type 0 where
  pub address : position.done ≡ false → position.at ≤ last
  pub number : position.number ≤ 8

-- it goes on to a higher address, or at the same one to a number that is no lower, or to its end
pub record StandsFurther (old new : Position) : Type 0 where
  pub address : old.at ≤ new.at
  pub number : new.done ≡ false → new.at ≡ old.at → old.number ≤ new.number

-- the needles are within their limits, none is longer than is said, and as much is read at a time as the longest may have
pub record IsWanted (wanted : Wanted) : Type 0 where
  pub needles : AreNeedles wanted.needles
  pub some : 1 ≤ wanted.longest
  pub few : wanted.longest ≤ 4096
  pub each : All (λ needle. length needle ≤ wanted.longest) wanted.needles
  pub chunk : 4096 ≤ wanted.chunk
