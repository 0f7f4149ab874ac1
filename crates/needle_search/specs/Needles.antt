-- The limits of needles.
use Rattle.std.specs.Prelude.{ℕ, ◌≤◌, List, length, All}

-- a needle has 1 to 4,096 bytes
pub record IsNeedle (needle : List ℕ) : Type 0 where
  pub some : 1 ≤ length needle
  pub few : length needle ≤ 4096

-- there are at most 8 needles
pub record AreNeedles (needles : List (List ℕ)) : Type 0 where
  pub few : length needles ≤ 8
  pub each : All IsNeedle needles
