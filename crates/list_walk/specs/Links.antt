-- The links that a walk gave.
use Rattle.std.specs.Prelude.{ℕ, ◌^◌, ◌<◌, List, All}
use Rattle.std.specs.List.Sorted.{IsStrictlySortedBy}
use Rattle.std.specs.Ordering.{nat_cmp}

-- they rise, and are addresses
pub record AreLinks (links : List ℕ) : Type 0 where
  pub rise : IsStrictlySortedBy nat_cmp links
  pub within : All (λ link. link < 2 ^ 64) links
