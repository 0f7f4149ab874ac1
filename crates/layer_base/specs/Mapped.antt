-- Runs of addresses that are mapped, and the blocks of page tables.
use Rattle.std.specs.Prelude.{◌≡◌, ℕ, ◌+◌, ◌-◌, ◌*◌, ◌/◌, ◌%◌, ◌^◌, ◌<◌, ◌≤◌, Option, IfSome}
use Rattle.layer_base.specs.declared.space.Mapped.{Mapped}
use Rattle.layer_base.specs.declared.space.Space.{Space}

-- How many addresses one entry of a table of a level is for, by the Intel SDM, volume 3, "Paging": 4 KiB at level 1,
-- and 512 times as many at each level above.
abbrev pub block_size : ℕ → ℕ
block_size level = 2 ^ (12 + 9 * (level - 1))

-- the aligned block of a size around an address
abbrev pub block_around : ℕ → ℕ → Option ℕ → Mapped
block_around size a to = record { first = a / size * size; last = a / size * size + (size - 1); to = to }

-- the run holds the address
pub record Holds (run : Mapped) (a : ℕ) : Type 0 where
  pub first : run.first ≤ a
  pub last : a ≤ run.last

-- an aligned block of the size of a level, mapped to physical addresses below 2 ^ 52 or to none
pub record IsAligned (run : Mapped) : Type 0 where
  pub level : ℕ
  pub least : 1 ≤ level
  pub most : level ≤ 5
  pub aligned : run.first % block_size level ≡ 0
  pub size : run.last ≡ run.first + (block_size level - 1)
  pub to : IfSome run.to (λ to. to < 2 ^ 52)

-- a run of a space that is kept
pub record KeptRun : Type 0 where
  pub space : Space
  pub run : Mapped
