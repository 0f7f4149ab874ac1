-- A piece of a space, seen through what it is mapped to.
use Rattle.std.specs.Prelude.{ℕ, ◌+◌, ◌-◌, ◌^◌, ◌<◌, List, IfSome}
use Rattle.layer_base.specs.AddressSpace.{AddressSpace}
use Rattle.layer_base.specs.Run.{IsTrueOf}
use Rattle.layer_base.specs.declared.layer.Run.{Run}
use Rattle.layer_base.specs.declared.space.Mapped.{Mapped}
use Rattle.layer_base.specs.declared.space.Space.{Space}
use Rattle.intel_paging.specs.Walk.{IsBlock}
use Rattle.space_memory.specs.InSpace.{in_space}

-- the run's addresses, and the physical ones that they are mapped to, are below 2 ^ 64
pub record FitsMemory (run : Mapped) : Type 0 where
  pub last : run.last < 2 ^ 64
  pub to : IfSome run.to (λ to. to + (run.last - run.first) < 2 ^ 64)

-- the answer is true of each space that has the run as a block
abbrev pub IsTrueThrough : AddressSpace → Mapped → ℕ → List ℕ → Run → Type 0
IsTrueThrough memory run at buf answer = (space : Space) → IsBlock memory space run → IsTrueOf (in_space memory space) at buf answer
