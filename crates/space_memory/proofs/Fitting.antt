-- The addresses of a block, and those that it is mapped to, are below 2 ^ 64.
use Rattle.std.proofs.Common.{◌≡◌, ℕ, zero, suc, ◌+◌, ◌-◌, ◌%◌, ◌^◌, ◌<◌, ◌≤◌, Bool, true, false, Option, None, Some, Result, Ok, Err, refl, subst, arith}
use Rattle.std.specs.Prelude.{IfOk, IfSome}
use Rattle.layer_base.specs.AddressSpace.{AddressSpace}
use Rattle.layer_base.specs.Mapped.{block_size, Holds, IsAligned}
use Rattle.layer_base.specs.declared.space.Levels.TheVariants.{Four, Five}
use Rattle.layer_base.specs.declared.space.Mapped.{Mapped}
use Rattle.layer_base.specs.declared.space.Space.{Space}
use Rattle.layer_base.specs.declared.space.Space.TheVariants.{Phys, Paged}
use Rattle.intel_paging.specs.Block.{block_of}
use Rattle.intel_paging.specs.Walk.{asks_tables}
use Rattle.space_memory.specs.Through.{FitsMemory}

-- an aligned block of a size that divides 2 ^ 64 and is at most 2 ^ 48
aligned-in : (level first last at : ℕ) → 1 ≤ level → level ≤ 5 → first % block_size level ≡ 0 → last ≡ first + (block_size level - 1) → first ≤ at → at < 2 ^ 64 → (last < 2 ^ 64) × (last - first < 2 ^ 48)
aligned-in zero first last at least most aligned size above top = absurd (omega arith)
aligned-in (suc zero) first last at least most aligned size above top = (omega arith, omega arith)
aligned-in (suc (suc zero)) first last at least most aligned size above top = (omega arith, omega arith)
aligned-in (suc (suc (suc zero))) first last at least most aligned size above top = (omega arith, omega arith)
aligned-in (suc (suc (suc (suc zero)))) first last at least most aligned size above top = (omega arith, omega arith)
aligned-in (suc (suc (suc (suc (suc zero))))) first last at least most aligned size above top = (omega arith, omega arith)
aligned-in (suc (suc (suc (suc (suc (suc level)))))) first last at least most aligned size above top = absurd (omega arith)

pub fits-aligned : (run : Mapped) (at : ℕ) → at < 2 ^ 64 → Holds run at → IsAligned run → FitsMemory run
fits-aligned run at top holds aligned =
    let sizes = aligned-in aligned.level run.first run.last at aligned.least aligned.most aligned.aligned aligned.size holds.first top in
    record { last = sizes.0; to = by run.to aligned.to sizes.1 }
  where
    by : (to : Option ℕ) → IfSome to (λ t. t < 2 ^ 52) → run.last - run.first < 2 ^ 48 → IfSome to (λ t. t + (run.last - run.first) < 2 ^ 64)
    by None low short = tt
    by (Some t) low short = omega arith

-- where no table is read, the block is known
fits-untabled : (space : Space) (at : ℕ) (run : Mapped) → asks_tables space at ≡ false → block_of (λ a. None) space at ≡ run → FitsMemory run
unfolding block_of
fits-untabled Phys at run none is = subst FitsMemory is (record { last = omega arith; to = omega arith })
fits-untabled (Paged root Four) at run none is = subst FitsMemory (rw none at is) (record { last = omega arith; to = tt })
fits-untabled (Paged root Five) at run none is = subst FitsMemory (rw none at is) (record { last = omega arith; to = tt })

-- the answer of a walk
pub fits : (space : Space) (at : ℕ) (run : Mapped) → at < 2 ^ 64 → Holds run at → (asks_tables space at ≡ true → IsAligned run) → (asks_tables space at ≡ false → (memory : AddressSpace) → block_of memory space at ≡ run) → FitsMemory run
fits space at run top holds aligned untabled = by (asks_tables space at) refl
  where
    by : (asks : Bool) → asks_tables space at ≡ asks → FitsMemory run
    by true asks = fits-aligned run at top holds (aligned asks)
    by false none = fits-untabled space at run none (untabled none (λ a. None))

-- and what a walk came to
pub fits-walked : {E : Type 0} (space : Space) (at : ℕ) (result : Result Mapped E) → at < 2 ^ 64 → IfOk result (λ run. Holds run at) → (asks_tables space at ≡ true → IfOk result IsAligned)
    → (asks_tables space at ≡ false → IfOk result (λ run. (memory : AddressSpace) → block_of memory space at ≡ run)) → IfOk result FitsMemory
fits-walked space at (Ok run) top holds aligned untabled = fits space at run top holds aligned untabled
fits-walked space at (Err fault) top holds aligned untabled = tt
