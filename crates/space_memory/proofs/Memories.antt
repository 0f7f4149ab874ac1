-- A memory that stays the same over several calls.
use Rattle.std.proofs.Common.{refl, ◌∙◌, arith}
use Rattle.space_memory.specs.State.{MemoryState, IsSameMemory}

pub IsSameMemory-refl : (memory : MemoryState) → IsSameMemory memory memory
IsSameMemory-refl memory = record { same_view = refl; same_kind = refl; same_capacity = refl; no_less_faults = omega arith; no_less_calls = omega arith }

pub IsSameMemory-trans : (first second third : MemoryState) → IsSameMemory first second → IsSameMemory second third → IsSameMemory first third
IsSameMemory-trans first second third before after = record {
  same_view = after.same_view ∙ before.same_view;
  same_kind = after.same_kind ∙ before.same_kind;
  same_capacity = after.same_capacity ∙ before.same_capacity;
  no_less_faults = omega (arith, before.no_less_faults, after.no_less_faults);
  no_less_calls = omega (arith, before.no_less_calls, after.no_less_calls);
}
