-- What a memory is to its callers.
use Rattle.std.specs.Prelude.{◌≡◌, ℕ, ◌≤◌, List, Option}
use Rattle.layer_base.specs.Mapped.{KeptRun}
use Rattle.layer_base.specs.View.{View}
use Rattle.layer_base.specs.declared.layer.Kind.{Kind}

-- what the layer below tells, is read as and has counted; how many runs may be kept; and those that are, the one used
-- last in front, beside the very last run
pub record MemoryState : Type 0 where
  pub view : Option View
  pub kind : Kind
  pub faults : ℕ
  pub calls : ℕ
  pub capacity : ℕ
  pub kept : List KeptRun
  pub last : Option KeptRun

-- the same view and kind, as much room for runs, and counts that didn't fall
pub record IsSameMemory (old new : MemoryState) : Type 0 where
  pub same_view : new.view ≡ old.view
  pub same_kind : new.kind ≡ old.kind
  pub same_capacity : new.capacity ≡ old.capacity
  pub no_less_faults : old.faults ≤ new.faults
  pub no_less_calls : old.calls ≤ new.calls
