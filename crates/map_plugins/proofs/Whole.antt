-- A text that was written whole, over a memory that was not asked.
use Rattle.std.proofs.Common.{◌≡◌, ℕ, ◌≤◌, List, Option, Ok, subst}
use Rattle.std.specs.Io.KnownBytes.{Appends}
use Rattle.layer_base.specs.AddressSpace.{AddressSpace}
use Rattle.layer_base.specs.View.{physical}
use Rattle.layer_base.proofs.Told.{IfSome-always}
use Rattle.space_memory.specs.State.{MemoryState}
use Rattle.space_memory.specs.Writer.{WritesOver}
use Rattle.space_memory.proofs.Memories.{IsSameMemory-refl}
use Rattle.space_memory.proofs.Writers.{HasWritten-all}

module _ {O T E : Type 0} (written : O → Option (List ℕ)) (faults : O → ℕ) (sink sink' : O) (state : MemoryState) (image_fault out_fault : E) (value : T) where
  pub WritesOver-whole : (piece : List ℕ) (text_of : AddressSpace → List ℕ) → Appends (written sink) (written sink') piece → ((memory : AddressSpace) → piece ≡ text_of memory) → faults sink ≤ faults sink'
      → WritesOver written faults sink sink' state state image_fault out_fault (Ok value) text_of
  WritesOver-whole piece text_of appends is kept = HasWritten-all written faults sink state sink' state image_fault out_fault value text_of (record {
    text = IfSome-always state.view (λ view. subst (Appends (written sink) (written sink')) (is (physical view)) appends);
    memory = IsSameMemory-refl state;
    out = kept;
  })
