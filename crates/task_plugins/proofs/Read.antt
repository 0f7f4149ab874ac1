-- A text of what was read before it was written.
use Rattle.std.proofs.Common.{◌≡◌, ℕ, List, Option, Result, subst, arith}
use Rattle.std.specs.Prelude.{IfSome}
use Rattle.layer_base.specs.AddressSpace.{AddressSpace}
use Rattle.layer_base.specs.Counts.{Rose}
use Rattle.layer_base.specs.Known.{Writes}
use Rattle.layer_base.specs.View.{physical}
use Rattle.layer_base.proofs.Told.{IfSome-after}
use Rattle.space_memory.specs.State.{MemoryState, IsSameMemory}
use Rattle.space_memory.specs.Writer.{WritesOver}
use Rattle.space_memory.proofs.Memories.{IsSameMemory-trans}

module _ {O T E : Type 0} (written : O → Option (List ℕ)) (faults : O → ℕ) (sink sink' : O) (old mid new : MemoryState) (image_fault out_fault : E) (result : Result T E) where
  -- it is the text of a memory that was read to make it, and that is the same
  pub WritesOver-read : (text : List ℕ) (text_of : AddressSpace → List ℕ) → IsSameMemory old mid → IfSome old.view (λ view. text ≡ text_of (physical view))
      → WritesOver written faults sink sink' mid new image_fault out_fault result (λ memory. text) → WritesOver written faults sink sink' old new image_fault out_fault result text_of
  WritesOver-read text text_of same told writes = record {
    text = IfSome-after old.view mid.view same.same_view told writes.text (λ view is appended. subst (Writes (written sink) (written sink') result) is appended);
    memory = IsSameMemory-trans _ _ _ same writes.memory;
    image = record {
      kept = omega (arith, same.no_less_faults, writes.image.kept);
      rose = λ answered. let rose : Rose mid.faults new.faults = writes.image.rose answered in omega (arith, same.no_less_faults, rose);
    };
    out = writes.out;
  }
