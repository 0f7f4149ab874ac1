-- A text of which the front needs no memory.
use Rattle.std.proofs.Common.{ℕ, ◌≤◌, List, ◌++◌, Option, Result, Ok, Err, refl}
use Rattle.std.specs.Io.KnownBytes.{Appends}
use Rattle.layer_base.specs.AddressSpace.{AddressSpace}
use Rattle.layer_base.proofs.Appending.{StartsWith-same}
use Rattle.layer_base.proofs.Told.{IfSome-always}
use Rattle.space_memory.specs.State.{MemoryState}
use Rattle.space_memory.specs.Writer.{WritesOver}
use Rattle.space_memory.proofs.Memories.{IsSameMemory-refl}
use Rattle.space_memory.proofs.Writers.{HasWritten, HasWritten-more, HasWritten-cut, HasWritten-all}

module _ {O : Type 0} (written : O → Option (List ℕ)) (faults : O → ℕ) (sink sink' : O) (old : MemoryState) (front : List ℕ) (appended : Appends (written sink) (written sink') front) (kept : faults sink ≤ faults sink') where
  so_far : HasWritten written faults sink sink' old old (λ memory. front)
  so_far = record { text = IfSome-always old.view (λ view. appended); memory = IsSameMemory-refl old; out = kept }

  module _ {T E : Type 0} (sink'' : O) (new : MemoryState) (image_fault out_fault : E) (rest : AddressSpace → List ℕ) where
    -- the front was written, and then the rest
    pub WritesOver-behind : (result : Result T E) → WritesOver written faults sink' sink'' old new image_fault out_fault result rest → WritesOver written faults sink sink'' old new image_fault out_fault result (λ memory. front ++ rest memory)
    WritesOver-behind (Ok value) writes =
        HasWritten-all written faults sink old sink'' new image_fault out_fault value (λ memory. front ++ rest memory) (
        HasWritten-more written faults sink old sink' sink'' old new image_fault out_fault (λ memory. front) rest (λ memory. front ++ rest memory) so_far value (λ memory. refl) writes
        )
    WritesOver-behind (Err fault) writes =
        HasWritten-cut written faults sink old sink' sink'' old new image_fault out_fault (λ memory. front) rest (λ memory. front ++ rest memory) so_far fault (Err fault) refl (λ memory. StartsWith-same (front ++ rest memory)) writes
