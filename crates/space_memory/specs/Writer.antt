-- What a writer of a text about a memory promises.
use Rattle.std.specs.Prelude.{ℕ, List, Option, Result, IsErrOf, IfSome}
use Rattle.layer_base.specs.AddressSpace.{AddressSpace}
use Rattle.layer_base.specs.Counts.{HasCause}
use Rattle.layer_base.specs.Known.{Writes}
use Rattle.layer_base.specs.View.{physical}
use Rattle.space_memory.specs.State.{MemoryState, IsSameMemory}

-- Where the memory's view is told, the sink got the whole text of the physical memory on Ok, and a prefix of it
-- otherwise. The memory is the same, and a fault of the image or of the sink was answered only where its count rose.
pub record WritesOver {O T E : Type 0} (written : O → Option (List ℕ)) (faults : O → ℕ) (sink sink' : O) (old new : MemoryState) (image_fault out_fault : E) (result : Result T E) (text_of : AddressSpace → List ℕ) : Type 0 where
  pub text : IfSome old.view (λ view. Writes (written sink) (written sink') result (text_of (physical view)))
  pub memory : IsSameMemory old new
  pub image : HasCause old.faults new.faults (IsErrOf result image_fault)
  pub out : HasCause (faults sink) (faults sink') (IsErrOf result out_fault)
