-- A writer that writes one piece after another.
use Rattle.std.proofs.Common.{◌≡◌, ℕ, ◌≤◌, List, [], ◌++◌, Option, Result, Ok, Err, sym, subst, arith}
use Rattle.std.specs.Prelude.{IfSome, IsErrAnd}
use Rattle.std.specs.Io.{StartsWith}
use Rattle.std.specs.Io.KnownBytes.{Appends}
use Rattle.layer_base.specs.AddressSpace.{AddressSpace}
use Rattle.layer_base.specs.Counts.{HasCause, Rose}
use Rattle.layer_base.specs.View.{physical}
use Rattle.layer_base.proofs.Appending.{Appends-none, Appends-append, AppendsPrefix-behind}
use Rattle.layer_base.proofs.Told.{IfSome-always, IfSome-after}
use Rattle.space_memory.specs.State.{MemoryState, IsSameMemory}
use Rattle.space_memory.specs.Writer.{WritesOver}
use Rattle.space_memory.proofs.Memories.{IsSameMemory-refl, IsSameMemory-trans}

-- a count that was no greater before
HasCause-behind : (first before now : ℕ) (Answered : Type 0) → first ≤ before → HasCause before now Answered → HasCause first now Answered
HasCause-behind first before now Answered less cause = record {
  kept = omega (arith, cause.kept);
  rose = λ answered. let rose : Rose before now = cause.rose answered in omega (arith, less, rose);
}

-- a whole text was written so far, and nothing failed
pub record HasWritten {O : Type 0} (written : O → Option (List ℕ)) (faults : O → ℕ) (sink sink' : O) (old new : MemoryState) (text_of : AddressSpace → List ℕ) : Type 0 where
  pub text : IfSome old.view (λ view. Appends (written sink) (written sink') (text_of (physical view)))
  pub memory : IsSameMemory old new
  pub out : faults sink ≤ faults sink'

module _ {O : Type 0} (written : O → Option (List ℕ)) (faults : O → ℕ) (sink : O) (old : MemoryState) where
  -- nothing yet
  pub HasWritten-none : (text_of : AddressSpace → List ℕ) → ((memory : AddressSpace) → text_of memory ≡ []) → HasWritten written faults sink sink old old text_of
  HasWritten-none text_of none = record {
    text = IfSome-always old.view (λ view. subst (Appends (written sink) (written sink)) (sym (none (physical view))) (Appends-none (written sink)));
    memory = IsSameMemory-refl old;
    out = omega arith;
  }

  -- all
  pub HasWritten-all : {T E : Type 0} (sink' : O) (new : MemoryState) (image_fault out_fault : E) (value : T) (text_of : AddressSpace → List ℕ) → HasWritten written faults sink sink' old new text_of
      → WritesOver written faults sink sink' old new image_fault out_fault (Ok value) text_of
  HasWritten-all sink' new image_fault out_fault value text_of done = record {
    text = done.text;
    memory = done.memory;
    image = record { kept = done.memory.no_less_faults; rose = λ failed. absurd (cc failed) };
    out = record { kept = done.out; rose = λ failed. absurd (cc failed) };
  }

  module _ {T E : Type 0} (sink' sink'' : O) (mid new : MemoryState) (image_fault out_fault : E) (before piece whole : AddressSpace → List ℕ) (done : HasWritten written faults sink sink' old mid before) where
    -- a piece more
    pub HasWritten-more : (value : T) → ((memory : AddressSpace) → whole memory ≡ before memory ++ piece memory) → WritesOver written faults sink' sink'' mid new image_fault out_fault (Ok value) piece
        → HasWritten written faults sink sink'' old new whole
    HasWritten-more value split writes = record {
      text = IfSome-after old.view mid.view done.memory.same_view done.text writes.text (λ view first second.
          subst (Appends (written sink) (written sink'')) (sym (split (physical view))) (Appends-append _ _ _ (before (physical view)) (piece (physical view)) first second));
      memory = IsSameMemory-trans _ _ _ done.memory writes.memory;
      out = omega (arith, done.out, writes.out.kept);
    }

    -- a piece that was cut short
    pub HasWritten-cut : (fault : E) (result : Result T E) → IsErrAnd result (λ error. error ≡ fault) → ((memory : AddressSpace) → StartsWith (whole memory) (before memory ++ piece memory))
        → WritesOver {T = T} written faults sink' sink'' mid new image_fault out_fault (Err fault) piece → WritesOver written faults sink sink'' old new image_fault out_fault result whole
    HasWritten-cut fault (Ok value) cut front writes = absurd cut
    HasWritten-cut fault (Err error) same front writes = rw same (record {
      text = IfSome-after old.view mid.view done.memory.same_view done.text writes.text (λ view first second.
          AppendsPrefix-behind _ _ _ (before (physical view)) (piece (physical view)) (whole (physical view)) first second (front (physical view)));
      memory = IsSameMemory-trans _ _ _ done.memory writes.memory;
      image = HasCause-behind _ _ _ _ done.memory.no_less_faults writes.image;
      out = HasCause-behind _ _ _ _ done.out writes.out;
    })
