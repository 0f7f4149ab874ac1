-- The bytes that a dump writes, and how many of them are absent.
use Rattle.std.proofs.Common.{◌≡◌, ℕ, zero, suc, ◌+◌, ◌-◌, ◌*◌, ◌≤◌, List, [], ◌∷◌, ◌++◌, length, take, map, replicate, Option, None, Some, Result, Ok, Err, IsErr, refl, sym, subst, ◌∙◌, ap, arith}
use Rattle.std.proofs.lemmas.List.{map-append, take-replicate, replicate-append-replicate}
use Rattle.std.proofs.lemmas.List.Sums.{sum_by-append}
use Rattle.std.proofs.lemmas.List.Folds.{sum_by-replicate}
use Rattle.std.specs.Prelude.{is_none, cond, IsErrAnd, IsErrOf}
use Rattle.std.specs.Io.{StartsWith}
use Rattle.std.specs.Io.KnownBytes.{Appends}
use Rattle.std.specs.List.{count_by}
use Rattle.layer_base.specs.AddressSpace.{AddressSpace, bytes_from}
use Rattle.layer_base.specs.Counts.{HasCause, Rose}
use Rattle.layer_base.specs.Known.{AppendsPrefix, Writes}
use Rattle.layer_base.specs.declared.sink.SinkFault.{SinkFault}
use Rattle.layer_base.specs.declared.sink.SinkFault.TheVariants as sinks
use Rattle.layer_base.proofs.Appending.{Appends-none, Appends-append, AppendsPrefix-behind, StartsWith-from, StartsWith-trans}
use Rattle.layer_base.proofs.BytesFrom.{bytes_from-none, bytes_from-add, bytes_from-absent}
use Rattle.space_memory.specs.State.{MemoryState, IsSameMemory}
use Rattle.space_memory.specs.Writer.{WritesOver}
use Rattle.kernel_records.specs.Fault.{plugin_fault_of_sink}
use Rattle.kernel_records.specs.declared.fault.PluginFault.{PluginFault}
use Rattle.kernel_records.specs.declared.fault.PluginFault.TheVariants as plugins
use Rattle.session.specs.Dump.{or_zero, dumped_bytes, absent_bytes}
use Rattle.session.specs.Dumped.{count_of}
use Rattle.session.specs.declared.dump.Passed.{Passed}
use Rattle.session.proofs.Told.{IfSome-always}

module _ (memory : AddressSpace) (at : ℕ) where
  pub dumped-none : dumped_bytes memory at 0 ≡ []
  unfolding dumped_bytes
  dumped-none = ap (map or_zero) (bytes_from-none memory at)

  pub absent-none : absent_bytes memory at 0 ≡ 0
  unfolding absent_bytes
  absent-none = ap (count_by is_none) (bytes_from-none memory at)

  -- some bytes, and others behind them
  pub dumped-add : (n k : ℕ) → dumped_bytes memory at (n + k) ≡ dumped_bytes memory at n ++ dumped_bytes memory (at + n) k
  unfolding dumped_bytes
  dumped-add n k = ap (map or_zero) (bytes_from-add memory at n k) ∙ map-append or_zero (bytes_from memory at n) (bytes_from memory (at + n) k)

  pub absent-add : (n k : ℕ) → absent_bytes memory at (n + k) ≡ absent_bytes memory at n + absent_bytes memory (at + n) k
  unfolding absent_bytes
  absent-add n k = ap (count_by is_none) (bytes_from-add memory at n k) ∙ sum_by-append (λ x. cond (is_none x) 1 0) (bytes_from memory at n) (bytes_from memory (at + n) k)

  -- a hole
  pub dumped-hole : (n : ℕ) → bytes_from memory at n ≡ replicate n None → dumped_bytes memory at n ≡ replicate n 0
  unfolding dumped_bytes
  dumped-hole n hole = ap (map or_zero) hole ∙ zeros n
    where
      zeros : (n : ℕ) → map or_zero (replicate n None) ≡ replicate n 0
      zeros zero = refl
      zeros (suc n) = ap (λ l. 0 ∷ l) (zeros n)

  pub absent-hole : (n : ℕ) → bytes_from memory at n ≡ replicate n None → absent_bytes memory at n ≡ n
  unfolding absent_bytes
  absent-hole n hole = ap (count_by is_none) hole ∙ sum_by-replicate (λ x. cond (is_none x) 1 0) n None ∙ omega arith

  -- bytes that are present
  pub dumped-present : (n : ℕ) (bytes : List ℕ) → bytes_from memory at n ≡ map Some bytes → dumped_bytes memory at n ≡ bytes
  unfolding dumped_bytes
  dumped-present n bytes present = ap (map or_zero) present ∙ same bytes
    where
      same : (bytes : List ℕ) → map or_zero (map Some bytes) ≡ bytes
      same [] = refl
      same (byte ∷ bytes) = ap (λ l. byte ∷ l) (same bytes)

  pub absent-present : (n : ℕ) (bytes : List ℕ) → bytes_from memory at n ≡ map Some bytes → absent_bytes memory at n ≡ 0
  unfolding absent_bytes
  absent-present n bytes present = ap (count_by is_none) present ∙ none bytes
    where
      none : (bytes : List ℕ) → count_by is_none (map Some bytes) ≡ 0
      none [] = refl
      none (byte ∷ bytes) = none bytes

-- the first of more bytes
pub dumped-front : (memory : AddressSpace) (at n most : ℕ) → n ≤ most → StartsWith (dumped_bytes memory at most) (dumped_bytes memory at n)
dumped-front memory at n most within =
    let whole : most ≡ n + (most - n) = omega arith in
    StartsWith-from _ _ (dumped_bytes memory (at + n) (most - n)) (ap (dumped_bytes memory at) whole ∙ dumped-add memory at n (most - n))

-- a run that was cut short is a front of what was to be dumped
pub run-cut : (old new : Option (List ℕ)) (memory : AddressSpace) (at n most : ℕ) (bytes : List ℕ) (result : Result Passed PluginFault) → IsErr result → n ≤ most → dumped_bytes memory at n ≡ bytes → AppendsPrefix old new bytes
    → Writes old new result (dumped_bytes memory at (count_of most result))
run-cut old new memory at n most bytes (Ok passed) refused within same prefix = absurd (cc refused)
run-cut old new memory at n most bytes (Err fault) refused within same prefix = (
  prefix.0,
  prefix.1,
  StartsWith-trans (dumped_bytes memory at most) bytes prefix.0 (subst (StartsWith (dumped_bytes memory at most)) same (dumped-front memory at n most within)) prefix.2,
)

-- a hole that a run of the memory tells
pub hole-run : (memory : AddressSpace) (at last n : ℕ) → ((a : ℕ) → at ≤ a → a ≤ last → memory a ≡ None) → at + n ≤ last + 1 → bytes_from memory at n ≡ replicate n None
hole-run memory at last n absent within = bytes_from-absent memory at n (λ k below. absent (at + k) (omega arith) (omega arith))

-- zeros of which a piece more was written
module _ (old mid new : Option (List ℕ)) (zeros : List ℕ) (done n : ℕ) (all : zeros ≡ replicate (length zeros) 0) (within : n ≤ length zeros) (before : Appends old mid (replicate done 0)) where
  more : replicate done 0 ++ take n zeros ≡ replicate (done + n) 0
  more = ap (λ l. replicate done 0 ++ take n l) all ∙ ap (λ l. replicate done 0 ++ l) (take-replicate n (length zeros) 0 within) ∙ replicate-append-replicate done n 0

  pub zeros-more : Appends mid new (take n zeros) → Appends old new (replicate (done + n) 0)
  zeros-more piece = subst (Appends old new) more (Appends-append old mid new (replicate done 0) (take n zeros) before piece)

  pub zeros-cut : (count : ℕ) → done + n ≤ count → AppendsPrefix mid new (take n zeros) → AppendsPrefix old new (replicate count 0)
  zeros-cut count few piece =
      let whole : count ≡ done + n + (count - (done + n)) = omega arith in
      AppendsPrefix-behind old mid new (replicate done 0) (take n zeros) (replicate count 0) before piece (
      StartsWith-from _ _ (replicate (count - (done + n)) 0) (
      ap (λ k. replicate k 0) whole ∙ sym (replicate-append-replicate (done + n) (count - (done + n)) 0) ∙ ap (λ l. l ++ replicate (count - (done + n)) 0) (sym more)
      )
      )

-- a fault of a writer says the same whatever its answer would have been
pub WritesOver-fault : {O T U E : Type 0} (written : O → Option (List ℕ)) (faults : O → ℕ) (sink sink' : O) (old new : MemoryState) (image_fault out_fault fault : E) (text_of : AddressSpace → List ℕ)
    → WritesOver {T = T} written faults sink sink' old new image_fault out_fault (Err fault) text_of → WritesOver {T = U} written faults sink sink' old new image_fault out_fault (Err fault) text_of
WritesOver-fault written faults sink sink' old new image_fault out_fault fault text_of writes = record {
  text = writes.text;
  memory = writes.memory;
  image = record { kept = writes.image.kept; rose = λ failed. let same : fault ≡ image_fault = cc failed in writes.image.rose (ap Err same) };
  out = record { kept = writes.out.kept; rose = λ failed. let same : fault ≡ out_fault = cc failed in writes.out.rose (ap Err same) };
}

-- the fault of a sink that a writer hands on is none of the image, and one of the output where the sink failed
module _ {T : Type 0} (before now : ℕ) where
  pub sink-image : (fault : SinkFault) (result : Result T PluginFault) → IsErrAnd result (λ error. error ≡ plugin_fault_of_sink fault) → before ≤ now → HasCause before now (IsErrOf result plugins.Device)
  sink-image fault (Ok value) same kept = absurd same
  sink-image sinks.Failed (Err error) same kept = record { kept = kept; rose = λ failed. absurd (cc (same, failed)) }
  sink-image sinks.Memory (Err error) same kept = record { kept = kept; rose = λ failed. absurd (cc (same, failed)) }

  pub sink-out : (fault : SinkFault) (result : Result T PluginFault) → IsErrAnd result (λ error. error ≡ plugin_fault_of_sink fault)
      → HasCause before now (IsErrOf {T = Unit {0}} (Err fault) sinks.Failed) → HasCause before now (IsErrOf result plugins.Out)
  sink-out fault (Ok value) same cause = absurd same
  sink-out sinks.Failed (Err error) same cause = record { kept = cause.kept; rose = λ failed. cause.rose refl }
  sink-out sinks.Memory (Err error) same cause = record { kept = cause.kept; rose = λ failed. absurd (cc (same, failed)) }

-- a call on the memory failed before anything was written
pub WritesOver-failed : {O T : Type 0} (written : O → Option (List ℕ)) (faults : O → ℕ) (sink : O) (old new : MemoryState) (text_of : AddressSpace → List ℕ) (result : Result T PluginFault)
    → IsErrAnd result (λ error. error ≡ plugins.Device) → IsSameMemory old new → Rose old.faults new.faults → WritesOver written faults sink sink old new plugins.Device plugins.Out result text_of
WritesOver-failed written faults sink old new text_of (Ok value) failed same rose = absurd failed
WritesOver-failed written faults sink old new text_of (Err error) failed same rose = record {
  text = IfSome-always old.view (λ view. ([], Appends-none (written sink), refl));
  memory = same;
  image = record { kept = same.no_less_faults; rose = λ answered. rose };
  out = record { kept = omega arith; rose = λ answered. absurd (cc (failed, answered)) };
}
