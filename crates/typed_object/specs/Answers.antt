-- What a call answers against its definition.
use Rattle.std.specs.Prelude.{◌≡◌, ℕ, ◌+◌, ◌<◌, ◌≤◌, List, Result, Ok, Err}
use Rattle.typed_object.specs.declared.fault.ObjectFault.{ObjectFault}
use Rattle.typed_object.specs.declared.fault.ObjectFault.TheVariants.{Fault, Hole, Device}
use Rattle.typed_object.specs.declared.fault.TextFault.{TextFault}
use Rattle.typed_object.specs.declared.fault.TextFault.TheVariants.{Object, Memory}

-- a fault is the definition's; a failed device says nothing of it
abbrev pub FaultsAs : {A : Type 0} → Result A ObjectFault → ObjectFault → Type 0
FaultsAs wanted (Fault fault) = wanted ≡ Err (Fault fault)
FaultsAs wanted (Hole at) = wanted ≡ Err (Hole at)
FaultsAs wanted Device = Unit {0}

-- a call answers what the definition has, unless a call on the device failed
abbrev pub AnswersAs : {A : Type 0} → Result A ObjectFault → Result A ObjectFault → Type 0
AnswersAs wanted (Ok a) = wanted ≡ Ok a
AnswersAs wanted (Err fault) = FaultsAs wanted fault

-- a call fills a buffer with the bytes that the definition has
abbrev pub ReadsAs : Result (List ℕ) ObjectFault → List ℕ → Result (Unit {0}) ObjectFault → Type 0
ReadsAs wanted buf (Ok done) = wanted ≡ Ok buf
ReadsAs wanted buf (Err fault) = FaultsAs wanted fault

-- a text's fault is the definition's; out of memory says nothing of it
abbrev pub TextFaultsAs : Result (List ℕ) ObjectFault → TextFault → Type 0
TextFaultsAs wanted (Object fault) = FaultsAs wanted fault
TextFaultsAs wanted Memory = Unit {0}

-- the same of a text, unless memory ran out
abbrev pub TextAnswersAs : Result (List ℕ) ObjectFault → Result (List ℕ) TextFault → Type 0
TextAnswersAs wanted (Ok text) = wanted ≡ Ok text
TextAnswersAs wanted (Err fault) = TextFaultsAs wanted fault

-- the address of a hole is one of those that were asked for
abbrev pub IsWithin : ℕ → ℕ → ObjectFault → Type 0
IsWithin at size (Fault fault) = Unit {0}
IsWithin at size (Hole a) = (at ≤ a) × (a < at + size)
IsWithin at size Device = Unit {0}

-- the same of a text
abbrev pub IsTextWithin : ℕ → ℕ → TextFault → Type 0
IsTextWithin at size (Object fault) = IsWithin at size fault
IsTextWithin at size Memory = Unit {0}
