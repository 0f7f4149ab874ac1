-- An entry of a section, and the first of its keys that is at fault.
use Rattle.std.specs.Prelude.{ℕ, List, is_some, if◌then◌else◌, Option, Some, None, Result, Err}
use Rattle.serde_json.specs.Data.{Data}
use Rattle.serde_json.specs.Find.{as_object}
use Rattle.isf_reader.specs.declared.refusal.Key.{Key}
use Rattle.isf_reader.specs.declared.refusal.Key.TheVariants.{Whole}

-- what is read at a key, and then the keys behind it; nothing read is a fault of the key
abbrev pub with_key : {A B : Type 0} → Option A → Key → (A → Result B Key) → Result B Key
with_key None key behind = Err key
with_key (Some a) key behind = behind a

-- an entry is an object
abbrev pub entry_of : {E : Type 0} → (List ℕ → Data → Result E Key) → List ℕ → Data → Result E Key
entry_of reads name d = if is_some (as_object d) then reads name d else Err Whole
