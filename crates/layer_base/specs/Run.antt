-- What a layer answers about the addresses from `at` on.
use Rattle.std.specs.Prelude.{◌≡◌, ℕ, ◌≤◌, List, map, take, None, Some}
use Rattle.layer_base.specs.AddressSpace.{AddressSpace, bytes_from}
use Rattle.layer_base.specs.declared.layer.Run.{Run}
use Rattle.layer_base.specs.declared.layer.Run.TheVariants.{Present, Absent}

-- the numbers of an answer are in their bounds: at least one byte and no more than there is room for, or a hole that holds `at`
abbrev pub IsWithin : ℕ → ℕ → Run → Type 0
IsWithin at room (Present count) = (1 ≤ count) × (count ≤ room)
IsWithin at room (Absent last) = at ≤ last

-- the answer is true of the memory: the bytes from `at` on stand in the front of the buffer, or all addresses to the last are absent
abbrev pub IsTrueOf : AddressSpace → ℕ → List ℕ → Run → Type 0
IsTrueOf memory at buf (Present count) = bytes_from memory at count ≡ map Some (take count buf)
IsTrueOf memory at buf (Absent last) = (a : ℕ) → at ≤ a → a ≤ last → memory a ≡ None
