-- The sections of a symbol file.
use Rattle.std.specs.Prelude.{ℕ, List, [], Option, Some, None, Result, Ok, Err, Vec}
use Rattle.std.specs.declared.alloc.Global.{Global}
use Rattle.std.specs.Cmp.Lexicographic.{slice_cmp}
use Rattle.std.specs.Ordering.{nat_cmp}
use Rattle.std.specs.Result.{result_map_both}
use Rattle.std.specs.BTreeMap.{insert_entry}
use Rattle.serde_json.specs.Data.{Data, null, boolean, number, string, array, object, Members, no_members, member}
use Rattle.isf_reader.specs.Entry.{entry_of}
use Rattle.isf_reader.specs.declared.refusal.Key.{Key}
use Rattle.isf_reader.specs.declared.section.Fault.{Fault}
use Rattle.isf_reader.specs.declared.refusal.Key.TheVariants.{Whole}

module _ {E : Type 0} (reads : List ℕ → Data → Result E Key) where
  -- an entry, and then the entries behind it; a fault is told with the entry's name
  abbrev pub and_behind : List ℕ → Result E Key → (E → Result (List (List ℕ × E)) (List ℕ × Key)) → Result (List (List ℕ × E)) (List ℕ × Key)
  and_behind name (Ok entry) behind = behind entry
  and_behind name (Err key) behind = Err (name, key)

  -- the entries that these members are beside those found so far, in byte order of their names; or the first at fault
  abbrev pub entries_onto : List (List ℕ × E) → Members → Result (List (List ℕ × E)) (List ℕ × Key)
  entries_onto found no_members = Ok found
  entries_onto found (member name d ms) = and_behind name (entry_of reads name d) (λ entry. entries_onto (insert_entry (slice_cmp nat_cmp) found name entry) ms)

  -- what stands at a section's key is null, or an object of entries
  abbrev pub section_in : Data → Result (List (List ℕ × E)) (List ℕ × Key)
  section_in null = Ok []
  section_in (boolean b) = Err ([], Whole)
  section_in (number n) = Err ([], Whole)
  section_in (string s) = Err ([], Whole)
  section_in (array ds) = Err ([], Whole)
  section_in (object ms) = entries_onto [] ms

  -- a section that is missing is empty
  abbrev pub section_of : Option Data → Result (List (List ℕ × E)) (List ℕ × Key)
  section_of None = Ok []
  section_of (Some d) = section_in d

-- the entries that were read, or the fault
abbrev pub told : {E : Type 0} → Result (Vec (List ℕ × E) Global) Fault → Result (List (List ℕ × E)) (List ℕ × Key)
told read = result_map_both (λ entries. entries.items) (λ fault. (fault.name, fault.key)) read
