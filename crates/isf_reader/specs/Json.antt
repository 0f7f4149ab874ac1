-- Looking into an entry of a symbol file.
use Rattle.std.specs.Prelude.{ℕ, ◌^◌, ℤ, List, Bool, nat_lt, if◌then◌else◌, Option, Some, None, option_and_then}
use Rattle.serde_json.specs.Data.{Data, null, boolean, number, string, array, object}
use Rattle.serde_json.specs.Find.{get, as_bool, as_integer, as_number, as_str, as_u64}

-- the value, but for null
abbrev pub unless_null : Data → Option Data
unless_null null = None
unless_null (boolean b) = Some (boolean b)
unless_null (number n) = Some (number n)
unless_null (string s) = Some (string s)
unless_null (array ds) = Some (array ds)
unless_null (object ms) = Some (object ms)

-- what stands at a key: None where the key is missing, or null
abbrev pub given : List ℕ → Data → Option Data
given key d = option_and_then unless_null (get key d)

-- a count: a whole number from 0 to 4,294,967,295
abbrev pub if_count : ℕ → Option ℕ
if_count n = if nat_lt n (2 ^ 32) then Some n else None

-- the whole number from 0 on that a value is
abbrev pub natural_of : Data → Option ℕ
natural_of d = option_and_then as_u64 (as_number d)

-- the whole number that a value is
abbrev pub integer_of : Data → Option ℤ
integer_of d = option_and_then as_integer (as_number d)

abbrev pub count_of : Data → Option ℕ
count_of d = option_and_then if_count (natural_of d)

-- the count, the text, the number, true or false at a key
abbrev pub count_at : List ℕ → Data → Option ℕ
count_at key d = option_and_then count_of (get key d)

abbrev pub text_at : List ℕ → Data → Option (List ℕ)
text_at key d = option_and_then as_str (get key d)

abbrev pub natural_at : List ℕ → Data → Option ℕ
natural_at key d = option_and_then natural_of (get key d)

abbrev pub flag_at : List ℕ → Data → Option Bool
flag_at key d = option_and_then as_bool (get key d)
