-- Which row is the parent of a row.
use Rattle.std.specs.Prelude.{ℕ, ℤ, pos, negsuc, Bool, true, false, List, Option, Some, None, slice_get, position, option_and_then}
use Rattle.std.specs.Ordering.{bool_cmp, int_eq, nat_cmp, ordering_then}
use Rattle.std.specs.declared.cmp.Ordering.{Ordering}
use Rattle.kernel_records.specs.Whole.{whole}
use Rattle.layer_base.specs.declared.number.Number.{Number}
use Rattle.tree_order.specs.declared.key.Key.{Key}

-- whether a number is present and is this whole number
abbrev pub is_whole : ℤ → Option Number → Bool
is_whole whole_number None = false
is_whole whole_number (Some number) = int_eq (whole number) whole_number

-- the first row whose PID is this whole number
abbrev pub row_of : List Key → ℤ → Option ℕ
row_of keys pid = position (λ key. is_whole pid key.pid) keys

-- the row that a PPID names, if it is present
abbrev pub parent_by : List Key → Option Number → Option ℕ
parent_by keys ppid = option_and_then (λ number. row_of keys (whole number)) ppid

-- the parent of a row: the first row whose PID is present and equals the row's PPID, which is present
unfoldable pub parent : List Key → ℕ → Option ℕ
parent keys row = option_and_then (λ key. parent_by keys key.ppid) (slice_get keys row)

-- a whole number as its sign and how far it is from 0, or from -1 where it is negative
abbrev pub sign_and_size : ℤ → Bool × ℕ
sign_and_size (pos n) = (false, n)
sign_and_size (negsuc n) = (true, n)

-- the order of such pairs
abbrev pub key_cmp : Bool × ℕ → Bool × ℕ → Ordering
key_cmp key other = ordering_then (bool_cmp key.0 other.0) (nat_cmp key.1 other.1)
