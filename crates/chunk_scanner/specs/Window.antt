-- The bytes that a scan keeps.
use Rattle.std.specs.Prelude.{◌≡◌, ℕ, ◌+◌, ◌-◌, ◌≤◌, List, take, drop, length, vec_len, slice_index, EachIndex, Some}
use Rattle.layer_base.specs.AddressSpace.{AddressSpace}
use Rattle.chunk_scanner.specs.declared.window.Window.{Window}

-- each byte is that of the memory, from an address on
abbrev pub AreBytesFrom : AddressSpace → ℕ → List ℕ → Type 0
AreBytesFrom memory at bytes = EachIndex bytes (λ k. memory (at + k) ≡ Some (slice_index bytes k))

-- the bytes that are not passed yet
abbrev pub kept_bytes : Window → List ℕ
kept_bytes window = take (window.end - window.start) (drop window.start window.buf.items)

-- they lie in the buffer
pub record IsWindow (window : Window) : Type 0 where
  pub order : window.start ≤ window.end
  pub within : window.end ≤ vec_len window.buf

-- the bytes that were kept stay in front of those that were read behind them
abbrev pub ReadsOn : Window → Window → Type 0
ReadsOn old new = take (length (kept_bytes old)) (kept_bytes new) ≡ kept_bytes old
