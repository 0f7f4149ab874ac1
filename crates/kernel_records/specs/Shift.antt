-- Addresses of a kernel and of its symbols.
use Rattle.std.specs.Prelude.{ℕ, ◌+◌, ◌-◌, ◌%◌, ◌^◌}
use Rattle.kernel_records.specs.declared.kernel.Kernel.{Kernel}

-- the address in the kernel of what the symbol file has at an address
abbrev pub shifted : Kernel → ℕ → ℕ
shifted kernel address = (address + kernel.shift) % 2 ^ 64

-- the address in the symbol file of what the kernel has at an address
abbrev pub unshifted : Kernel → ℕ → ℕ
unshifted kernel address = (address + (2 ^ 64 - kernel.shift)) % 2 ^ 64
