-- The machine of a made image, by its number: how many tasks it has, and where it stands in physical memory and in the
-- kernel's space. Offsets are counted from the start of its memory.
use Rattle.std.specs.Prelude.{ℕ, ◌+◌, ◌*◌, ◌%◌, Bool, ◌==◌}

abbrev pub task_count : ℕ → ℕ
task_count number = 48 * number

-- five levels of page tables where the number is even, else four
abbrev pub has_five_levels : ℕ → Bool
has_five_levels number = number % 2 == 0

-- where its memory starts
abbrev pub start : ℕ → ℕ
start number = 0x200000 * (1 + number % 16)

-- a task's block of eight pages, the first task being 1
abbrev pub block : ℕ → ℕ
block index = 0x100000 + 0x8000 * index

-- how many bytes of memory it has: as far as the block behind that of its last task
abbrev pub memory_size : ℕ → ℕ
memory_size number = block (task_count number + 1)

-- how many large pages the kernel is shifted by
abbrev pub shifted_pages : ℕ → ℕ
shifted_pages number = 7 * number % 16

-- the physical address of an offset
unfoldable pub physical_at : ℕ → ℕ → ℕ
physical_at number offset = start number + offset

-- the address of an offset in the kernel's space
unfoldable pub virtual_at : ℕ → ℕ → ℕ
virtual_at number offset = 0xffffffff80000000 + 0x200000 * shifted_pages number + offset
