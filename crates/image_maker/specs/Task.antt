-- A task of a made machine, in its block of eight pages.
use Rattle.std.specs.Prelude.{ℕ, zero, suc, ◌+◌, ◌-◌, ◌/◌, ◌%◌, ◌==◌, List, [], ◌∷◌, ◌++◌, codes, if◌then◌else◌}
use Rattle.image_maker.specs.Written.{word, half}
use Rattle.image_maker.specs.Machine.{task_count, has_five_levels, block, physical_at, virtual_at}
use Rattle.image_maker.specs.PageTables.{root_entry, at_five_levels}
use Rattle.image_maker.specs.Kernel.{task_link}

-- where the ring goes on behind a task; behind the last one it closes at the first task of the kernel
abbrev pub next_link : ℕ → ℕ → ℕ
next_link number index = if index == task_count number then virtual_at number 0x3010 else task_link number (index + 1)

-- where the ring comes from
abbrev pub former_link : ℕ → ℕ → ℕ
former_link number index = if index == 1 then virtual_at number 0x3010 else task_link number (index - 1)

-- every fourth task has no memory of its own
abbrev pub memory_of : ℕ → ℕ → ℕ
memory_of number index = if index % 4 == 0 then 0 else virtual_at number (block index + 0x100)

-- the parent of task 1 is the kernel's first task, and that of another one the task of half its number
abbrev pub parent_of : ℕ → ℕ → ℕ
parent_of number index = if index == 1 then virtual_at number 0x3000 else virtual_at number (block (index / 2))

abbrev digit : ℕ → ℕ
digit n = 48 + n % 10

-- `task` and the task's number in four digits
unfoldable pub task_name : ℕ → List ℕ
task_name index = codes "task" ++ digit (index / 1000) ∷ digit (index / 100) ∷ digit (index / 10) ∷ digit index ∷ []

-- its links, its memory, its numbers, its parent, its files and its name
abbrev pub task_struct : ℕ → ℕ → List (ℕ × List ℕ)
task_struct number index =
    (block index + 0x10, word (next_link number index))
    ∷ (block index + 0x18, word (former_link number index))
    ∷ (block index + 0x20, word (memory_of number index))
    ∷ (block index + 0x30, half index)
    ∷ (block index + 0x34, half index)
    ∷ (block index + 0x38, word (parent_of number index))
    ∷ (block index + 0x40, word (virtual_at number (block index + 0x300)))
    ∷ (block index + 0x50, task_name index)
    ∷ []

-- its memory: two areas, of which the first maps the file, and the root of its page tables
abbrev pub task_memory : ℕ → ℕ → List (ℕ × List ℕ)
task_memory number index =
    (block index + 0x100, word (virtual_at number (block index + 0x200)))
    ∷ (block index + 0x108, word (virtual_at number (block index + 0x1000)))
    ∷ (block index + 0x200, word 0x400000)
    ∷ (block index + 0x208, word 0x401000)
    ∷ (block index + 0x210, word (virtual_at number (block index + 0x240)))
    ∷ (block index + 0x218, word 5)
    ∷ (block index + 0x228, word (virtual_at number 0x9400))
    ∷ (block index + 0x240, word 0x7ffd0000)
    ∷ (block index + 0x248, word 0x7ffd2000)
    ∷ (block index + 0x258, word 3)
    ∷ []

-- its open files, which are the file and the pipe
abbrev pub task_files : ℕ → ℕ → List (ℕ × List ℕ)
task_files number index =
    (block index + 0x300, word (virtual_at number (block index + 0x320)))
    ∷ (block index + 0x320, half 2)
    ∷ (block index + 0x328, word (virtual_at number (block index + 0x340)))
    ∷ (block index + 0x340, word (virtual_at number 0x9400))
    ∷ (block index + 0x348, word (virtual_at number 0x9440))
    ∷ []

-- the first entry of its root: it leads to its table of level 3, by a table of level 4 where there are five levels
abbrev pub first_entry : ℕ → ℕ → ℕ
first_entry number index = physical_at number (block index + (if has_five_levels number then 0x6003 else 0x2003))

-- its page tables, which map the kernel and one page of its own that holds the task's number
abbrev pub task_tables : ℕ → ℕ → List (ℕ × List ℕ)
task_tables number index =
    (block index + 0x1000, word (first_entry number index))
    ∷ (block index + 0x1ff8, word (root_entry number))
    ∷ (block index + 0x2000, word (physical_at number (block index + 0x3003)))
    ∷ (block index + 0x3010, word (physical_at number (block index + 0x4003)))
    ∷ (block index + 0x4000, word (physical_at number (block index + 0x5007)))
    ∷ (block index + 0x5000, word index)
    ∷ []

-- the table of level 4 that its root leads to where there are five levels
abbrev pub task_upper : ℕ → ℕ → List (ℕ × List ℕ)
task_upper number index = at_five_levels number (block index + 0x6000) (physical_at number (block index + 0x2003))

unfoldable pub task : ℕ → ℕ → List (ℕ × List ℕ)
task number index =
    task_struct number index ++ task_memory number index ++ task_files number index ++ task_tables number index ++ task_upper number index

-- the tasks from 1 to so many
unfoldable pub tasks : ℕ → ℕ → List (ℕ × List ℕ)
tasks number zero = []
tasks number (suc index) = tasks number index ++ task number (suc index)
