-- The kernel's own objects: its first task, its module and its system calls.
use Rattle.std.specs.Prelude.{ℕ, ◌+◌, ◌*◌, List, [], ◌∷◌, codes}
use Rattle.image_maker.specs.Written.{word, half}
use Rattle.image_maker.specs.Machine.{task_count, block, virtual_at}

-- where the `tasks` of a task stand
abbrev pub task_link : ℕ → ℕ → ℕ
task_link number index = virtual_at number (block index + 0x10)

-- the first task, from which the ring of tasks goes on to task 1 and back to the last one
abbrev pub first_task : ℕ → List (ℕ × List ℕ)
first_task number =
    (0x3010, word (task_link number 1))
    ∷ (0x3018, word (task_link number (task_count number)))
    ∷ (0x3040, word (virtual_at number 0x4000))
    ∷ (0x3050, codes "swapper/0")
    ∷ []

-- the ring of modules and its one module
abbrev pub modules : ℕ → List (ℕ × List ℕ)
modules number =
    (0x5000, word (virtual_at number 0xa008))
    ∷ (0x5008, word (virtual_at number 0xa008))
    ∷ (0xa008, word (virtual_at number 0x5000))
    ∷ (0xa010, word (virtual_at number 0x5000))
    ∷ (0xa018, codes "made")
    ∷ (0xa050, half (4096 * number))
    ∷ []

-- the table of system calls
abbrev pub system_calls : ℕ → List (ℕ × List ℕ)
system_calls number =
    (0x6000, word (virtual_at number 0xc000))
    ∷ (0x6008, word (virtual_at number 0xc080))
    ∷ (0x6010, word (virtual_at number 0xc0c0))
    ∷ []
