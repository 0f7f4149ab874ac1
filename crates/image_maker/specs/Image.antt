-- The made image of a number: a LiME file of two ranges.
use Rattle.std.specs.Prelude.{ℕ, ◌+◌, ◌-◌, List, [], ◌∷◌, ◌++◌}
use Rattle.image_maker.specs.Written.{zeros, written}
use Rattle.image_maker.specs.Header.{header}
use Rattle.image_maker.specs.Machine.{task_count, start, memory_size}
use Rattle.image_maker.specs.PageTables.{page_tables}
use Rattle.image_maker.specs.Kernel.{first_task, modules, system_calls}
use Rattle.image_maker.specs.Files.{root_mount, dentries, names, pipe, open_files}
use Rattle.image_maker.specs.Banner.{banner}
use Rattle.image_maker.specs.Task.{tasks}

-- the kernel's objects and its files
unfoldable pub kernel : ℕ → List (ℕ × List ℕ)
kernel number =
    first_task number ++ modules number ++ system_calls number ++ (0x8000, banner number) ∷ []
    ++ root_mount number ++ dentries number ++ names ++ pipe number ++ open_files number

-- the memory of the machine: zero but for its page tables, its kernel and its tasks
unfoldable pub machine : ℕ → List ℕ
machine number = written (page_tables number ++ kernel number ++ tasks number (task_count number)) (zeros (memory_size number))

-- what stands in front of the machine's memory: a range of zeros below 1 MiB, and the header of the machine's own range
unfoldable pub front : ℕ → List ℕ
front number = header 0x1000 0x9ffff ++ zeros 0x9f000 ++ header (start number) (start number + memory_size number - 1)

unfoldable pub made_image : ℕ → List ℕ
made_image number = front number ++ machine number
