-- The kernel's page tables. An entry is present and writable by its two low bits; with 0x80 it maps a large page.
use Rattle.std.specs.Prelude.{ℕ, zero, suc, ◌+◌, ◌*◌, ◌/◌, List, [], ◌∷◌, ◌++◌, if◌then◌else◌}
use Rattle.image_maker.specs.Written.{word}
use Rattle.image_maker.specs.Machine.{has_five_levels, shifted_pages, memory_size, physical_at}

-- the last entry of a root: it leads to the table of level 3, by a table of level 4 where there are five levels
abbrev pub root_entry : ℕ → ℕ
root_entry number = physical_at number (if has_five_levels number then 0xb003 else 0x2003)

-- an entry of the table of level 4 below a root of five levels: it leads to a table of level 3
abbrev pub at_five_levels : ℕ → ℕ → ℕ → List (ℕ × List ℕ)
at_five_levels number offset entry = if has_five_levels number then (offset, word entry) ∷ [] else []

-- how many large pages hold the machine's memory
abbrev pub large_page_count : ℕ → ℕ
large_page_count number = (memory_size number + 0x1fffff) / 0x200000

-- the entry of a large page, the first one being 0
abbrev pub large_page : ℕ → ℕ → ℕ × List ℕ
large_page number index = (0x7000 + 8 * (shifted_pages number + index), word (physical_at number (0x200000 * index + 0x83)))

-- the entries of so many large pages
abbrev pub large_pages : ℕ → ℕ → List (ℕ × List ℕ)
large_pages number zero = []
large_pages number (suc index) = large_pages number index ++ large_page number index ∷ []

-- the tables above those of large pages
abbrev pub upper_tables : ℕ → List (ℕ × List ℕ)
upper_tables number = (0x1ff8, word (root_entry number)) ∷ (0x2ff0, word (physical_at number 0x7003)) ∷ []

-- the table of level 4 that a root of five levels leads to
abbrev pub fifth_level : ℕ → List (ℕ × List ℕ)
fifth_level number = at_five_levels number 0xbff8 (physical_at number 0x2003)

unfoldable pub page_tables : ℕ → List (ℕ × List ℕ)
page_tables number = upper_tables number ++ fifth_level number ++ large_pages number (large_page_count number)
