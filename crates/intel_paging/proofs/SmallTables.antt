-- Translations through small tables, by computation.
use Rattle.std.proofs.Common.{◌≡◌, ℕ, ◌*◌, ◌/◌, ◌%◌, ◌^◌, None, Some, refl}
use Rattle.std.specs.Prelude.{nat_lt, if◌then◌else◌, List, [], ◌∷◌, ◌==◌}
use Rattle.layer_base.specs.AddressSpace.{AddressSpace}
use Rattle.layer_base.specs.Present.{present_from}
use Rattle.layer_base.specs.declared.space.Levels.TheVariants.{Four, Five}
use Rattle.layer_base.specs.declared.space.Space.TheVariants.{Paged}
use Rattle.intel_paging.specs.Block.{block_from, block_of, translation}
use Rattle.intel_paging.specs.Word.{word}

-- the entry at a place, of pairs of a place and an entry, and 0 where there is none
entry_at : List (ℕ × ℕ) → ℕ → ℕ
entry_at [] a = 0
entry_at (placed ∷ others) a = if a == placed.0 then placed.1 else entry_at others a

-- the addresses below a size, of which only these entries are not zero
memory_of : ℕ → List (ℕ × ℕ) → AddressSpace
memory_of size entries a = if nat_lt a size then Some (entry_at entries (a / 8 * 8) / 256 ^ (a % 8) % 256) else None

-- one page is the table of each level, and the page that it maps
itself : AddressSpace
unfolding memory_of entry_at
itself = memory_of 0x2000 ((0x1ff8, 0x1003) ∷ [])

itself-last_page : translation itself (Paged 0x1000 Four) 0xfffffffffffff000 ≡ Some 0x1000
unfolding itself memory_of entry_at block_of block_from word present_from
itself-last_page = refl

-- blocks of 2 MiB and of 1 GiB, in whose entries bit 12 is set
great : AddressSpace
unfolding memory_of entry_at
great = memory_of 0x4000 ((0x1000, 0x2003) ∷ (0x2000, 0x3003) ∷ (0x2008, 0x1083) ∷ (0x3000, 0x1083) ∷ [])

great-at_2_MiB : translation great (Paged 0x1000 Four) 0x1ffffc ≡ Some 0x1ffffc
unfolding great memory_of entry_at block_of block_from word present_from
great-at_2_MiB = refl

great-past_2_MiB : block_of great (Paged 0x1000 Four) 0x200000 ≡ record { first = 0x200000; last = 0x3fffff; to = None }
unfolding great memory_of entry_at block_of block_from word present_from
great-past_2_MiB = refl

great-at_1_GiB : translation great (Paged 0x1000 Four) 0x7ffffffc ≡ Some 0x3ffffffc
unfolding great memory_of entry_at block_of block_from word present_from
great-at_1_GiB = refl

great-past_1_GiB : translation great (Paged 0x1000 Four) 0x80000000 ≡ None
unfolding great memory_of entry_at block_of block_from word present_from
great-past_1_GiB = refl

-- one root, of four levels or five
edges : AddressSpace
unfolding memory_of entry_at
edges = memory_of 0x4000 ((0x17f8, 0x2003) ∷ (0x1800, 0x2003) ∷ (0x2ff8, 0x83) ∷ (0x2000, 0x83) ∷ (0x1000, 0x3003) ∷ (0x3800, 0x2003) ∷ [])

edges-four-last_of_lower : translation edges (Paged 0x1000 Four) 0x00007fffffffffff ≡ Some 0x3fffffff
unfolding edges memory_of entry_at block_of block_from word present_from
edges-four-last_of_lower = refl

edges-four-past_lower : translation edges (Paged 0x1000 Four) 0x0000800000000000 ≡ None
unfolding edges memory_of entry_at block_of block_from word present_from
edges-four-past_lower = refl

edges-five-absent : translation edges (Paged 0x1000 Five) 0x00007fffffffffff ≡ None
unfolding edges memory_of entry_at block_of block_from word present_from
edges-five-absent = refl

edges-five-mapped : translation edges (Paged 0x1000 Five) 0x0000800000000000 ≡ Some 0
unfolding edges memory_of entry_at block_of block_from word present_from
edges-five-mapped = refl
