-- The laws of blocks.
use Rattle.std.proofs.Common.{◌≡◌, ℕ, zero, suc, ◌+◌, ◌-◌, ◌*◌, ◌/◌, ◌%◌, ◌^◌, ◌<◌, ◌≤◌, min, max, Bool, true, false, Option, None, Some, ◌⊎◌, inl, inr, refl, sym, ap, ◌∙◌, arith, pow_pos}
use Rattle.std.specs.Option.{IfSome}
use Rattle.std.specs.Prelude.{if◌then◌else◌}
use Rattle.std.proofs.Math.Nat.{div-div-eq-div-mul, mul-mod_left}
use Rattle.std.proofs.lemmas.Bool.{cases_lt}
use Rattle.std.proofs.lemmas.Bool.Decides.{nat_tests}
use Rattle.std.proofs.lemmas.Nat.{div-mul-add, pow-add}
use Rattle.layer_base.specs.AddressSpace.{AddressSpace}
use Rattle.layer_base.specs.Mapped.{block_around, block_size, Holds, IsAligned}
use Rattle.layer_base.specs.Space.{page_address}
use Rattle.layer_base.specs.declared.space.Levels.{Levels}
use Rattle.layer_base.specs.declared.space.Levels.TheVariants.{Four, Five}
use Rattle.layer_base.specs.declared.space.Mapped.{Mapped}
use Rattle.layer_base.specs.declared.space.Space.{Space}
use Rattle.layer_base.specs.declared.space.Space.TheVariants.{Phys, Paged}
use Rattle.intel_paging.specs.Block.{block_by, block_from, block_of, non_canonical}
use Rattle.intel_paging.specs.Entry.{entry_of}
use Rattle.intel_paging.specs.Paging.{count_of, entry_address, is_canonical}
use Rattle.intel_paging.specs.Walk.{IsBlock}
use Rattle.intel_paging.specs.Word.{word}
use Rattle.intel_paging.specs.declared.entry.Entry.{Entry}
use Rattle.intel_paging.specs.declared.entry.Entry.TheVariants.{Hole, Frame, Table}

-- a block ends where the addresses do, or before
pub block_around-fits : (level a : ℕ) → 1 ≤ level → level ≤ 5 → a < 2 ^ 64 → a / block_size level * block_size level + (block_size level - 1) < 2 ^ 64
block_around-fits zero a least most below = absurd (omega arith)
block_around-fits (suc zero) a least most below = omega arith
block_around-fits (suc (suc zero)) a least most below = omega arith
block_around-fits (suc (suc (suc zero))) a least most below = omega arith
block_around-fits (suc (suc (suc (suc zero)))) a least most below = omega arith
block_around-fits (suc (suc (suc (suc (suc zero))))) a least most below = omega arith
block_around-fits (suc (suc (suc (suc (suc (suc n)))))) a least most below = absurd (omega arith)

-- 512 entries of a level make a block of the next
block_size-suc : (n : ℕ) → block_size (suc (suc n)) ≡ block_size (suc n) * 512
block_size-suc n =
    let more : 12 + 9 * (suc (suc n) - 1) ≡ 12 + 9 * (suc n - 1) + 9 = omega arith in
    ap (λ e. 2 ^ e) more ∙ pow-add 2 (12 + 9 * (suc n - 1)) 9

-- addresses in one block of a level are in one block of the next
up : (level a b : ℕ) → a / block_size level ≡ b / block_size level → a / block_size (suc level) ≡ b / block_size (suc level)
up zero a b same = same
up (suc n) a b same =
    let quotient : (c : ℕ) → c / block_size (suc (suc n)) ≡ c / block_size (suc n) / 512 = λ c. ap (λ size. c / size) (block_size-suc n) ∙ sym (div-div-eq-div-mul c (block_size (suc n)) 512) in
    quotient a ∙ ap (λ q. q / 512) same ∙ sym (quotient b)

pub block_size-some : (level : ℕ) → 0 < block_size level
block_size-some level = pow_pos (12 + 9 * (level - 1))

-- an address that a block around another holds is in the same block
in_block : (level a b : ℕ) (to : Option ℕ) → Holds (block_around (block_size level) b to) a → a / block_size level ≡ b / block_size level
in_block level a b to holds =
    let first = holds.first in
    let last = holds.last in
    let some = block_size-some level in
    let place : b / block_size level * block_size level + (a - b / block_size level * block_size level) ≡ a = omega arith in
    ap (λ c. c / block_size level) (sym place) ∙ div-mul-add (b / block_size level) (block_size level) (a - b / block_size level * block_size level) (omega arith)

-- what an entry of a level maps around an address lies within one block of the level, where what lies below it does
in_block_by : (level a b : ℕ) (entry : Entry) (below : ℕ → Mapped) → ((at : ℕ) → Holds (below at) a → a / block_size level ≡ b / block_size level)
    → Holds (block_by (block_size (suc level)) b entry below) a → a / block_size (suc level) ≡ b / block_size (suc level)
in_block_by level a b Hole below inside holds = in_block (suc level) a b None holds
in_block_by level a b (Frame to) below inside holds = in_block (suc level) a b (Some to) holds
in_block_by level a b (Table at) below inside holds = up level a b (inside at holds)

-- what a table of a level maps around an address lies within one block of the level
pub in_block_from : (memory : AddressSpace) (level table a b : ℕ) → Holds (block_from memory level table b) a → a / block_size level ≡ b / block_size level
unfolding block_from
in_block_from memory zero table a b holds = in_block 1 a b None holds
in_block_from memory (suc level) table a b holds =
    in_block_by level a b (entry_of (suc level) (word memory (entry_address (suc level) table b))) (λ at. block_from memory level at b) (λ at. in_block_from memory level at a b) holds

block_around-same : (size a b : ℕ) (to : Option ℕ) → a / size ≡ b / size → block_around size a to ≡ block_around size b to
block_around-same size a b to same = ap around same
  where
    around : ℕ → Mapped
    around q = record { first = q * size; last = q * size + (size - 1); to = to }

block_by-same : (size a b : ℕ) (entry : Entry) (here there : ℕ → Mapped) → a / size ≡ b / size → ((at : ℕ) → Holds (there at) a → here at ≡ there at)
    → Holds (block_by size b entry there) a → block_by size a entry here ≡ block_by size b entry there
block_by-same size a b Hole here there same below holds = block_around-same size a b None same
block_by-same size a b (Frame to) here there same below holds = block_around-same size a b (Some to) same
block_by-same size a b (Table at) here there same below holds = below at holds

-- what a table maps around each address of a block is that block
pub block_from-same : (memory : AddressSpace) (level table a b : ℕ) → Holds (block_from memory level table b) a → block_from memory level table a ≡ block_from memory level table b
unfolding block_from
block_from-same memory zero table a b holds = block_around-same (2 ^ 12) a b None (in_block 1 a b None holds)
block_from-same memory (suc level) table a b holds =
    let same = in_block_from memory (suc level) table a b holds in
    ap (λ q. block_by (block_size (suc level)) a (entry_of (suc level) (word memory (table + 8 * (q % 512)))) (λ at. block_from memory level at a)) same
    ∙ block_by-same (block_size (suc level)) a b (entry_of (suc level) (word memory (entry_address (suc level) table b))) (λ at. block_from memory level at a) (λ at. block_from memory level at b) same (λ at. block_from-same memory level at a b) holds

-- a block of the highest level is canonical as a whole
canonical-same : (levels : Levels) (a b : ℕ) → a / block_size (count_of levels) ≡ b / block_size (count_of levels) → is_canonical levels b ≡ true → is_canonical levels a ≡ true
canonical-same Four a b same is = grind (arith, nat_tests)
canonical-same Five a b same is = grind (arith, nat_tests)

between : (levels : Levels) (a : ℕ) → Holds (non_canonical levels) a → is_canonical levels a ≡ false
between Four a holds = let first = holds.first in let last = holds.last in grind (arith, nat_tests)
between Five a holds = let first = holds.first in let last = holds.last in grind (arith, nat_tests)

-- the block of each address in the block of a canonical address
pub IsBlock-canonical : (memory : AddressSpace) (root : ℕ) (levels : Levels) (a : ℕ) (run : Mapped) → is_canonical levels a ≡ true → run ≡ block_from memory (count_of levels) (page_address root) a → IsBlock memory (Paged root levels) run
unfolding block_of
IsBlock-canonical memory root levels a run canonical is b holds =
    let inside = rw is at holds in
    let too = canonical-same levels b a (in_block_from memory (count_of levels) (page_address root) b a inside) canonical in
    rw too (block_from-same memory (count_of levels) (page_address root) b a inside ∙ sym is)

pub IsBlock-non_canonical : (memory : AddressSpace) (root : ℕ) (levels : Levels) → IsBlock memory (Paged root levels) (non_canonical levels)
unfolding block_of
IsBlock-non_canonical memory root levels a holds = rw (between levels a holds) refl

pub IsBlock-Phys : (memory : AddressSpace) → IsBlock memory Phys (record { first = 0; last = 2 ^ 64 - 1; to = Some 0 })
unfolding block_of
IsBlock-Phys memory a holds = refl

-- the block of an entry is aligned
pub IsAligned-block_around : (level a : ℕ) (to : Option ℕ) → 1 ≤ level → level ≤ 5 → IfSome to (λ place. place < 2 ^ 52) → IsAligned (block_around (block_size level) a to)
IsAligned-block_around level a to least most fits = record { level = level; least = least; most = most; aligned = mul-mod_left (a / block_size level) (block_size level); size = refl; to = fits }

-- what a table of a level maps is what the entry of the address says
pub block_from-level : (memory : AddressSpace) (level table a : ℕ) → 1 ≤ level
    → block_from memory level table a ≡ block_by (block_size level) a (entry_of level (word memory (entry_address level table a))) (λ at. block_from memory (level - 1) at a)
unfolding block_from
block_from-level memory zero table a least = absurd (omega arith)
block_from-level memory (suc level) table a least = let below : suc level - 1 ≡ level = omega arith in rw below refl

-- blocks that hold an address in common are one
pub IsBlock-meeting : (memory : AddressSpace) (space : Space) (run other : Mapped) (a : ℕ) → IsBlock memory space run → IsBlock memory space other → Holds run a → Holds other a → run ≡ other
IsBlock-meeting memory space run other a is other_is here there = sym (is a here) ∙ other_is a there

-- the block of an address is the block of each address that it holds
pub IsBlock-block_of : (memory : AddressSpace) (space : Space) (a : ℕ) → IsBlock memory space (block_of memory space a)
unfolding block_of
IsBlock-block_of memory Phys a = IsBlock-Phys memory
IsBlock-block_of memory (Paged root levels) a = by_bits (is_canonical levels a) refl
  where
    by_bits : (canonical : Bool) → is_canonical levels a ≡ canonical
        → IsBlock memory (Paged root levels) (if canonical then block_from memory (count_of levels) (page_address root) a else non_canonical levels)
    by_bits true is = IsBlock-canonical memory root levels a (block_from memory (count_of levels) (page_address root) a) is refl
    by_bits false is = IsBlock-non_canonical memory root levels

-- two blocks of a space are equal, or no address is in both
pub block_of-apart : (memory : AddressSpace) (space : Space) (a b : ℕ)
    → (block_of memory space a ≡ block_of memory space b) ⊎ ((c : ℕ) → Holds (block_of memory space a) c → Holds (block_of memory space b) c → ⊥)
block_of-apart memory space a b = apart (block_of memory space a) (block_of memory space b) (λ c here there. IsBlock-meeting memory space (block_of memory space a) (block_of memory space b) c (IsBlock-block_of memory space a) (IsBlock-block_of memory space b) here there)
  where
    apart : (run other : Mapped) → ((c : ℕ) → Holds run c → Holds other c → run ≡ other) → (run ≡ other) ⊎ ((c : ℕ) → Holds run c → Holds other c → ⊥)
    apart run other same = elim (cases_lt (min run.last other.last) (max run.first other.first)) [
      | inl none ↦ inr (λ c here there. absurd (omega (arith, here.first, here.last, there.first, there.last)))
      | inr some ↦ inl (same (max run.first other.first) (record { first = omega arith; last = omega arith }) (record { first = omega arith; last = omega arith }))
    ]
