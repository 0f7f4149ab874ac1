-- How the block around an address comes from the entries that were read.
use Rattle.std.proofs.Common.{◌≡◌, ℕ, ◌-◌, ◌^◌, ◌≤◌, true, Option, None, Some, Result, sym, ap, ◌∙◌}
use Rattle.std.specs.Option.{IfSome}
use Rattle.std.specs.Result.{IfOk}
use Rattle.std.proofs.lemmas.Result.{IfOk-weaker}
use Rattle.layer_base.specs.Mapped.{block_around, block_size}
use Rattle.layer_base.specs.Space.{page_address}
use Rattle.layer_base.specs.View.{View, physical}
use Rattle.layer_base.specs.declared.space.Levels.{Levels}
use Rattle.layer_base.specs.declared.space.Mapped.{Mapped}
use Rattle.layer_base.specs.declared.space.Space.{Space}
use Rattle.layer_base.specs.declared.space.Space.TheVariants.{Phys, Paged}
use Rattle.intel_paging.specs.Block.{block_by, block_from, non_canonical}
use Rattle.intel_paging.specs.Entry.{entry_of}
use Rattle.intel_paging.specs.Paging.{count_of, entry_address, is_canonical}
use Rattle.intel_paging.specs.Walk.{IsBlock}
use Rattle.intel_paging.specs.Word.{word}
use Rattle.intel_paging.specs.declared.entry.Entry.{Entry}
use Rattle.intel_paging.specs.declared.entry.Entry.TheVariants.{Table}
use Rattle.intel_paging.proofs.Blocks.{block_from-level, IsBlock-canonical, IsBlock-non_canonical, IsBlock-Phys}

-- the entry of an address in a table of a level was read
abbrev pub IsRead : Option View → ℕ → ℕ → ℕ → Entry → Type 0
IsRead told level table a entry = IfSome told (λ view. entry ≡ entry_of level (word (physical view) (entry_address level table a)))

module _ (told : Option View) (level table a : ℕ) (least : 1 ≤ level) (entry : Entry) (read : IsRead told level table a entry) where
  -- the entry maps a block, or nothing
  pub by_block : (to : Option ℕ) (run : Mapped) → ((below : ℕ → Mapped) → block_by (block_size level) a entry below ≡ block_around (block_size level) a to)
      → run ≡ block_around (block_size level) a to → IfSome told (λ view. run ≡ block_from (physical view) level table a)
  by_block to run maps is = elim told as (λ t. IsRead t level table a entry → IfSome t (λ view. run ≡ block_from (physical view) level table a)) [
    | None ↦ λ read. tt
    | Some view ↦ λ read. is ∙ sym (maps (λ at. block_from (physical view) (level - 1) at a)) ∙ ap (λ e. block_by (block_size level) a e (λ at. block_from (physical view) (level - 1) at a)) read ∙ sym (block_from-level (physical view) level table a least)
  ] read

  -- the entry names a table, and the layer tells the same as before
  pub by_table : {E : Type 0} (now : Option View) (at : ℕ) (result : Result Mapped E) → entry ≡ Table at → now ≡ told
      → IfSome now (λ view. IfOk result (λ run. run ≡ block_from (physical view) (level - 1) at a)) → IfSome told (λ view. IfOk result (λ run. run ≡ block_from (physical view) level table a))
  by_table now at result is same below = elim told as (λ t. IsRead t level table a entry → IfSome t (λ view. IfOk result (λ run. run ≡ block_from (physical view) (level - 1) at a)) → IfSome t (λ view. IfOk result (λ run. run ≡ block_from (physical view) level table a))) [
    | None ↦ λ read below. tt
    | Some view ↦ λ read below.
        let maps : block_by (block_size level) a entry (λ at. block_from (physical view) (level - 1) at a) ≡ block_from (physical view) (level - 1) at a = ap (λ e. block_by (block_size level) a e (λ at. block_from (physical view) (level - 1) at a)) is in
        let up : block_from (physical view) (level - 1) at a ≡ block_from (physical view) level table a = sym maps ∙ ap (λ e. block_by (block_size level) a e (λ at. block_from (physical view) (level - 1) at a)) read ∙ sym (block_from-level (physical view) level table a least) in
        IfOk-weaker result (λ run. run ≡ block_from (physical view) (level - 1) at a) (λ run. run ≡ block_from (physical view) level table a) (λ run run_is. run_is ∙ up) below
  ] read (rw same at below)

module _ (told : Option View) (space : Space) where
  -- physical memory is one block
  pub by_phys : space ≡ Phys → IfSome told (λ view. IsBlock (physical view) space (record { first = 0; last = 2 ^ 64 - 1; to = Some 0 }))
  by_phys is = rw is (elim told as (λ t. IfSome t (λ view. IsBlock (physical view) Phys (record { first = 0; last = 2 ^ 64 - 1; to = Some 0 }))) [
    | None ↦ tt
    | Some view ↦ IsBlock-Phys (physical view)
  ])

  -- the address is not canonical
  pub by_bits : (root : ℕ) (levels : Levels) (run : Mapped) → space ≡ Paged root levels → run ≡ non_canonical levels → IfSome told (λ view. IsBlock (physical view) space run)
  by_bits root levels run paged is = rw (paged, is) (elim told as (λ t. IfSome t (λ view. IsBlock (physical view) (Paged root levels) (non_canonical levels))) [
    | None ↦ tt
    | Some view ↦ IsBlock-non_canonical (physical view) root levels
  ])

  -- the address is canonical
  pub by_tables : {E : Type 0} (root : ℕ) (levels : Levels) (level table a : ℕ) (result : Result Mapped E) → space ≡ Paged root levels → is_canonical levels a ≡ true → level ≡ count_of levels → table ≡ page_address root
      → IfSome told (λ view. IfOk result (λ run. run ≡ block_from (physical view) level table a)) → IfSome told (λ view. IfOk result (IsBlock (physical view) space))
  by_tables root levels level table a result paged canonical top start found = rw paged (elim told as (λ t. IfSome t (λ view. IfOk result (λ run. run ≡ block_from (physical view) (count_of levels) (page_address root) a)) → IfSome t (λ view. IfOk result (IsBlock (physical view) (Paged root levels)))) [
    | None ↦ λ found. tt
    | Some view ↦ λ found. IfOk-weaker result (λ run. run ≡ block_from (physical view) (count_of levels) (page_address root) a) (IsBlock (physical view) (Paged root levels)) (λ run is. IsBlock-canonical (physical view) root levels a run canonical is) found
  ] (rw (top, start) at found))
