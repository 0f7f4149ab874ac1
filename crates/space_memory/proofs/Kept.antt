-- The runs that a memory keeps are true of it.
use Rattle.std.proofs.Common.{◌≡◌, ℕ, ◌<◌, ◌≤◌, Bool, true, false, Option, None, Some, IfSome, ◌↔◌, ◌⊎◌, inl, inr, refl, sym, ◌∙◌, ap, zero, suc, arith}
use Rattle.layer_base.specs.AddressSpace.{AddressSpace}
use Rattle.layer_base.specs.Mapped.{Holds, IsAligned}
use Rattle.layer_base.specs.Space.{page_address}
use Rattle.layer_base.specs.View.{View, physical}
use Rattle.layer_base.specs.declared.space.Mapped.{Mapped}
use Rattle.layer_base.specs.declared.space.Space.{Space}
use Rattle.layer_base.specs.declared.space.Space.TheVariants.{Phys, Paged}
use Rattle.layer_base.proofs.Told.{IfSome-always, IfSome-both}
use Rattle.std.proofs.lemmas.Option.{IfSome_then}
use Rattle.intel_paging.specs.Block.{block_of}
use Rattle.intel_paging.specs.Walk.{IsBlock, asks_tables}
use Rattle.run_cache.specs.Cache.{CacheState, IsPaged, HoldsIn, IsCache, NoneHolds, cleared, kept_run}
use Rattle.run_cache.specs.Changes.{IsFound, in_front}
use Rattle.run_cache.specs.declared.cache.Kept.{Kept}
use Rattle.run_cache.specs.declared.cache.Kept.TheVariants as kinds
use Rattle.run_cache.proofs.Callers.{EachKept-found, EachKept-kept, of_found}
use Rattle.space_memory.specs.Kept.{IsHeldHole, IsTrueCache, KeepsRuns, WasKept}

-- a root whose other bits are cleared leads where the root does
cleared-again : (root : ℕ) → page_address (page_address root) ≡ page_address root
cleared-again root = omega arith

block_of-cleared : (memory : AddressSpace) (space : Space) (a : ℕ) → block_of memory (cleared space) a ≡ block_of memory space a
unfolding block_of
block_of-cleared memory Phys a = refl
block_of-cleared memory (Paged root levels) a = rw (cleared-again root) refl

-- a block of a space is one of the space whose root is cleared
pub IsBlock-cleared : (memory : AddressSpace) (space : Space) (run : Mapped) → IsBlock memory space run → IsBlock memory (cleared space) run
IsBlock-cleared memory space run block a holds = block_of-cleared memory space a ∙ block a holds

pub IsBlock-uncleared : (memory : AddressSpace) (space : Space) (run : Mapped) → IsBlock memory (cleared space) run → IsBlock memory space run
IsBlock-uncleared memory space run block a holds = sym (block_of-cleared memory space a) ∙ block a holds

-- tables are asked in a paged space alone
pub paged : (space : Space) (at : ℕ) → asks_tables space at ≡ true → IsPaged space
paged Phys at asks = absurd (cc asks)
paged (Paged root levels) at asks = tt

-- a walk takes no step back
pub no_fewer : (asks : Bool) (before now : ℕ) → (asks ≡ true → before < now) → (asks ≡ false → now ≡ before) → before ≤ now
no_fewer true before now more same = omega (arith, more refl)
no_fewer false before now more same = omega (arith, same refl)

module _ (told : Option View) (space : Space) (run : Mapped) (old new : CacheState) (found : IsFound (kept_run space run) old new) where
  -- a run that was found is true of the memory
  pub found-block : IsTrueCache told old → IfSome told (λ view. IsBlock (physical view) space run)
  found-block cache = IfSome_then told cache.blocks (λ view blocks.
      IsBlock-uncleared (physical view) space run (of_found (kept_run space run) old new found (λ kept. IsBlock (physical view) kept.space kept.run) blocks))

  pub found-aligned : IsTrueCache told old → IsAligned run
  found-aligned cache = of_found (kept_run space run) old new found (λ kept. IsAligned kept.run) cache.valid.aligned

  -- and so is each kept run still
  pub found-cache : IsCache new → IsTrueCache told old → IsTrueCache told new
  found-cache valid cache = record {
    valid = valid;
    blocks = IfSome_then told cache.blocks (λ view blocks. EachKept-found (kept_run space run) old new found (λ kept. IsBlock (physical view) kept.space kept.run) blocks);
  }

  -- a hole that is held is a hole
  pub found-hole : (at : ℕ) → Holds run at → IsHeldHole space at old → run.to ≡ None
  found-hole at holds held = of_found (kept_run space run) old new found (λ kept. HoldsIn space at kept → kept.run.to ≡ None) held.holes (record { space_is = refl; holds = holds })

-- a run of the tables was kept
pub kept-cache : (told : Option View) (space : Space) (run : Mapped) (result : Kept) (old new : CacheState) → (result ≡ kinds.Off) ↔ (old.capacity ≡ 0) → (old.capacity ≡ 0 → new ≡ old)
    → (result ≡ kinds.Front → new ≡ record { capacity = old.capacity; kept = in_front old.capacity (kept_run space run) old.kept; last = Some (kept_run space run) })
    → (result ≡ kinds.Memory → new ≡ record { capacity = old.capacity; kept = old.kept; last = Some (kept_run space run) })
    → IsCache new → IfSome told (λ view. IsBlock (physical view) space run) → IsTrueCache told old → IsTrueCache told new
kept-cache told space run result old new off nothing front memory valid block cache = record {
  valid = valid;
  blocks = IfSome-both told block cache.blocks (λ view here blocks. EachKept-kept result (kept_run space run) old new off nothing front memory (λ kept. IsBlock (physical view) kept.space kept.run) (IsBlock-cleared (physical view) space run here) blocks);
}

room : (capacity : ℕ) → (capacity ≡ 0 → ⊥) → 0 < capacity
room zero some = absurd (some refl)
room (suc n) some = omega arith

-- what becomes of the kept runs where no table is read
pub unasked-runs : (space : Space) (at : ℕ) (old new : CacheState) → asks_tables space at ≡ false → new ≡ old → KeepsRuns space at old new
unfolding KeepsRuns
unasked-runs space at old new unasked same = record {
  unasked = λ _. same;
  held_last = IfSome-always old.last (λ last holds. same);
  held = λ asks held. absurd (cc (unasked, asks));
  missed = λ none. inl same;
}

module _ (space : Space) (at : ℕ) (old new : CacheState) (asks : asks_tables space at ≡ true) where
  -- where one of them was found
  pub found-runs : (run : Mapped) → Holds run at → IsFound (kept_run space run) old new → IfSome old.last (λ last. HoldsIn space at last → (Some run ≡ Some last.run) × (new ≡ old)) → KeepsRuns space at old new
  unfolding KeepsRuns
  found-runs run holds found last = record {
    unasked = λ unasked. absurd (cc (unasked, asks));
    held_last = IfSome_then old.last last (λ last here held. (here held).1);
    held = λ _ held. record { run = run; holds = holds; found = found };
    missed = λ none. absurd (of_found (kept_run space run) old new found (λ kept. HoldsIn space at kept → ⊥) none (record { space_is = refl; holds = holds }));
  }

  -- where none holds the address
  pub missed-runs : NoneHolds space at old → (new ≡ old) ⊎ WasKept space at old new → KeepsRuns space at old new
  unfolding KeepsRuns
  missed-runs none changed = record {
    unasked = λ unasked. absurd (cc (unasked, asks));
    held_last = IfSome_then old.last none.last (λ last here held. absurd (here held));
    held = λ _ held. absurd (held none);
    missed = λ _. changed;
  }

-- a run was kept, or the cache has no room
pub kept-runs : (space : Space) (at : ℕ) (run : Mapped) (result : Kept) (old new : CacheState) → (result ≡ kinds.Off) ↔ (old.capacity ≡ 0) → (old.capacity ≡ 0 → new ≡ old)
    → (result ≡ kinds.Front → new ≡ record { capacity = old.capacity; kept = in_front old.capacity (kept_run space run) old.kept; last = Some (kept_run space run) })
    → (result ≡ kinds.Memory → new ≡ record { capacity = old.capacity; kept = old.kept; last = Some (kept_run space run) })
    → Holds run at → (new ≡ old) ⊎ WasKept space at old new
kept-runs space at run kinds.Off old new off nothing front memory holds = inl (nothing (off.0 refl))
kept-runs space at run kinds.Front old new off nothing front memory holds =
    inr (record {
      run = run;
      holds = holds;
      room = room old.capacity (λ zero. absurd (cc (off.1 zero)));
      capacity = ap (λ (c : CacheState). c.capacity) (front refl);
      last = ap (λ (c : CacheState). c.last) (front refl);
      list = inl (ap (λ (c : CacheState). c.kept) (front refl));
    })
kept-runs space at run kinds.Memory old new off nothing front memory holds =
    inr (record {
      run = run;
      holds = holds;
      room = room old.capacity (λ zero. absurd (cc (off.1 zero)));
      capacity = ap (λ (c : CacheState). c.capacity) (memory refl);
      last = ap (λ (c : CacheState). c.last) (memory refl);
      list = inr (ap (λ (c : CacheState). c.kept) (memory refl));
    })
