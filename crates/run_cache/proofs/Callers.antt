-- What a caller of a cache knows of its kept runs after a call.
use Rattle.std.proofs.Common.{◌≡◌, ℕ, ◌-◌, ◌++◌, take, Option, Some, IfSome, All, inl, inr, ◌↔◌, refl, sym, ap, ◌∙◌, subst}
use Rattle.std.proofs.lemmas.List.Elements.{All-cons, All-head, All-take}
use Rattle.layer_base.specs.Mapped.{Holds, KeptRun}
use Rattle.layer_base.specs.declared.space.Mapped.{Mapped}
use Rattle.layer_base.specs.declared.space.Space.{Space}
use Rattle.run_cache.specs.Cache.{CacheState, kept_run, HoldsIn, EachKept, NoneHolds}
use Rattle.run_cache.specs.Changes.{IsFound, in_front}
use Rattle.run_cache.specs.declared.cache.Kept.{Kept}
use Rattle.run_cache.specs.declared.cache.Kept.TheVariants as kinds
use Rattle.run_cache.proofs.Lists.{All-moved, All-moved_first}

module _ (k : KeptRun) (old new : CacheState) (found : IsFound k old new) where
  -- a run was found, and each fact of the kept runs is true still
  pub EachKept-found : (P : KeptRun → Type 0) → EachKept P old → EachKept P new
  EachKept-found P each = elim found [
    | inl same ↦ subst (EachKept P) (sym same.1) each
    | inr moved ↦ record {
      list = All-moved P k old.kept new.kept moved.list each.list;
      last = subst (λ (l : Option KeptRun). IfSome l P) (sym (ap (λ (c : CacheState). c.last) moved.rest)) each.last;
    }
  ]

  -- and so it is of the run
  pub of_found : (P : KeptRun → Type 0) → EachKept P old → P k
  of_found P each = elim found [
    | inl same ↦ subst (λ (l : Option KeptRun). IfSome l P) same.0 each.last
    | inr moved ↦ All-moved_first P k old.kept new.kept moved.list each.list
  ]

module _ (result : Kept) (k : KeptRun) (old new : CacheState) (off : (result ≡ kinds.Off) ↔ (old.capacity ≡ 0)) (nothing : old.capacity ≡ 0 → new ≡ old)
    (front : result ≡ kinds.Front → new ≡ record { capacity = old.capacity; kept = in_front old.capacity k old.kept; last = Some k })
    (memory : result ≡ kinds.Memory → new ≡ record { capacity = old.capacity; kept = old.kept; last = Some k }) where
  -- a run was kept, or nothing was, and what is true of each run that was kept and of the new one is true of each still
  pub EachKept-kept : (P : KeptRun → Type 0) → P k → EachKept P old → EachKept P new
  EachKept-kept P here each = by result refl
    where
      by : (r : Kept) → result ≡ r → EachKept P new
      by kinds.Front is = subst (EachKept P) (sym (front is)) (record { list = All-cons P k (take (old.capacity - 1) old.kept) here (All-take P (old.capacity - 1) old.kept each.list); last = here })
      by kinds.Off is = subst (EachKept P) (sym (nothing (off.0 is))) each
      by kinds.Memory is = subst (EachKept P) (sym (memory is)) (record { list = each.list; last = here })

module _ (space : Space) (at : ℕ) (run : Mapped) (holds : Holds run at) where
  -- the last run holds the address
  pub last_holds : (cache : CacheState) → cache.last ≡ Some (kept_run space run) → NoneHolds space at cache → ⊥
  last_holds cache is none =
      let misses : HoldsIn space at (kept_run space run) → ⊥ = subst (λ (l : Option KeptRun). IfSome l (λ kept. HoldsIn space at kept → ⊥)) is none.last in
      misses (record { space_is = refl; holds = holds })

  -- a run that was found is kept still
  pub found_holds : (old new : CacheState) → IsFound (kept_run space run) old new → NoneHolds space at new → ⊥
  found_holds old new found none = elim found [
    | inl same ↦ last_holds new (ap (λ (c : CacheState). c.last) same.1 ∙ same.0) none
    | inr moved ↦
        let misses : HoldsIn space at (kept_run space run) → ⊥ = All-head (λ kept. HoldsIn space at kept → ⊥) (kept_run space run) (moved.list.before ++ moved.list.behind) (subst (All (λ kept. HoldsIn space at kept → ⊥)) moved.list.new_is none.list) in
        misses (record { space_is = refl; holds = holds })
  ]
