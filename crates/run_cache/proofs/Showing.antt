-- What the fields of a cache show before a change and after it.
use Rattle.std.proofs.Common.{◌≡◌, ℕ, ◌-◌, ◌<◌, false, ◌∷◌, map, take, Option, None, Some, Ok, Err, IfSome, All, option_map, refl, sym, ap, ◌∙◌, subst}
use Rattle.std.specs.Prelude.{Result, OnOk, is_err}
use Rattle.std.proofs.lemmas.List.{take-map}
use Rattle.std.proofs.lemmas.List.Elements.{All-nil}
use Rattle.layer_base.specs.Mapped.{IsAligned, KeptRun}
use Rattle.layer_base.specs.declared.space.Levels.{Levels}
use Rattle.layer_base.specs.declared.space.Mapped.{Mapped}
use Rattle.layer_base.specs.declared.space.Space.{Space}
use Rattle.layer_base.specs.declared.space.Space.TheVariants.{Phys, Paged}
use Rattle.lru.specs.LruCache.{LruCache}
use Rattle.run_cache.specs.Cache.{CacheState, kept_run, HoldsIn, EachKept, AreAlike, IsCache}
use Rattle.run_cache.specs.Changes.{IsMovedToFront, in_front}
use Rattle.run_cache.specs.Key.{key_of, kept_at, kept_entry, kept_held}
use Rattle.run_cache.specs.Shown.{shown}
use Rattle.run_cache.specs.declared.key.HeldRun.{HeldRun}
use Rattle.run_cache.specs.declared.key.RunKey.{RunKey}
use Rattle.run_cache.proofs.Caches.{IsCache-front, IsCache-moved, none_of_phys}
use Rattle.run_cache.proofs.Keys.{kept_under}

abbrev RunList : Type 0
RunList = LruCache RunKey (Option ℕ)

-- what a list and a last run show
abbrev pub with_list : RunList → Option KeptRun → CacheState
with_list list last = record { capacity = list.cap; kept = map kept_entry list.entries; last = last }

-- a cache with a list
pub shown_list : (runs : Option RunList) (newest : Option HeldRun) (list : RunList) (now : CacheState) → shown runs newest ≡ now → runs ≡ Some list → now ≡ with_list list (option_map kept_held newest)
shown_list runs newest list now view is = sym view ∙ ap (λ r. shown r newest) is

-- a run that is like none of the kept ones is like none of the list
pub absent_in : (now : CacheState) (list : RunList) (last : Option KeptRun) (space : Space) (root : ℕ) (levels : Levels) (run : Mapped) → now ≡ with_list list last → space ≡ Paged root levels
    → All (λ other. AreAlike other (kept_run space run) → ⊥) now.kept → All (λ other. AreAlike other (kept_run (Paged root levels) run) → ⊥) (map kept_entry list.entries)
absent_in now list last space root levels run now_is paged absent = rw (now_is, paged) at absent

-- where nothing failed, there is a value
pub on_ok : {T E P : Type 0} (r : Result T E) → false ≡ is_err r → OnOk r P → P
on_ok (Ok value) fine fact = fact
on_ok (Err error) fine fact = absurd (cc fine)

module _ (root : ℕ) (levels : Levels) (run : Mapped) (list new : RunList) (key : RunKey) (key_is : key ≡ key_of root levels run.first run.last) where
  -- the last run
  pub last_shown : Some (kept_held (record { key = key; to = run.to })) ≡ Some (kept_run (Paged root levels) run)
  last_shown = ap (λ (k : KeptRun). Some k) (ap (λ (k : RunKey). kept_at k run.to) key_is ∙ kept_under root levels run.first run.last run.to)

  -- a run was put in front of the list
  pub front_shown : new.entries ≡ (key, run.to) ∷ take (list.cap - 1) list.entries → new.cap ≡ list.cap
      → with_list new (Some (kept_held (record { key = key; to = run.to }))) ≡ record { capacity = list.cap; kept = in_front list.cap (kept_run (Paged root levels) run) (map kept_entry list.entries); last = Some (kept_run (Paged root levels) run) }
  front_shown entries cap =
      let here : kept_entry (key, run.to) ≡ kept_run (Paged root levels) run = ap (λ (k : RunKey). kept_at k run.to) key_is ∙ kept_under root levels run.first run.last run.to in
      let kept : map kept_entry new.entries ≡ kept_run (Paged root levels) run ∷ take (list.cap - 1) (map kept_entry list.entries) =
      ap (map kept_entry) entries ∙ (λ i. here i ∷ sym (take-map kept_entry (list.cap - 1) list.entries) i) in
      λ i. record { capacity = cap i; kept = kept i; last = last_shown i }

  -- and the cache is one again
  pub IsCache-put : (last : Option KeptRun) → new.entries ≡ (key, run.to) ∷ take (list.cap - 1) list.entries → new.cap ≡ list.cap → IsAligned run → All (λ other. AreAlike other (kept_run (Paged root levels) run) → ⊥) (map kept_entry list.entries)
      → 0 < list.cap → IsCache (with_list list last) → IsCache (with_list new (Some (kept_held (record { key = key; to = run.to }))))
  IsCache-put last entries cap aligned absent some cache =
      subst IsCache (sym (front_shown entries cap)) (IsCache-front (kept_run (Paged root levels) run) list.cap (map kept_entry list.entries) last aligned some absent cache)

-- a run was looked for
pub IsCache-looked : (found : Option Mapped) (space : Space) (list new : RunList) (last : Option KeptRun) → IfSome found (λ run. IsMovedToFront (kept_run space run) (map kept_entry list.entries) (map kept_entry new.entries))
    → (found ≡ None → new ≡ list) → new.cap ≡ list.cap → IsCache (with_list list last) → IsCache (with_list new last)
IsCache-looked None space list new last moved none cap cache = rw (none refl) cache
IsCache-looked (Some run) space list new last moved none cap cache = rw cap (IsCache-moved (kept_run space run) list.cap (map kept_entry list.entries) (map kept_entry new.entries) last moved cache)

none_of_phys_last : (at : ℕ) (held : Option HeldRun) → IfSome (option_map kept_held held) (λ kept. HoldsIn Phys at kept → ⊥)
none_of_phys_last at None = tt
none_of_phys_last at (Some held) = λ holds. absurd (cc holds.space_is)

-- no kept run is of physical memory
pub none_of_phys_kept : (at : ℕ) (runs : Option RunList) (newest : Option HeldRun) → EachKept (λ kept. HoldsIn Phys at kept → ⊥) (shown runs newest)
none_of_phys_kept at None newest = record { list = All-nil (λ kept. HoldsIn Phys at kept → ⊥); last = none_of_phys_last at newest }
none_of_phys_kept at (Some list) newest = record { list = none_of_phys at list.entries; last = none_of_phys_last at newest }
