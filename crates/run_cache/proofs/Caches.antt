-- Caches, before a change and after it.
use Rattle.std.proofs.Common.{◌≡◌, ◌≢◌, ℕ, zero, suc, ◌-◌, ◌<◌, ◌≤◌, List, [], ◌∷◌, ◌++◌, map, take, Option, Some, All, refl, sym, ap, ◌∙◌, subst, arith, length-take}
use Rattle.std.proofs.lemmas.List.Elements.{All-nil, All-cons, All-head, All-tail, All-take, All-weaker}
use Rattle.layer_base.specs.Mapped.{IsAligned, KeptRun}
use Rattle.layer_base.specs.declared.space.Levels.{Levels}
use Rattle.layer_base.specs.declared.space.Mapped.{Mapped}
use Rattle.layer_base.specs.declared.space.Space.TheVariants.{Phys, Paged}
use Rattle.run_cache.specs.Cache.{kept_run, HoldsIn, AreAlike, AreUnlike, IsCache}
use Rattle.run_cache.specs.Changes.{IsMovedToFront, in_front}
use Rattle.run_cache.specs.Key.{key_of, key_around, kept_at, kept_entry}
use Rattle.run_cache.specs.declared.key.RunKey.{RunKey}
use Rattle.run_cache.proofs.Keys.{key_is, kept_under}
use Rattle.run_cache.proofs.Lists.{All-moved, length-moved}

AreAlike-turn : (one other : KeptRun) → AreAlike one other → AreAlike other one
AreAlike-turn one other alike = record { space_is = sym alike.space_is; first_is = sym alike.first_is; last_is = sym alike.last_is }

-- one run goes before the runs that it stood behind
unlike-front : (k : KeptRun) (before behind : List KeptRun) → AreUnlike (before ++ k ∷ behind) → AreUnlike (k ∷ (before ++ behind))
unlike-front k [] behind unlike = unlike
unlike-front k (b ∷ before) behind unlike =
    let rest = unlike-front k before behind unlike.1 in
    let from_b : All (λ other. AreAlike b other → ⊥) (k ∷ (before ++ behind)) = All-moved (λ other. AreAlike b other → ⊥) k (before ++ k ∷ behind) (k ∷ (before ++ behind)) (record { before = before; behind = behind; old_is = refl; new_is = refl }) unlike.0 in (
      All-cons (λ other. AreAlike k other → ⊥) b (before ++ behind) (λ alike. All-head (λ other. AreAlike b other → ⊥) k (before ++ behind) from_b (AreAlike-turn k b alike)) rest.0,
      (All-tail (λ other. AreAlike b other → ⊥) k (before ++ behind) from_b, rest.1),
    )

unlike-moved : (k : KeptRun) (old new : List KeptRun) → IsMovedToFront k old new → AreUnlike old → AreUnlike new
unlike-moved k old new moved unlike = subst AreUnlike (sym moved.new_is) (unlike-front k moved.before moved.behind (subst AreUnlike moved.old_is unlike))

unlike-take : (n : ℕ) (list : List KeptRun) → AreUnlike list → AreUnlike (take n list)
unlike-take zero list unlike = tt
unlike-take (suc n) [] unlike = tt
unlike-take (suc n) (k ∷ list) unlike = (All-take (λ other. AreAlike k other → ⊥) n list unlike.0, unlike-take n list unlike.1)

-- a run of the list went to the front
pub IsCache-moved : (k : KeptRun) (capacity : ℕ) (old new : List KeptRun) (last : Option KeptRun) → IsMovedToFront k old new
    → IsCache (record { capacity = capacity; kept = old; last = last }) → IsCache (record { capacity = capacity; kept = new; last = last })
IsCache-moved k capacity old new last moved cache = record {
  aligned = record { list = All-moved (λ kept. IsAligned kept.run) k old new moved cache.aligned.list; last = cache.aligned.last };
  unlike = unlike-moved k old new moved cache.unlike;
  few = omega (arith, cache.few, length-moved k old new moved);
  off = cache.off;
}

-- a run became the last run
pub IsCache-last : (k : KeptRun) (capacity : ℕ) (list : List KeptRun) (last : Option KeptRun) → IsAligned k.run → 0 < capacity
    → IsCache (record { capacity = capacity; kept = list; last = last }) → IsCache (record { capacity = capacity; kept = list; last = Some k })
IsCache-last k capacity list last aligned some cache = record {
  aligned = record { list = cache.aligned.list; last = aligned };
  unlike = cache.unlike;
  few = cache.few;
  off = λ none. absurd (omega (arith, some, none));
}

-- and stands in front of the list
pub IsCache-front : (k : KeptRun) (capacity : ℕ) (list : List KeptRun) (last : Option KeptRun) → IsAligned k.run → 0 < capacity → All (λ other. AreAlike other k → ⊥) list
    → IsCache (record { capacity = capacity; kept = list; last = last }) → IsCache (record { capacity = capacity; kept = in_front capacity k list; last = Some k })
IsCache-front k capacity list last aligned some absent cache = record {
  aligned = record { list = All-cons (λ kept. IsAligned kept.run) k (take (capacity - 1) list) aligned (All-take (λ kept. IsAligned kept.run) (capacity - 1) list cache.aligned.list); last = aligned };
  unlike = (All-take (λ other. AreAlike k other → ⊥) (capacity - 1) list (All-weaker (λ other. AreAlike other k → ⊥) (λ other. AreAlike k other → ⊥) (λ other apart alike. apart (AreAlike-turn k other alike)) list absent), unlike-take (capacity - 1) list cache.unlike);
  few = omega (arith, some, cache.few, length-take (capacity - 1) list);
  off = λ none. absurd (omega (arith, some, none));
}

-- where no entry has the key of a block around an address, no run of the list holds it
pub none_holds : (root : ℕ) (levels : Levels) (at : ℕ) (es : List (RunKey × Option ℕ)) → All (λ kept. IsAligned kept.run) (map kept_entry es)
    → ((level : ℕ) → 1 ≤ level → level ≤ 5 → All (λ entry. entry.0 ≢ key_around root levels level at) es) → All (λ kept. HoldsIn (Paged root levels) at kept → ⊥) (map kept_entry es)
none_holds root levels at [] aligned apart = All-nil (λ kept. HoldsIn (Paged root levels) at kept → ⊥)
none_holds root levels at (e ∷ es) aligned apart =
    let here : IsAligned (kept_entry e).run = All-head (λ kept. IsAligned kept.run) (kept_entry e) (map kept_entry es) aligned in
    All-cons (λ kept. HoldsIn (Paged root levels) at kept → ⊥) (kept_entry e) (map kept_entry es)
    (λ held. All-head (λ entry. entry.0 ≢ key_around root levels here.level at) e es (apart here.level here.least here.most) (key_is root levels at e.0 e.1 here held))
    (none_holds root levels at es (All-tail (λ kept. IsAligned kept.run) (kept_entry e) (map kept_entry es) aligned) (λ level least most. All-tail (λ entry. entry.0 ≢ key_around root levels level at) e es (apart level least most)))

-- no run of a list is of physical memory
pub none_of_phys : (at : ℕ) (es : List (RunKey × Option ℕ)) → All (λ kept. HoldsIn Phys at kept → ⊥) (map kept_entry es)
none_of_phys at [] = All-nil (λ kept. HoldsIn Phys at kept → ⊥)
none_of_phys at (e ∷ es) = All-cons (λ kept. HoldsIn Phys at kept → ⊥) (kept_entry e) (map kept_entry es) (λ held. absurd (cc held.space_is)) (none_of_phys at es)

-- a run that is like none of the list has a key of its own
pub own_key : (root : ℕ) (levels : Levels) (run : Mapped) (es : List (RunKey × Option ℕ)) → All (λ other. AreAlike other (kept_run (Paged root levels) run) → ⊥) (map kept_entry es)
    → All (λ entry. entry.0 ≢ key_of root levels run.first run.last) es
own_key root levels run [] absent = All-nil (λ entry. entry.0 ≢ key_of root levels run.first run.last)
own_key root levels run (e ∷ es) absent =
    All-cons (λ entry. entry.0 ≢ key_of root levels run.first run.last) e es
    (λ key_is. All-head (λ other. AreAlike other (kept_run (Paged root levels) run) → ⊥) (kept_entry e) (map kept_entry es) absent (alike key_is))
    (own_key root levels run es (All-tail (λ other. AreAlike other (kept_run (Paged root levels) run) → ⊥) (kept_entry e) (map kept_entry es) absent))
  where
    alike : e.0 ≡ key_of root levels run.first run.last → AreAlike (kept_entry e) (kept_run (Paged root levels) run)
    alike key_is = record {
      space_is = ap (λ key. (kept_at key run.to).space) key_is ∙ ap (λ (k : KeptRun). k.space) (kept_under root levels run.first run.last run.to);
      first_is = ap (λ (key : RunKey). key.first) key_is;
      last_is = ap (λ (key : RunKey). key.last) key_is;
    }
