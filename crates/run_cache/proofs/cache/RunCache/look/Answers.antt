use Rattle.std.proofs.Common.{◌∙◌, ◌<◌, refl, sym, ap, subst, option_map}
use Rattle.layer_base.specs.declared.space.Space.TheVariants.{Phys, Paged}
use Rattle.run_cache.specs.Cache.{EachKept, HoldsIn, IsCache}
use Rattle.run_cache.specs.Key.{kept_held}
use Rattle.run_cache.proofs.Caches.{none_holds}
use Rattle.run_cache.proofs.Showing.{with_list, shown_list, IsCache-looked, none_of_phys_kept}
use Rattle.run_cache.proofs.cache.RunCache.look.Goals as goal

pub returns-in_default-clause-none : goal.returns-in_default-clause-none
returns-in_default-clause-none c =
    λ _. (refl, rw c.in_default.is (subst (EachKept (λ kept. HoldsIn Phys c.args.at kept → ⊥)) c.self.view_is (none_of_phys_kept c.args.at c.self.inside.runs c.self.inside.newest)))

is_held : (c : goal.After-find_from) → IsCache (with_list c.in-Some-runs.runs (option_map kept_held c.self.inside.newest)) × 0 < c.in-Some-runs.runs.cap
is_held c = rw c.in-Some-runs.is at c.self.invariant

is_cache : (c : goal.After-find_from) → IsCache (with_list c.find_from.new.list (option_map kept_held c.self.inside.newest))
is_cache c =
    IsCache-looked c.find_from.result (Paged c.in-Paged.root c.in-Paged.levels) c.in-Some-runs.runs c.find_from.new.list (option_map kept_held c.self.inside.newest) c.find_from.ensures.found c.find_from.ensures.none c.find_from.ensures.capacity (is_held c).0

pub invariant_of-self-2 : goal.invariant_of-self-2
invariant_of-self-2 c = (is_cache c, rw c.find_from.ensures.capacity (is_held c).1)

pub returns-clause-none : goal.returns-clause-none
returns-clause-none c = λ none.
    let now_is = shown_list c.self.inside.runs c.self.inside.newest c.in-Some-runs.runs c.args.self.now c.self.view_is c.in-Some-runs.is in
    let same = ap (λ list. with_list list (option_map kept_held c.self.inside.newest)) (c.find_from.ensures.none none) in (
      same ∙ sym now_is,
      rw (now_is, c.in-Paged.is) (record {
        list = none_holds c.in-Paged.root c.in-Paged.levels c.args.at c.in-Some-runs.runs.entries (is_held c).0.aligned.list (c.find_from.ensures.misses none);
        last = c.in_default-newest_at.ensures.misses refl;
      }),
    )

pub returns-clause-cache : goal.returns-clause-cache
returns-clause-cache c = is_cache c
