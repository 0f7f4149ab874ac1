use Rattle.std.proofs.Common.{Some, ◌<◌, option_map}
use Rattle.run_cache.specs.Cache.{IsCache}
use Rattle.run_cache.specs.Key.{kept_held}
use Rattle.run_cache.proofs.Caches.{own_key}
use Rattle.run_cache.proofs.Showing.{with_list, shown_list, absent_in, on_ok, front_shown, IsCache-put}
use Rattle.run_cache.proofs.cache.RunCache.keep.Goals as goal

pub put_in_front-requires : goal.put_in_front-requires
put_in_front-requires c =
    let now_is = shown_list c.self.inside.runs c.self.inside.newest c.in-Some.runs c.args.self.now c.self.view_is c.in-Some.is in
    let absent = absent_in c.args.self.now c.in-Some.runs (option_map kept_held c.self.inside.newest) c.args.space c.in-Paged.root c.in-Paged.levels c.args.run now_is c.in-Paged.is c.requires.absent in
    rw c.of-key.ensures (own_key c.in-Paged.root c.in-Paged.levels c.args.run c.in-Some.runs.entries absent)

is_held : (c : goal.Else-is_err) → IsCache (with_list c.in-Some.runs (option_map kept_held c.self.inside.newest)) × 0 < c.in-Some.runs.cap
is_held c = rw c.in-Some.is at c.self.invariant

is_cache : (c : goal.Else-is_err) → IsCache (with_list c.put_in_front.new.list (Some (kept_held (record { key = c.of-key.result; to = c.args.run.to }))))
is_cache c =
    let now_is = shown_list c.self.inside.runs c.self.inside.newest c.in-Some.runs c.args.self.now c.self.view_is c.in-Some.is in
    let absent = absent_in c.args.self.now c.in-Some.runs (option_map kept_held c.self.inside.newest) c.args.space c.in-Paged.root c.in-Paged.levels c.args.run now_is c.in-Paged.is c.requires.absent in
    let entries = on_ok c.put_in_front.result c.if-is_err.ensures.value c.put_in_front.ensures.ok in
    IsCache-put c.in-Paged.root c.in-Paged.levels c.args.run c.in-Some.runs c.put_in_front.new.list c.of-key.result c.of-key.ensures (option_map kept_held c.self.inside.newest) entries c.put_in_front.ensures.capacity c.requires.aligned absent (is_held c).1 (is_held c).0

pub invariant_of-self-2 : goal.invariant_of-self-2
invariant_of-self-2 c = (is_cache c, rw c.put_in_front.ensures.capacity (is_held c).1)

pub returns-clause-front : goal.returns-clause-front
returns-clause-front c =
    let now_is = shown_list c.self.inside.runs c.self.inside.newest c.in-Some.runs c.args.self.now c.self.view_is c.in-Some.is in
    let entries = on_ok c.put_in_front.result c.if-is_err.ensures.value c.put_in_front.ensures.ok in
    λ _. rw (now_is, c.in-Paged.is) (front_shown c.in-Paged.root c.in-Paged.levels c.args.run c.in-Some.runs c.put_in_front.new.list c.of-key.result c.of-key.ensures entries c.put_in_front.ensures.capacity)

pub returns-clause-cache : goal.returns-clause-cache
returns-clause-cache c = is_cache c
