use Rattle.std.proofs.Common.{sym, ap, ◌∙◌}
use Rattle.lru.specs.LruCache.{lru_cache}
use Rattle.run_cache.specs.contracts.key.RunKeyPartialEq.TheImpl.{eq-value}
use Rattle.run_cache.proofs.Keys.{same_key, key_again}
use Rattle.run_cache.proofs.Lists.{looked, promoted-none, none_has_key}
use Rattle.run_cache.proofs.list.take_to_front.Goals as goal

pub returns-clause-found : goal.returns-clause-found
returns-clause-found c =
    let key = c.args.key.now in
    looked (eq-value.it key) key (same_key key) c.copied.result c.args.list.now.entries c.get.follows.lender-at-none.entries (c.copied.ensures ∙ c.get.ensures.value) (ap (λ l. l.entries) c.get.follows.holds-at-none)

pub returns-clause-none : goal.returns-clause-none
returns-clause-none c =
    let key = c.args.key.now in
    λ none. c.get.follows.holds-at-none ∙ ap (λ es. lru_cache es c.args.list.now.cap) (promoted-none (eq-value.it key) key c.args.list.now.entries (sym c.get.ensures.value ∙ sym c.copied.ensures ∙ none))

pub returns-clause-misses : goal.returns-clause-misses
returns-clause-misses c =
    let key = c.args.key.now in
    λ none. none_has_key (eq-value.it key) key (key_again key) c.args.list.now.entries (sym c.get.ensures.value ∙ sym c.copied.ensures ∙ none)
