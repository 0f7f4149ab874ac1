use Rattle.std.proofs.Common.{rules}
use Rattle.std.proofs.lemmas.List.Sorted.{answers_always, IsNonDecreasingBy-from_sort_by_key}
use Rattle.symbol_index.specs.Order.{indexed_address}
use Rattle.symbol_index.proofs.Addresses.{stable_same}
use Rattle.symbol_index.proofs.order.by_addresses.Goals as goal

pub returns-clause-order : goal.returns-clause-order
returns-clause-order c = IsNonDecreasingBy-from_sort_by_key indexed_address _ c.in_ok-sort_by_key.ensures.sorted (λ a r q k. search rules)

pub returns-clause-same : goal.returns-clause-same
returns-clause-same c =
    let stable = c.sort_by_key.ensures.stable indexed_address (answers_always _ _ _ (λ f a r g h. search rules)) in
    rw (← c.in_ok-symbols.ensures.items) (stable_same _ _ stable)
