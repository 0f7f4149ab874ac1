use Rattle.std.proofs.Common.{◌≤◌, nat_lt, slice_index_or, sym, arith}
use Rattle.std.proofs.lemmas.Bool.{ltb-true, lt-ltb, le-ltb}
use Rattle.symbol_index.proofs.Addresses.{passes_at, each_passing, none_passes, rises_from}
use Rattle.symbol_index.proofs.Extremes.{least_is, least_none}
use Rattle.symbol_index.specs.Order.{indexed_address}
use Rattle.symbol_index.proofs.search.next_after.Goals as goal

pub returns-then-place-symbols : goal.returns-then-place-symbols
returns-then-place-symbols c =
    let symbols = c.args.symbols.now in
    let address = c.args.address in
    let place = c.count_up_to-place.result in
    let indexed = c.index-symbols-place.result in
    let found = slice_index_or symbols place indexed in
    let above = c.count_up_to-place.ensures.above place indexed (omega arith) c.if-place-symbols.true in
    sym (least_is _ (indexed_address found)
    (passes_at (λ other. nat_lt address other) symbols place indexed c.if-place-symbols.true (lt-ltb _ _ above))
    (each_passing (λ other. nat_lt address other) (λ n. indexed_address found ≤ n) symbols
    (λ k d within passes. rises_from symbols address place k indexed d c.requires c.count_up_to-place.ensures.within (ltb-true _ _ passes) within)))

pub returns-else-place-symbols : goal.returns-else-place-symbols
returns-else-place-symbols c =
    let symbols = c.args.symbols.now in
    sym (least_none _ (none_passes (λ other. nat_lt c.args.address other) symbols (λ k d within. le-ltb _ _ (c.count_up_to-place.ensures.within k d (omega (arith, c.if-place-symbols.false, within))))))
