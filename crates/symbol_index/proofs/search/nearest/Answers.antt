use Rattle.std.proofs.Common.{◌-◌, ◌≤◌, nat_le, slice_index_or, sym, arith}
use Rattle.std.proofs.lemmas.Bool.{leb-true, le-leb, lt-leb}
use Rattle.symbol_index.proofs.Addresses.{passes_at, each_passing, none_passes, rises_to}
use Rattle.symbol_index.proofs.Extremes.{greatest_is, greatest_none}
use Rattle.symbol_index.specs.Order.{indexed_address}
use Rattle.symbol_index.proofs.search.nearest.Goals as goal

pub returns-then-count-gt0 : goal.returns-then-count-gt0
returns-then-count-gt0 c =
    let symbols = c.args.symbols.now in
    let address = c.args.address in
    let count = c.count_up_to-count.result in
    let indexed = c.index-symbols-count.result in
    let found = slice_index_or symbols (count - 1) indexed in
    let bound = c.count_up_to-count.ensures.bound in
    let some = c.if-count-gt0.true in
    let within = c.count_up_to-count.ensures.within (count - 1) indexed (omega (arith, some)) in
    sym (greatest_is _ (indexed_address found)
    (passes_at (λ other. nat_le other address) symbols (count - 1) indexed (omega (arith, some, bound)) (le-leb _ _ within))
    (each_passing (λ other. nat_le other address) (λ n. n ≤ indexed_address found) symbols
    (λ k d inside passes. rises_to symbols address count k indexed d c.requires c.count_up_to-count.ensures.above (leb-true _ _ passes) inside bound)))

pub returns-else-count-gt0 : goal.returns-else-count-gt0
returns-else-count-gt0 c =
    let symbols = c.args.symbols.now in
    sym (greatest_none _ (none_passes (λ other. nat_le other c.args.address) symbols (λ k d within. lt-leb _ _ (c.count_up_to-count.ensures.above k d (omega (arith, c.if-count-gt0.false)) within))))
