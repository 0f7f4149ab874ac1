use Rattle.std.proofs.Common.{◌==◌, Some, ap, sym, ◌∙◌, arith}
use Rattle.std.proofs.lemmas.Bool.{ne_eqb, eq-eqb}
use Rattle.symbol_index.proofs.Addresses.{find_first, get_or_any, lt_apart, never_at, never_below}
use Rattle.symbol_index.specs.Order.{indexed_address}
use Rattle.symbol_index.proofs.search.first_at.Goals.{else-place-symbols-via-then-place-symbols+else-symbols-place, else-place-symbols-via-else-place-symbols}
use Rattle.symbol_index.proofs.search.first_at.Goals as goal

pub returns-then-symbols-place : goal.returns-then-symbols-place
returns-then-symbols-place c =
    let symbols = c.args.symbols.now in
    let address = c.args.address in
    let indexed = c.index-symbols-place-then-symbols-place.result in
    ap Some c.index-symbols-place-then-symbols-place.is
    ∙ sym (find_first (λ l. indexed_address l == address) symbols c.count_below-place.result indexed c.if-place-symbols.true
    (λ k d below. ne_eqb _ _ (λ e. omega (arith, c.count_below-place.ensures.below k d below, e)))
    (eq-eqb _ _ (ap indexed_address (get_or_any symbols c.count_below-place.result indexed c.index-symbols-place.result c.if-place-symbols.true) ∙ c.if-symbols-place.true)))

pub returns-else-place-symbols : goal.returns-else-place-symbols
returns-else-place-symbols c =
    let symbols = c.args.symbols.now in
    let address = c.args.address in
    let place = c.count_below-place.result in
    elim c.else-place-symbols.branch [
      | else-place-symbols-via-then-place-symbols+else-symbols-place w ↦
          let others = c.count_below-place.ensures.others place w.index-symbols-place.result (omega arith) w.if-place-symbols.true in
          sym (never_at symbols address place w.index-symbols-place.result c.requires c.count_below-place.ensures.below (lt_apart address _ others w.if-symbols-place.false))
      | else-place-symbols-via-else-place-symbols w ↦ sym (never_below symbols address (λ k d within. c.count_below-place.ensures.below k d (omega (arith, w.if-place-symbols.false, within))))
    ]
