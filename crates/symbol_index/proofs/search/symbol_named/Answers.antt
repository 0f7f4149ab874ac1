use Rattle.std.proofs.Common.{◌≡◌, rules, ap, sym, ◌∙◌, Some, option_map, slice_index_or}
use Rattle.std.proofs.lemmas.Fn.{always_returns_same}
use Rattle.isf_reader.proofs.Search.{stands, same_name_at, hit, missed, name_rises, apart}
use Rattle.symbol_index.specs.Index.{listed}
use Rattle.symbol_index.proofs.search.symbol_named.Goals as goal

pub returns-in-Ok : goal.returns-in-Ok
returns-in-Ok c =
    let name = c.args.name.now in
    let symbols = c.args.symbols.now in
    let equal = c.in-Ok.ensures.position (stands listed name) (always_returns_same _ (λ a r. r ≡ stands listed name a.0.now) _ (λ a r q k. search rules)) in
    let indexed = c.index-symbols-place.result in
    let found = slice_index_or symbols c.in-Ok.place indexed in
    ap (λ l. Some (listed l)) c.index-symbols-place.is
    ∙ ap (λ n. Some (n, (listed found).1)) (same_name_at listed name found (equal indexed))
    ∙ ap (option_map (λ symbol. (name, symbol))) (hit listed name symbols c.in-Ok.place indexed c.requires c.in-Ok.ensures.bound (equal indexed))

pub returns-in-Err : goal.returns-in-Err
returns-in-Err c =
    let name = c.args.name.now in
    let symbols = c.args.symbols.now in
    let parts = c.in-Err.ensures.position (stands listed name) (always_returns_same _ (λ a r. r ≡ stands listed name a.0.now) _ (λ a r q k. search rules)) (name_rises listed name symbols c.requires) in
    sym (ap (option_map (λ symbol. (name, symbol))) (missed listed name symbols (apart listed name symbols c.in-Err.field-0 parts)))
