-- What the symbols by address tell is what the symbols by name say.
use Rattle.std.proofs.Common.{◌≡◌, ℕ, List, map, filter, ◌==◌, Option, Some, None, option_map, nat_le, nat_lt, refl, sym, ap, ◌∙◌}
use Rattle.std.specs.List.{find}
use Rattle.std.specs.Option.{option_and_then}
use Rattle.symbol_index.proofs.Addresses.{find_same, find_listed, has_same, addresses_listed}
use Rattle.symbol_index.proofs.Extremes.{least_same, greatest_same}
use Rattle.symbol_index.specs.Index.{listed, told, least, greatest, at_address, next_after, at_or_before}
use Rattle.symbol_index.specs.Order.{indexed_address, AreSameByAddress}
use Rattle.symbol_index.specs.declared.indexed.IndexedSymbol.{IndexedSymbol}

pub told_listed : (indexed : Option IndexedSymbol) → option_map (λ l. told (listed l)) indexed ≡ option_map told (option_map listed indexed)
told_listed None = refl
told_listed (Some indexed) = refl

module _ (names symbols : List IndexedSymbol) (same : AreSameByAddress names symbols) where
  pub tells_at : (address : ℕ) → option_map (λ l. told (listed l)) (find (λ indexed. indexed_address indexed == address) symbols) ≡ at_address address (map listed names)
  tells_at address =
      told_listed (find (λ indexed. indexed_address indexed == address) symbols)
      ∙ ap (λ o. option_map told (option_map listed o)) (find_same (λ indexed. indexed_address indexed == address) names symbols (same.at address))
      ∙ ap (option_map told) (sym (find_listed (λ named. (named.1).address == address) names))

  pub tells_after : (address : ℕ) → least (filter (λ other. nat_lt address other) (map indexed_address symbols)) ≡ next_after address (map listed names)
  tells_after address =
      least_same _ _ (has_same (λ other. nat_lt address other) names symbols same)
      ∙ ap (λ ns. least (filter (λ other. nat_lt address other) ns)) (sym (addresses_listed names))

  tells_nearest : (nearest : Option ℕ) → option_map (λ l. told (listed l)) (option_and_then (λ n. find (λ indexed. indexed_address indexed == n) symbols) nearest) ≡ option_and_then (λ n. at_address n (map listed names)) nearest
  tells_nearest None = refl
  tells_nearest (Some nearest) = tells_at nearest

  pub tells_before : (address : ℕ)
      → option_map (λ l. told (listed l)) (option_and_then (λ n. find (λ indexed. indexed_address indexed == n) symbols) (greatest (filter (λ other. nat_le other address) (map indexed_address symbols))))
      ≡ at_or_before address (map listed names)
  tells_before address =
      tells_nearest _
      ∙ ap (option_and_then (λ n. at_address n (map listed names)))
      (greatest_same _ _ (has_same (λ other. nat_le other address) names symbols same)
      ∙ ap (λ ns. greatest (filter (λ other. nat_le other address) ns)) (sym (addresses_listed names)))
