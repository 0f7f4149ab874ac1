-- Cells that are added.
use Rattle.std.proofs.Common.{◌≡◌, ℕ, ◌+◌, ◌-◌, ◌≤◌, List, ◌++◌, length, replicate, Option, None, sym, ◌∙◌, ap, arith, length-append}
use Rattle.std.proofs.lemmas.List.{length-replicate}
use Rattle.layer_base.specs.AddressSpace.{AddressSpace, bytes_from}
use Rattle.layer_base.proofs.BytesFrom.{bytes_from-absent, bytes_from-add}
use Rattle.session.specs.Read.{AddsCells}

-- cells of a hole
pub AddsCells-hole : (memory : AddressSpace) (at last n : ℕ) (old new : List (Option ℕ)) → ((a : ℕ) → at ≤ a → a ≤ last → memory a ≡ None) → at + n ≤ last + 1 → new ≡ old ++ replicate n None → AddsCells memory at old new
AddsCells-hole memory at last n old new absent within added =
    let count : length new - length old ≡ n = omega (arith, ap length added, length-append old (replicate n None), length-replicate {A = Option ℕ} n None) in
    added ∙ ap (λ l. old ++ l) (sym (bytes_from-absent memory at n (λ k below. absent (at + k) (omega arith) (omega arith)))) ∙ ap (λ k. old ++ bytes_from memory at k) (sym count)

-- cells behind others
pub AddsCells-more : (memory : AddressSpace) (at done : ℕ) (old new : List (Option ℕ)) → old ≡ bytes_from memory at (length old) → done ≡ length old → length old ≤ length new → AddsCells memory (at + done) old new → new ≡ bytes_from memory at (length new)
AddsCells-more memory at done old new so_far count more added =
    let n = length new - length old in
    let whole : length old + n ≡ length new = omega arith in
    added ∙ ap (λ l. l ++ bytes_from memory (at + done) n) so_far ∙ ap (λ k. bytes_from memory at (length old) ++ bytes_from memory (at + k) n) count
    ∙ sym (bytes_from-add memory at (length old) n) ∙ ap (bytes_from memory at) whole
