-- Small examples of hits, computed.
use Rattle.std.proofs.Common.{◌≡◌, ℕ, List, [], ◌∷◌, ◌++◌, Option, None, Some, replicate, refl}
use Rattle.std.specs.Prelude.{slice_get, codes, unwrap_or}
use Rattle.layer_base.specs.AddressSpace.{AddressSpace}
use Rattle.needle_search.specs.declared.hit.Hit.{Hit}
use Rattle.chunk_scanner.specs.Hits.{occurs, up_to, hits_at, hits_from, hits}

-- a memory of a few cells, from address 0 on
cells : List (Option ℕ) → AddressSpace
cells bytes = λ a. unwrap_or (slice_get bytes a) None

hit : ℕ → ℕ → Hit
hit at needle = record { at = at; needle = needle }

-- `AAAA` in six `A`, which it may overlap
overlapping : hits (cells (replicate 6 (Some 65))) 0 5 (codes "AAAA" ∷ []) ≡ hit 0 0 ∷ hit 1 0 ∷ hit 2 0 ∷ []
unfolding cells hit occurs up_to hits_at hits_from hits
overlapping = refl

-- the first and the last address of the range count
bounded : hits (cells (replicate 6 (Some 65))) 1 4 (codes "AAAA" ∷ []) ≡ hit 1 0 ∷ []
unfolding cells hit occurs up_to hits_at hits_from hits
bounded = refl

-- four `A`, of which the third is absent
across_a_hole : hits (cells (replicate 2 (Some 65) ++ (None ∷ replicate 2 (Some 65)))) 0 9 (codes "AAAA" ∷ codes "AA" ∷ []) ≡ hit 0 1 ∷ hit 3 1 ∷ []
unfolding cells hit occurs up_to hits_at hits_from hits
across_a_hole = refl

-- several needles at one address come by their numbers, equal ones too
several : hits (cells (replicate 3 (Some 65))) 0 2 (codes "AA" ∷ codes "AAA" ∷ codes "AA" ∷ []) ≡ hit 0 0 ∷ hit 0 1 ∷ hit 0 2 ∷ hit 1 0 ∷ hit 1 2 ∷ []
unfolding cells hit occurs up_to hits_at hits_from hits
several = refl
