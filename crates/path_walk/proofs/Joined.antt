-- Names that are joined from the last one on.
use Rattle.std.proofs.Common.{◌≡◌, ℕ, ◌+◌, ◌<◌, ◌≤◌, List, [], ◌∷◌, ◌++◌, length, get_or, take, true, sym, ◌∙◌, ap, append_assoc, arith}
use Rattle.std.specs.Prelude.{nat_lt, reverse}
use Rattle.std.specs.List.{join_with_byte}
use Rattle.std.proofs.lemmas.Bool.{lt-ltb}
use Rattle.std.proofs.lemmas.Grind.{common_steps}
use Rattle.std.proofs.lemmas.List.{append-nil, length-reverse, length-take-le, reverse-append}
use Rattle.path_walk.specs.Path.{slash_if}

-- a name in front of others
join-cons : (name : List ℕ) (names : List (List ℕ)) → join_with_byte 47 (name ∷ names) ≡ (name ++ slash_if (nat_lt 0 (length names))) ++ join_with_byte 47 names
join-cons name [] = sym (append-nil name) ∙ sym (append-nil (name ++ []))
join-cons name (next ∷ names) =
    let some : 0 < length (next ∷ names) = omega arith in
    let more : nat_lt 0 (length (next ∷ names)) ≡ true = lt-ltb 0 (length (next ∷ names)) some in
    rw more (sym (append_assoc name (slash_if true) (join_with_byte 47 (next ∷ names))))

-- the name at a place goes before those in front of it
pub joined-more : (names : List (List ℕ)) (name : List ℕ) (k : ℕ) → k < length names → name ≡ get_or names k name → join_with_byte 47 (reverse (take (k + 1) names)) ≡ (name ++ slash_if (nat_lt 0 k)) ++ join_with_byte 47 (reverse (take k names))
joined-more names name k within here =
    let taken : take (k + 1) names ≡ take k names ++ name ∷ [] = grind (arith, common_steps) in
    let turned : reverse (take (k + 1) names) ≡ name ∷ reverse (take k names) = ap reverse taken ∙ reverse-append (take k names) (name ∷ []) in
    let few : k ≤ length names = omega arith in
    let count : length (reverse (take k names)) ≡ k = length-reverse (take k names) ∙ length-take-le k names few in
    ap (join_with_byte 47) turned ∙ join-cons name (reverse (take k names))
    ∙ ap (λ (n : ℕ). (name ++ slash_if (nat_lt 0 n)) ++ join_with_byte 47 (reverse (take k names))) count
