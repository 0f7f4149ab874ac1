-- What a source in memory has left. It sees its bytes by a call, as a list of its own.
use Rattle.std.proofs.Common.{◌≡◌, ℕ, ◌+◌, ◌-◌, ◌<◌, ◌≤◌, List, [], ◌++◌, length, take, drop, min, sym, ◌∙◌, ap, arith, length-drop, take-append-drop}
use Rattle.std.proofs.lemmas.List.{drop-drop, drop_all, take_rest}

module _ (seen bytes : List ℕ) (taken n : ℕ) (same : seen ≡ bytes) where
  rest : take (length seen - taken) (drop taken seen) ≡ drop taken bytes
  rest = take_rest seen taken ∙ ap (drop taken) same

  -- the bytes left are those that a read gave, and the rest
  pub left-split : (buf : List ℕ) → take n buf ≡ take n (take (length seen - taken) (drop taken seen)) → drop taken bytes ≡ take n buf ++ drop (taken + n) bytes
  left-split buf given =
      sym (take-append-drop n (drop taken bytes)) ∙ ap (λ (l : List ℕ). l ++ drop n (drop taken bytes)) (sym (given ∙ ap (take n) rest))
      ∙ ap (λ (l : List ℕ). take n buf ++ l) (drop-drop n taken bytes)

  -- a read that gives none into a buffer is at the end
  pub none-left : (cut room : ℕ) → taken ≤ length bytes → 0 < cut → n ≡ min (min cut room) (length (take (length seen - taken) (drop taken seen))) → n ≡ 0 → 0 < room → drop (taken + n) bytes ≡ []
  none-left cut room within some given none fits =
      let left : length (take (length seen - taken) (drop taken seen)) ≡ length bytes - taken = ap length rest ∙ length-drop taken bytes in
      drop_all (taken + n) bytes (omega arith)
