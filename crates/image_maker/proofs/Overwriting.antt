-- A write of a piece to the tail of bytes from an offset on.
use Rattle.std.proofs.Common.{◌≡◌, ℕ, ◌+◌, ◌-◌, List, ◌++◌, length, take, drop, sym, ap, ◌∙◌, arith}
use Rattle.std.proofs.lemmas.List.{append-nil, drop-drop, drop_all, length-drop, take_rest}
use borrow.Rule.Slice.PartMut.{put_mid, mid_of}
use Rattle.image_maker.specs.Written.{written_at}

module _ (offset : ℕ) (bytes : List ℕ) where
  tail-put : (tail : List ℕ) → put_mid offset (length bytes - offset) bytes tail ≡ take offset bytes ++ tail
  tail-put tail =
      ap (λ (rest : List ℕ). take offset bytes ++ (tail ++ rest)) (drop_all (length bytes - offset) (drop offset bytes) (omega (arith, length-drop offset bytes)))
      ∙ ap (λ (rest : List ℕ). take offset bytes ++ rest) (append-nil tail)

  pub piece-put : (size : ℕ) (piece tail : List ℕ) → length piece ≡ size → tail ≡ piece ++ drop size (mid_of offset (length bytes - offset) bytes) → put_mid offset (length bytes - offset) bytes tail ≡ written_at offset piece bytes
  piece-put size piece tail long is =
      tail-put tail
      ∙ ap (λ (rest : List ℕ). take offset bytes ++ rest) (
      is
      ∙ ap (λ (rest : List ℕ). piece ++ rest) (
      ap (drop size) (take_rest bytes offset)
      ∙ drop-drop size offset bytes
      ∙ ap (λ (long : ℕ). drop (offset + long) bytes) (sym long)))
