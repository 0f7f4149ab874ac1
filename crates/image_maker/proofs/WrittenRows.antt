-- Rows that are written one by one. Each row is read at its index, with some default.
use Rattle.std.proofs.Common.{◌≡◌, ℕ, zero, suc, ◌+◌, ◌<◌, ◌≤◌, List, [], ◌∷◌, length, get_or, take, sym, ap, ◌∙◌, arith}
use Rattle.std.proofs.lemmas.List.{map_more}
use Rattle.image_maker.specs.Rows.{content_bytes, content_size, pieces, AreWithin}
use Rattle.image_maker.specs.Written.{written_at, written}
use Rattle.image_maker.specs.declared.row.Content.{Content}
use Rattle.image_maker.proofs.Writing.{written-one, behind}

-- each of the rows ends within the bytes
pub within-at : (size from : ℕ) (rows : List (ℕ × Content)) (i : ℕ) (d : ℕ × Content) → AreWithin size from rows → i < length rows → from + (get_or rows i d).0 + content_size (get_or rows i d).1 ≤ size
within-at size from [] i d all inside = absurd (omega arith)
within-at size from (first ∷ rows) zero d all inside = all.0
within-at size from (first ∷ rows) (suc i) d all inside = within-at size from rows i d all.1 (omega arith)

-- a row more
pub rows-next : (from : ℕ) (rows : List (ℕ × Content)) (i : ℕ) (d : ℕ × Content) → i < length rows
    → (bytes old new : List ℕ) → old ≡ written (pieces from (take i rows)) bytes
    → new ≡ written_at (from + (get_or rows i d).0) (content_bytes (get_or rows i d).1) old
    → new ≡ written (pieces from (take (i + 1) rows)) bytes
rows-next from rows i d inside bytes old new before after =
    let offset : ℕ = from + (get_or rows i d).0 in
    let piece : List ℕ = content_bytes (get_or rows i d).1 in
    behind (pieces from (take i rows)) ((offset, piece) ∷ []) bytes old new before (after ∙ written-one offset piece old)
    ∙ ap (λ (list : List (ℕ × List ℕ)). written list bytes) (sym (map_more (λ (row : ℕ × Content). (from + row.0, content_bytes row.1)) rows i d inside))
