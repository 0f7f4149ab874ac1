-- Pieces that are written over bytes, some behind others.
use Rattle.std.proofs.Common.{◌≡◌, ℕ, List, [], ◌∷◌, ◌++◌, refl, sym, ap, ◌∙◌}
use Rattle.std.proofs.lemmas.List.Sums.{fold-append}
use Rattle.image_maker.specs.Written.{written_at, written}

pub written-nothing : (bytes : List ℕ) → bytes ≡ written [] bytes
unfolding written
written-nothing bytes = refl

pub written-one : (offset : ℕ) (piece bytes : List ℕ) → written_at offset piece bytes ≡ written ((offset, piece) ∷ []) bytes
unfolding written
written-one offset piece bytes = refl

written-append : (first second : List (ℕ × List ℕ)) (bytes : List ℕ) → written (first ++ second) bytes ≡ written second (written first bytes)
unfolding written
written-append first second bytes = fold-append (λ bytes piece. written_at piece.0 piece.1 bytes) bytes first second

-- pieces that are written behind others
pub behind : (first second : List (ℕ × List ℕ)) (bytes middle new : List ℕ) → middle ≡ written first bytes → new ≡ written second middle → new ≡ written (first ++ second) bytes
behind first second bytes middle new before after = after ∙ ap (written second) before ∙ sym (written-append first second bytes)
