-- The header of a range of a LiME file, by its first and its last address.
use Rattle.std.specs.Prelude.{ℕ, List, [], ◌∷◌}
use Rattle.image_maker.specs.Written.{zeros, half, word, written}

-- its magic, its version and its addresses, with reserved bytes that are zero
abbrev pub header_pieces : ℕ → ℕ → List (ℕ × List ℕ)
header_pieces first last = (0, half 0x4C694D45) ∷ (4, half 1) ∷ (8, word first) ∷ (16, word last) ∷ []

abbrev pub header : ℕ → ℕ → List ℕ
header first last = written (header_pieces first last) (zeros 32)
