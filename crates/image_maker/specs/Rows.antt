-- Rows of a layout, as the code holds them: an offset, and what stands there.
use Rattle.std.specs.Prelude.{ℕ, ◌+◌, ◌≤◌, List, [], ◌∷◌, map, length, ⊤}
use Rattle.image_maker.specs.Written.{word, half}
use Rattle.image_maker.specs.declared.row.Content.{Content}
use Rattle.image_maker.specs.declared.row.Content.TheVariants.{Word, Half, Text}

-- the bytes that stand there
abbrev pub content_bytes : Content → List ℕ
content_bytes (Word number) = word number
content_bytes (Half number) = half number
content_bytes (Text text) = text.now

-- how many bytes these are
abbrev pub content_size : Content → ℕ
content_size (Word number) = 8
content_size (Half number) = 4
content_size (Text text) = length text.now

-- rows as pieces, with their offsets counted from one
abbrev pub pieces : ℕ → List (ℕ × Content) → List (ℕ × List ℕ)
pieces from rows = map (λ row. (from + row.0, content_bytes row.1)) rows

-- rows all of which end within so many bytes
abbrev pub AreWithin : ℕ → ℕ → List (ℕ × Content) → Type 0
AreWithin size from [] = ⊤
AreWithin size from (row ∷ rows) = (from + row.0 + content_size row.1 ≤ size) × AreWithin size from rows
