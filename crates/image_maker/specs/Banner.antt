-- The banner of a made kernel.
use Rattle.std.specs.Prelude.{ℕ, List, ◌++◌, codes, decimal}

-- with its newline
unfoldable pub banner : ℕ → List ℕ
banner number = codes "Linux version 6.0.0-made " ++ decimal number ++ codes "\n"
