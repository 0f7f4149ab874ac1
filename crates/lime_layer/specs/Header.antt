-- A header that was read.
use Rattle.std.specs.Prelude.{ℕ, List, [], take, Option, None, Some}
use Rattle.lime_layer.specs.declared.header.Header.{Header}

-- the bytes that are present of a header: none where there is none
abbrev pub bytes_of : Option Header → List ℕ
bytes_of None = []
bytes_of (Some header) = take header.count header.bytes
