-- What a dump of memory says.
use Rattle.std.specs.Prelude.{ℕ, List, ◌++◌, map, codes, Option, None, Some, is_none}
use Rattle.std.specs.Fmt.{decimal}
use Rattle.std.specs.List.{count_by}
use Rattle.layer_base.specs.AddressSpace.{AddressSpace, bytes_from}
use Rattle.space_memory.specs.InSpace.{in_space}
use Rattle.session.specs.Said.{Said}
use Rattle.session.specs.declared.place.Place.{Place}

-- a byte, and zero in the place of one that is absent
abbrev pub or_zero : Option ℕ → ℕ
or_zero None = 0
or_zero (Some byte) = byte

-- the bytes of so many addresses from one on
unfoldable pub dumped_bytes : AddressSpace → ℕ → ℕ → List ℕ
dumped_bytes memory at len = map or_zero (bytes_from memory at len)

-- how many of them are absent
unfoldable pub absent_bytes : AddressSpace → ℕ → ℕ → ℕ
absent_bytes memory at len = count_by is_none (bytes_from memory at len)

-- how many bytes were dumped, and how many of them are absent, on a line
unfoldable pub dumped_text : ℕ → ℕ → List ℕ
dumped_text len absent = codes "dumped " ++ decimal len ++ codes " bytes, " ++ decimal absent ++ codes " absent\n"

-- so many bytes from a place on are dumped, and a line says how many they are
abbrev pub dump_said : AddressSpace → ℕ → Place → Said
dump_said memory len place = record {
  text = dumped_text len (absent_bytes (in_space memory place.space) place.at len);
  dumped = dumped_bytes (in_space memory place.space) place.at len;
}

-- there is no file for dumps
abbrev pub no_dump_text : List ℕ
no_dump_text = codes "error: no dump file\n"
