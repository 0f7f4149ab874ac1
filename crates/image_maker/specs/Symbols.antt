-- The symbol file of a made image.
use Rattle.std.specs.Prelude.{ℕ, ◌+◌, List, [], ◌∷◌, ◌++◌, map, codes}
use Rattle.base64.specs.GeneralPurpose.{encode_of}
use Rattle.base64.specs.Engines.{standard}
use Rattle.serde_json.specs.Data.{Data, string}
use Rattle.serde_json.specs.Written.{compact_text}
use Rattle.image_maker.specs.Banner.{banner}
use Rattle.image_maker.specs.Json.{object_of, whole, pointer, array_of}
use Rattle.image_maker.specs.Types.{base_types_value, user_types_value}

-- a symbol's name, and its offset from the kernel's link base
pub record Symbol : Type 0 where
  pub name : List ℕ
  pub offset : ℕ

abbrev pub symbol : List ℕ → ℕ → Symbol
symbol name offset = record { name = name; offset = offset }

-- the symbols that have an address alone
abbrev pub plain_symbols : List Symbol
plain_symbols =
    symbol (codes "init_top_pgt") 0x1000
    ∷ symbol (codes "init_task") 0x3000
    ∷ symbol (codes "init_files") 0x4000
    ∷ symbol (codes "modules") 0x5000
    ∷ symbol (codes "__x64_sys_read") 0xc000
    ∷ symbol (codes "sys_read_alias") 0xc000
    ∷ symbol (codes "sys_write") 0xc0c0
    ∷ symbol (codes "pipefs_dname") 0xc100
    ∷ []

abbrev pub address : ℕ → List ℕ × Data
address offset = (codes "address", whole (0xffffffff80000000 + offset))

abbrev pub plain_member : Symbol → List ℕ × Data
plain_member symbol = (symbol.name, object_of (address symbol.offset ∷ []))

-- the table of system calls is an array of three pointers
unfoldable pub calls_value : Data
calls_value = object_of (address 0x6000 ∷ (codes "type", array_of 3 pointer) ∷ [])

-- the banner and a zero byte, in base64
unfoldable pub banner_data : ℕ → List ℕ
banner_data number = encode_of standard (banner number ++ 0 ∷ [])

unfoldable pub banner_value : ℕ → Data
banner_value number = object_of (address 0x8000 ∷ (codes "constant_data", string (banner_data number)) ∷ [])

unfoldable pub symbols_value : ℕ → Data
symbols_value number = object_of (map plain_member plain_symbols ++ (codes "sys_call_table", calls_value) ∷ (codes "linux_banner", banner_value number) ∷ [])

unfoldable pub file_value : ℕ → Data
file_value number = object_of ((codes "base_types", base_types_value) ∷ (codes "user_types", user_types_value) ∷ (codes "symbols", symbols_value number) ∷ [])

-- the compact text of that value
unfoldable pub made_symbols : ℕ → List ℕ
made_symbols number = compact_text (file_value number)
