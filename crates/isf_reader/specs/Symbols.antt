-- An entry of the section `symbols`. Its keys, in the order in which they are read:
--
--     address         a whole number from 0 on
--     type            a descriptor; missing or null is none
--     constant_data   a text in base64; missing or null is none
use Rattle.std.specs.Prelude.{ℕ, List, Option, Some, None, option_map, option_and_then, Result, Ok, codes}
use Rattle.std.specs.Result.{result_ok}
use Rattle.base64.specs.Engines.{standard}
use Rattle.base64.specs.GeneralPurpose.{decode_of}
use Rattle.serde_json.specs.Data.{Data}
use Rattle.serde_json.specs.Find.{as_str}
use Rattle.isf_reader.specs.Entry.{with_key}
use Rattle.isf_reader.specs.Json.{given, natural_at}
use Rattle.isf_reader.specs.TypeOf.{type_of}
use Rattle.isf_reader.specs.declared.refusal.Key.{Key}
use Rattle.isf_reader.specs.declared.refusal.Key.TheVariants as keys
use Rattle.isf_reader.specs.declared.symbol.Symbol.{Symbol}
use Rattle.isf_reader.specs.declared.type_ref.TypeRef.{TypeRef}

-- no type where the key is missing or null
abbrev pub optional_type : Option Data → Option (Option TypeRef)
optional_type None = Some None
optional_type (Some d) = option_map Some (type_of d)

-- what a text is in base64, with the standard alphabet and padding
unfoldable pub decoded : List ℕ → Option (List ℕ)
decoded text = result_ok (decode_of standard text)

-- no data where the key is missing or null
abbrev pub optional_bytes : Option Data → Option (Option (List ℕ))
optional_bytes None = Some None
optional_bytes (Some d) = option_map Some (option_and_then decoded (as_str d))

-- the symbol, or its first key at fault
abbrev pub symbol_of : Data → Result Symbol Key
symbol_of d =
    with_key (natural_at (codes "address") d) keys.Address (λ address.
    with_key (optional_type (given (codes "type") d)) keys.Of (λ of.
    with_key (optional_bytes (given (codes "constant_data") d)) keys.ConstantData (λ constant.
    Ok (record { address = address; of = of; constant = constant }))))
