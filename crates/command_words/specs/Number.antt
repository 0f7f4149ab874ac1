-- Numbers in a line.
use Rattle.std.specs.Prelude.{ℕ, ◌+◌, ◌*◌, ◌^◌, Bool, ◌&&◌, ◌==◌, nat_lt, if◌then◌else◌, List, ◌∷◌, length, Option, Some, None, Result, Ok, Err}
use Rattle.std.specs.Char.{digit_value, is_digit}
use Rattle.std.specs.List.{list_all}
use Rattle.std.specs.Str.Parse.{digits_value}
use Rattle.command_words.specs.declared.fault.LineFault.{LineFault}
use Rattle.command_words.specs.declared.fault.LineFault.TheVariants.{Number}

-- a value that fits 64 bits
abbrev pub is_word : ℕ → Bool
is_word value = nat_lt value (2 ^ 64)

-- whether the bytes are one or more digits of a base
abbrev pub are_digits : ℕ → List ℕ → Bool
are_digits base word = nat_lt 0 (length word) && list_all (λ byte. is_digit byte base) word

-- the number that digits of a base write, where it fits 64 bits
abbrev pub digits_of : ℕ → List ℕ → Result ℕ LineFault
digits_of base word = if are_digits base word && is_word (digits_value base word) then Ok (digits_value base word) else Err Number

-- a number behind which one more digit stands, where it fits 64 bits
abbrev pub with_digit : ℕ → ℕ → ℕ → Option ℕ
with_digit base value byte = if is_digit byte base && is_word (value * base + digit_value byte) then Some (value * base + digit_value byte) else None

-- a number: decimal digits, or hexadecimal ones behind `0x`
abbrev pub number_of : List ℕ → Result ℕ LineFault
number_of (a ∷ b ∷ digits) = if a == 48 && b == 120 then digits_of 16 digits else digits_of 10 (a ∷ b ∷ digits)
number_of word = digits_of 10 word
