-- Numbers among the words of the command line.
use Rattle.std.specs.Prelude.{ℕ, Bool, ◌&&◌, nat_lt, nat_le, if◌then◌else◌, List, length, Option, Some, None}
use Rattle.std.specs.Char.{is_ascii_digit}
use Rattle.std.specs.List.{list_all}
use Rattle.std.specs.Str.Parse.{digits_value}

-- whether the text is one or more decimal digits
abbrev pub are_digits : List ℕ → Bool
are_digits text = nat_lt 0 (length text) && list_all is_ascii_digit text

-- the number that decimal digits write
abbrev pub decimal_value : List ℕ → ℕ
decimal_value = digits_value 10

-- the number that decimal digits write, where it is from `least` to `most`
abbrev pub number_within : ℕ → ℕ → List ℕ → Option ℕ
number_within least most text =
    if are_digits text && (nat_le least (decimal_value text) && nat_le (decimal_value text) most)
    then Some (decimal_value text) else None
