-- Every command keeps its limits.
use Rattle.std.proofs.Common.{◌≡◌, ℕ, ◌-◌, ◌*◌, ◌^◌, ◌<◌, ◌≤◌, Bool, true, false, nat_lt, if◌then◌else◌, List, [], ◌∷◌, length, Option, None, Some, Result, Ok, Err, IfOk, refl, arith, ap}
use Rattle.std.proofs.lemmas.Bool.Decides.{nat_tests}
use Rattle.std.proofs.lemmas.Result.{IfOk-at_ok}
use Rattle.command_words.proofs.ShortWords.{AreShort, first-short, others-short}
use Rattle.hex.proofs.HexLemmas.{decode_of-ok}
use Rattle.hex.specs.Hex.{decode_of}
use Rattle.hex.specs.declared.error.FromHexError.{FromHexError}
use Rattle.command_words.specs.Answer.{◌>>=◌, Gives}
use Rattle.command_words.specs.Command.{of_none, of_one, of_two, of_three, of_four, read_of, dump_of, show_of, translate_of, scan_of, with_number, with_name, command_of_verb}
use Rattle.command_words.specs.Hex.{decoded, needle_of}
use Rattle.command_words.specs.Limits.{most_line, most_read, most_dump, most_path, IsStretch, KeepsLimits}
use Rattle.command_words.specs.Line.{is_comment, command_with, command_of_words}
use Rattle.command_words.specs.Name.{name_of, type_of}
use Rattle.command_words.specs.Number.{number_of}
use Rattle.command_words.specs.Place.{space_of, address_of, is_stretch}
use Rattle.command_words.specs.Verb.{verb_of}
use Rattle.command_words.specs.declared.command.AddrWord.{AddrWord}
use Rattle.command_words.specs.declared.command.AddrWord.TheVariants as address
use Rattle.command_words.specs.declared.command.Command.{Command}
use Rattle.command_words.specs.declared.command.Command.TheVariants.{Nothing, Banners, Kernel, Pslist, Pstree, Lsmod, CheckSyscall, Quit, Maps, Lsof, Layout, Symbol, Near}
use Rattle.command_words.specs.declared.fault.LineFault.{LineFault}
use Rattle.command_words.specs.declared.fault.LineFault.TheVariants.{Range}
use Rattle.command_words.specs.declared.verb.Verb.{Verb}
use Rattle.command_words.specs.declared.verb.Verb.TheVariants as verb

-- a last step that keeps the limits
then-keeps : {A B : Type 0} (P : B → Type 0) (step : Result A LineFault) (next : A → Result B LineFault) → ((value : A) → step ≡ Ok value → IfOk (next value) P) → IfOk (step >>= next) P
then-keeps P (Ok value) next keeps = keeps value refl
then-keeps P (Err fault) next keeps = tt

tested : {A : Type 0} (P : A → Type 0) (test : Bool) (value : A) (fault : LineFault) → (test ≡ true → P value) → IfOk (if test then Ok value else Err fault) P
tested P true value fault keeps = keeps refl
tested P false value fault keeps = tt

untested : {A : Type 0} (P : A → Type 0) (test : Bool) (value : A) (fault : LineFault) → (test ≡ false → P value) → IfOk (if test then Err fault else Ok value) P
untested P true value fault keeps = tt
untested P false value fault keeps = keeps refl

is_stretch-keeps : (most : ℕ) (at : AddrWord) (len : ℕ) → is_stretch most at len ≡ true → IsStretch at len × (len ≤ most)
is_stretch-keeps most (address.Number at) len is = grind (arith, nat_tests)
is_stretch-keeps most (address.Symbol name) len is = grind (arith, nat_tests)

decoded-length : (text bytes : List ℕ) (answer : Result (List ℕ) FromHexError) → decode_of text ≡ answer → decoded answer ≡ Ok bytes → length text ≡ 2 * length bytes
decoded-length text bytes (Ok other) is same =
    let whole = decode_of-ok text other is in
    let equal : other ≡ bytes = cc in
    let long : length text ≡ 2 * length other = whole.2 in
    omega (arith, ap length equal)
decoded-length text bytes (Err error) is same = absurd cc

needle_of-keeps : (word needle : List ℕ) → length word ≤ most_line → needle_of word ≡ Ok needle → (0 < length needle) × (2 * length needle ≤ most_line)
needle_of-keeps [] needle short is = absurd cc
needle_of-keeps (digit ∷ digits) needle short is =
    let long = decoded-length (digit ∷ digits) needle (decode_of (digit ∷ digits)) refl is in
    (omega arith, omega arith)

of_none-keeps : (P : Command → Type 0) (command : Command) (words : List (List ℕ)) → P command → IfOk (of_none command words) P
of_none-keeps P command [] keeps = keeps
of_none-keeps P command (word ∷ words) keeps = tt

read_of-keeps : (space at len : List ℕ) → IfOk (read_of space at len) KeepsLimits
read_of-keeps space at len =
    then-keeps KeepsLimits (space_of space) _ (λ space _. then-keeps KeepsLimits (address_of at) _ (λ at _. then-keeps KeepsLimits (number_of len) _ (λ len _. tested KeepsLimits (is_stretch most_read at len) _ Range (is_stretch-keeps most_read at len))))

dump_of-keeps : (space at len : List ℕ) → IfOk (dump_of space at len) KeepsLimits
dump_of-keeps space at len =
    then-keeps KeepsLimits (space_of space) _ (λ space _. then-keeps KeepsLimits (address_of at) _ (λ at _. then-keeps KeepsLimits (number_of len) _ (λ len _. tested KeepsLimits (is_stretch most_dump at len) _ Range (is_stretch-keeps most_dump at len))))

show_of-keeps : (space at name : List ℕ) → IfOk (show_of space at name) KeepsLimits
show_of-keeps space at name =
    then-keeps KeepsLimits (space_of space) _ (λ space _. then-keeps KeepsLimits (address_of at) _ (λ at _. then-keeps KeepsLimits (type_of name) _ (λ names _. untested KeepsLimits (nat_lt most_path (length names.1)) _ Range (λ is. few (length names.1) is))))
  where
    few : (n : ℕ) → nat_lt most_path n ≡ false → n ≤ most_path
    few n is = grind (arith, nat_tests)

scan_of-keeps : (space at len needle : List ℕ) → length needle ≤ most_line → IfOk (scan_of space at len needle) KeepsLimits
scan_of-keeps space at len needle short =
    then-keeps KeepsLimits (space_of space) _ (λ space _. then-keeps KeepsLimits (address_of at) _ (λ at _. then-keeps KeepsLimits (number_of len) _ (λ len _. then-keeps KeepsLimits (needle_of needle) _ (λ bytes is. tested KeepsLimits (is_stretch (2 ^ 64 - 1) at len) _ Range (λ holds. let kept = needle_of-keeps needle bytes short is in ((is_stretch-keeps (2 ^ 64 - 1) at len holds).0, kept.0, kept.1))))))

translate_of-keeps : (space at : List ℕ) → IfOk (translate_of space at) KeepsLimits
translate_of-keeps space at =
    then-keeps KeepsLimits (space_of space) _ (λ space _. then-keeps KeepsLimits (address_of at) _ (λ at _. tt))

of_two-keeps : (meaning : List ℕ → List ℕ → Result Command LineFault) (words : List (List ℕ)) → ((a b : List ℕ) → IfOk (meaning a b) KeepsLimits) → IfOk (of_two meaning words) KeepsLimits
of_two-keeps meaning [] keeps = tt
of_two-keeps meaning (a ∷ []) keeps = tt
of_two-keeps meaning (a ∷ b ∷ []) keeps = keeps a b
of_two-keeps meaning (a ∷ b ∷ c ∷ words) keeps = tt

of_three-keeps : (meaning : List ℕ → List ℕ → List ℕ → Result Command LineFault) (words : List (List ℕ)) → ((a b c : List ℕ) → IfOk (meaning a b c) KeepsLimits) → IfOk (of_three meaning words) KeepsLimits
of_three-keeps meaning [] keeps = tt
of_three-keeps meaning (a ∷ []) keeps = tt
of_three-keeps meaning (a ∷ b ∷ []) keeps = tt
of_three-keeps meaning (a ∷ b ∷ c ∷ []) keeps = keeps a b c
of_three-keeps meaning (a ∷ b ∷ c ∷ d ∷ words) keeps = tt

of_four-keeps : (meaning : List ℕ → List ℕ → List ℕ → List ℕ → Result Command LineFault) (words : List (List ℕ)) → AreShort most_line words → ((a b c d : List ℕ) → length d ≤ most_line → IfOk (meaning a b c d) KeepsLimits) → IfOk (of_four meaning words) KeepsLimits
of_four-keeps meaning [] short keeps = tt
of_four-keeps meaning (a ∷ []) short keeps = tt
of_four-keeps meaning (a ∷ b ∷ []) short keeps = tt
of_four-keeps meaning (a ∷ b ∷ c ∷ []) short keeps = tt
of_four-keeps meaning (a ∷ b ∷ c ∷ d ∷ []) short keeps =
    keeps a b c d (first-short most_line d [] (others-short most_line c (d ∷ []) (others-short most_line b (c ∷ d ∷ []) (others-short most_line a (b ∷ c ∷ d ∷ []) short))))
of_four-keeps meaning (a ∷ b ∷ c ∷ d ∷ e ∷ words) short keeps = tt

with_number-keeps : (command : ℕ → Command) (words : List (List ℕ)) → ((number : ℕ) → KeepsLimits (command number)) → IfOk (with_number command words) KeepsLimits
with_number-keeps command words keeps = then-keeps KeepsLimits (of_one number_of words) _ (λ number _. keeps number)

with_name-keeps : (command : List ℕ → Command) (words : List (List ℕ)) → ((name : List ℕ) → KeepsLimits (command name)) → IfOk (with_name command words) KeepsLimits
with_name-keeps command words keeps = then-keeps KeepsLimits (of_one name_of words) _ (λ name _. keeps name)

command_of_verb-keeps : (named : Verb) (words : List (List ℕ)) → AreShort most_line words → IfOk (command_of_verb named words) KeepsLimits
command_of_verb-keeps verb.Banners words short = of_none-keeps KeepsLimits Banners words tt
command_of_verb-keeps verb.Kernel words short = of_none-keeps KeepsLimits Kernel words tt
command_of_verb-keeps verb.Pslist words short = of_none-keeps KeepsLimits Pslist words tt
command_of_verb-keeps verb.Pstree words short = of_none-keeps KeepsLimits Pstree words tt
command_of_verb-keeps verb.Lsmod words short = of_none-keeps KeepsLimits Lsmod words tt
command_of_verb-keeps verb.CheckSyscall words short = of_none-keeps KeepsLimits CheckSyscall words tt
command_of_verb-keeps verb.Quit words short = of_none-keeps KeepsLimits Quit words tt
command_of_verb-keeps verb.Maps words short = with_number-keeps Maps words (λ n. tt)
command_of_verb-keeps verb.Lsof words short = with_number-keeps Lsof words (λ n. tt)
command_of_verb-keeps verb.Read words short = of_three-keeps read_of words read_of-keeps
command_of_verb-keeps verb.Dump words short = of_three-keeps dump_of words dump_of-keeps
command_of_verb-keeps verb.Show words short = of_three-keeps show_of words show_of-keeps
command_of_verb-keeps verb.Layout words short = with_name-keeps Layout words (λ n. tt)
command_of_verb-keeps verb.Symbol words short = with_name-keeps Symbol words (λ n. tt)
command_of_verb-keeps verb.Near words short = with_number-keeps Near words (λ n. tt)
command_of_verb-keeps verb.Translate words short = of_two-keeps translate_of words translate_of-keeps
command_of_verb-keeps verb.Scan words short = of_four-keeps scan_of words short scan_of-keeps

command_with-keeps : (named : Option Verb) (words : List (List ℕ)) → AreShort most_line words → IfOk (command_with named words) KeepsLimits
command_with-keeps None words short = tt
command_with-keeps (Some named) words short = command_of_verb-keeps named words short

command_of_words-keeps : (words : List (List ℕ)) → AreShort most_line words → IfOk (command_of_words words) KeepsLimits
command_of_words-keeps [] short = tt
command_of_words-keeps (first ∷ rest) short = either (is_comment first)
  where
    either : (comment : Bool) → IfOk (if comment then Ok Nothing else command_with (verb_of first) rest) KeepsLimits
    either true = tt
    either false = command_with-keeps (verb_of first) rest (others-short most_line first rest short)

-- an answer that the definition gives keeps the limits where the definition does
pub Gives-keeps : {A : Type 0} (P : A → Type 0) (answer defined : Result A LineFault) → Gives answer defined → IfOk defined P → IfOk answer P
Gives-keeps P (Ok value) defined gives keeps = IfOk-at_ok P gives keeps
Gives-keeps P (Err fault) defined gives keeps = tt

pub words-keep : (answer : Result Command LineFault) (words : List (List ℕ)) → AreShort most_line words → Gives answer (command_of_words words) → IfOk answer KeepsLimits
words-keep answer words short gives = Gives-keeps KeepsLimits answer (command_of_words words) gives (command_of_words-keeps words short)
