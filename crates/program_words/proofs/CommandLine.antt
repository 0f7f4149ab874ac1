-- What clap's own clauses come to for the command line.
use Rattle.std.proofs.Common.{◌≡◌, ◌≢◌, ◌∙◌, true, false, List, [], ◌∷◌, Result, Ok, Err, refl, ap, sym, subst, inl, inr}
use Rattle.clap.specs.Words.{App, FailsBy, HasKind, HasMatchesOf, Kinds, Text, fault_of, first_value, found_of, is_simple, is_simple_and_free, kind_of, matches_of, first_of, rows_of}
use Rattle.clap.specs.declared.error.Error.{Error}
use Rattle.clap.specs.declared.error.kind.ErrorKind.TheVariants.{OutOfMemory}
use Rattle.clap.specs.declared.parser.matches.ArgMatches.{ArgMatches}
use Rattle.clap.proofs.OnLiterals.{clap_on_literals}
use Rattle.clap.proofs.WalkLemmas.{first_value-rows}
use Rattle.program_words.specs.CommandLine.{command_line, fits, is_faultless, text_of}

-- clap says of the command exactly when a parse fails, and what it gives
simple_and_free : is_simple_and_free command_line ≡ true
unfolding command_line clap_on_literals
simple_and_free = refl

simple : is_simple command_line ≡ true
unfolding command_line clap_on_literals
simple = refl

-- a parse that succeeds, or fails for another reason than memory, tells whether the words fit
abbrev pub TellsFit : {T : Type 0} → List Text → Result T Error → Type 0
TellsFit words (Ok matches) = fits words ≡ true
TellsFit words (Err error) = kind_of error ≢ OutOfMemory → fits words ≡ false

no_kinds : (kinds : Kinds) → kinds ≡ [] → is_faultless kinds ≡ true
no_kinds kinds none = rw none refl

some_kinds : (kinds : Kinds) (error : Error) → HasKind kinds error → kind_of error ≢ OutOfMemory → is_faultless kinds ≡ false
some_kinds [] error (inl memory) other = absurd (other memory)
some_kinds [] error (inr among) other = absurd among
some_kinds (kind ∷ kinds) error has other = refl

pub tells_fit : {T : Type 0} (app : App) (words : List Text) (r : Result T Error) → app ≡ command_line
    → (is_simple_and_free app ≡ true → FailsBy (fault_of app words) r) → TellsFit words r
unfolding fits
tells_fit app words (Ok matches) is fails =
    let none : fault_of command_line words ≡ [] = ap (λ a. fault_of a words) (sym is) ∙ fails (ap is_simple_and_free is ∙ simple_and_free) in
    no_kinds (fault_of command_line words) none
tells_fit app words (Err error) is fails = λ other.
    let has : HasKind (fault_of command_line words) error =
    subst (λ a. HasKind (fault_of a words) error) is (fails (ap is_simple_and_free is ∙ simple_and_free)) in
    some_kinds (fault_of command_line words) error has other

-- the texts of a parse that succeeds
pub texts : (app : App) (words : List Text) (m : ArgMatches) → app ≡ command_line → HasMatchesOf app words m
    → (name : Text) → first_value (found_of m) name ≡ text_of name words
unfolding text_of
texts app words m is has name =
    let rows : rows_of (found_of m) ≡ matches_of app words = (has (ap is_simple is ∙ simple)).0 in
    first_value-rows (found_of m) name ∙ ap (first_of name) (rows ∙ ap (λ a. matches_of a words) is)
