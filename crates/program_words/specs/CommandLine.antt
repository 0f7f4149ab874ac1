-- The command line, in the terms in which clap says what a parse makes of words.
use Rattle.std.specs.Prelude.{Bool, true, false, List, [], ◌∷◌, Option, Some, codes}
use Rattle.clap.specs.Words.{App, Kinds, Rule, Text, fault_of, first_of, matches_of, new_app, new_rule, with_rule}
use Rattle.clap.specs.Simple.{on_top}
use Rattle.clap.specs.declared.builder.action.ArgAction.TheVariants.{Set}

-- a plain word that must be there
abbrev pub required_word : Text → Rule
required_word name = record (new_rule name) { required = true; action = Some Set }

-- a plain word that may be missing
abbrev pub optional_word : Text → Rule
optional_word name = record (new_rule name) { action = Some Set }

-- an option with one text as its value, `--name VALUE` or `--name=VALUE`
abbrev pub text_option : Text → Rule
text_option name = record (new_rule name) { long = Some name; action = Some Set }

-- a command of no arguments, whose words do not begin with the program's name; it has no help and no version
abbrev pub bare_command : App
bare_command = on_top
    (λ top. record top { no_binary_name = true; disable_help_flag = true; disable_version_flag = true })
    (new_app (codes "memlens"))

-- `IMAGE SYMBOLS [DUMP] [--cache N] [--chunk N]`
unfoldable pub command_line : App
command_line =
    with_rule (with_rule (with_rule (with_rule (with_rule bare_command
    (required_word (codes "IMAGE"))) (required_word (codes "SYMBOLS"))) (optional_word (codes "DUMP")))
    (text_option (codes "cache"))) (text_option (codes "chunk"))

-- whether there is no fault
abbrev pub is_faultless : Kinds → Bool
is_faultless [] = true
is_faultless (fault ∷ faults) = false

-- whether the words are those of a command line: the meaning that clap defines has no fault
unfoldable pub fits : List Text → Bool
fits words = is_faultless (fault_of command_line words)

-- the text that fitting words give for an argument
unfoldable pub text_of : Text → List Text → Option Text
text_of name words = first_of name (matches_of command_line words)
