-- Command lines, computed.
use Rattle.std.proofs.Common.{◌≡◌, ℕ, List, [], ◌∷◌, Option, None, Some, refl}
use Rattle.std.specs.Prelude.{codes}
use Rattle.clap.proofs.OnLiterals.{clap_on_literals}
use Rattle.program_words.specs.CommandLine.{command_line, fits, text_of}
use Rattle.program_words.specs.Settings.{settings_of}
use Rattle.program_words.specs.declared.settings.Settings.{Settings}

settings : Option (List ℕ) → ℕ → ℕ → Option Settings
settings dump cache chunk = Some (record { image = codes "i"; symbols = codes "s"; dump = dump; cache = cache; chunk = chunk })

value_behind_equals : settings_of (codes "i" ∷ codes "s" ∷ codes "--cache=0" ∷ []) ≡ settings None 0 1048576
unfolding settings command_line fits text_of settings_of clap_on_literals
value_behind_equals = refl

option_in_front : settings_of (codes "--chunk" ∷ codes "4096" ∷ codes "i" ∷ codes "s" ∷ codes "d" ∷ []) ≡ settings (Some (codes "d")) 4096 4096
unfolding settings command_line fits text_of settings_of clap_on_literals
option_in_front = refl

zeros_in_front : settings_of (codes "i" ∷ codes "s" ∷ codes "--cache" ∷ codes "0004" ∷ []) ≡ settings None 4 1048576
unfolding settings command_line fits text_of settings_of clap_on_literals
zeros_in_front = refl

hyphen_alone : settings_of (codes "i" ∷ codes "s" ∷ codes "-" ∷ []) ≡ settings (Some (codes "-")) 4096 1048576
unfolding settings command_line fits text_of settings_of clap_on_literals
hyphen_alone = refl

option_twice : settings_of (codes "i" ∷ codes "s" ∷ codes "--cache" ∷ codes "1" ∷ codes "--cache" ∷ codes "1" ∷ []) ≡ None
unfolding settings command_line fits text_of settings_of clap_on_literals
option_twice = refl

help_refused : settings_of (codes "i" ∷ codes "s" ∷ codes "--help" ∷ []) ≡ None
unfolding settings command_line fits text_of settings_of clap_on_literals
help_refused = refl
