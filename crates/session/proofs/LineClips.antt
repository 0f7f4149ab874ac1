-- A line of commands says the same where the bytes that are too many are not kept: that it is too long.
use Rattle.std.proofs.Common.{◌≡◌, ℕ, ◌<◌, Bool, true, ltb, List, length, take, refl, sym, ◌∙◌, ap, ⊎_elim, arith, length-take}
use Rattle.std.proofs.lemmas.Bool.{cases_lt}
use Rattle.std.proofs.lemmas.Bool.Decides.{nat_tests}
use Rattle.std.proofs.lemmas.List.{take_all}
use Rattle.std.specs.Prelude.{Err}
use Rattle.command_words.specs.Line.{command_of}
use Rattle.command_words.specs.declared.fault.LineFault.TheVariants.{TooLong}
use Rattle.session.specs.Evidence.{Evidence}
use Rattle.session.specs.Limits.{line_room}
use Rattle.session.specs.Line.{said_of, line_said, ends_script, is_quit}
use Rattle.session.proofs.Clipped.{Clips}

too_long : (line : List ℕ) → 4096 < length line → command_of line ≡ Err TooLong
too_long line long = let longer : ltb 4096 (length line) ≡ true = grind (arith, nat_tests) in rw longer refl

command_of-clipped : (line : List ℕ) → command_of (take line_room line) ≡ command_of line
command_of-clipped line = ⊎_elim
    (λ long. too_long (take line_room line) (omega (arith, length-take line_room line)) ∙ sym (too_long line (omega (arith, long))))
    (λ short. ap command_of (take_all line_room line short)) (cases_lt line_room (length line))

pub line-clips : (has_dump : Bool) (evidence : Evidence) → Clips (line_said has_dump evidence) is_quit
line-clips has_dump evidence = record {
  same_said = λ line. ap (said_of has_dump evidence) (command_of-clipped line);
  same_end = λ line. ap ends_script (command_of-clipped line);
}
