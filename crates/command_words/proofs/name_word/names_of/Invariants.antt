use Rattle.std.proofs.Common.{◌≡◌, [], ◌∷◌, Ok, map, drop}
use Rattle.command_words.specs.Answer.{◌>>=◌}
use Rattle.command_words.specs.Name.{name_of, names_of}
use Rattle.command_words.proofs.Joined.{joined_behind}
use Rattle.command_words.proofs.name_word.names_of.Given as goal

-- what is left, behind the names so far, gives all names
abbrev pub invariant-loop-part : goal.invariant-loop-part
invariant-loop-part l =
    joined_behind (λ word. name_of word >>= λ name. Ok (name ∷ [])) l.names (drop l.part-index (map (λ part. part.now) l.parts)) ≡ names_of (map (λ part. part.now) l.parts)
