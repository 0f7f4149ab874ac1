use Rattle.std.proofs.Common.{◌≡◌, ◌∷◌, map, drop}
use Rattle.command_words.specs.Name.{piece_of, name_of_pieces}
use Rattle.command_words.proofs.Joined.{joined_behind}
use Rattle.command_words.proofs.name_word.unescaped.Given as goal

-- what is left, behind the bytes so far, gives the whole name
abbrev pub invariant-loop-piece : goal.invariant-loop-piece
invariant-loop-piece l =
    joined_behind piece_of l.bytes.items (drop l.piece-index (map (λ piece. piece.now) l.pieces)) ≡ name_of_pieces (l.plain ∷ map (λ piece. piece.now) l.pieces)
