use Rattle.std.proofs.Common.{append_assoc}
use Rattle.command_words.specs.Name.{piece_of}
use Rattle.command_words.proofs.Joined.{joined-more, joined-fails}
use Rattle.command_words.proofs.Steps.{Gives-own}
use Rattle.command_words.proofs.name_word.unescaped.Goals as goal

pub returns-in_err-byte : goal.returns-in_err-byte
returns-in_err-byte c =
    Gives-own c.in_err-byte.field-0.0 _ _ c.from_residual-in_err-byte.ensures.1
    (joined-fails piece_of (λ piece. piece.now) c.loop-piece.bytes.items c.loop-piece.piece-index c.args.pieces.now _ c.loop-piece.invariant _ c.in_err-byte.field-0.0 c.loop-piece-test.true c.in_err-byte.ensures)

pub loop-piece-preserved : goal.loop-piece-preserved
loop-piece-preserved c =
    rw (c.in_ok-extend_from_slice-2.ensures.items, c.in_ok-extend_from_slice.ensures.items, append_assoc)
    (joined-more piece_of (λ piece. piece.now) c.loop-piece.bytes.items c.loop-piece.piece-index c.args.pieces.now _ c.loop-piece.invariant _ _ c.loop-piece-test.true c.in_ok-byte.ensures)
