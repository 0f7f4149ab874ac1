use Rattle.std.proofs.Common.{[], ◌∷◌, Ok, ap}
use Rattle.command_words.specs.Answer.{◌>>=◌}
use Rattle.command_words.specs.Name.{name_of}
use Rattle.command_words.proofs.Joined.{joined-more, joined-fails}
use Rattle.command_words.proofs.Steps.{Gives-through, then-fails}
use Rattle.command_words.proofs.name_word.names_of.Goals as goal

pub returns-in_err-name_of : goal.returns-in_err-name_of
returns-in_err-name_of c =
    Gives-through c.in_err-name_of.field-0.0 _ _ _ c.from_residual.ensures.1
    (λ is.
    joined-fails (λ word. name_of word >>= λ name. Ok (name ∷ [])) (λ part. part.now) c.loop-part.names c.loop-part.part-index c.args.parts.now _ c.loop-part.invariant _ c.in_err-name_of.field-0.0 c.loop-part-test.true (then-fails _ _ _ is))
    c.in_err-name_of.ensures

pub loop-part-preserved : goal.loop-part-preserved
loop-part-preserved c =
    rw c.in_ok-add.ensures.ok
    (joined-more (λ word. name_of word >>= λ name. Ok (name ∷ [])) (λ part. part.now) c.loop-part.names c.loop-part.part-index c.args.parts.now _ c.loop-part.invariant _ (c.in_ok-name_of.field-0 ∷ []) c.loop-part-test.true (ap (λ r. r >>= λ name. Ok (name ∷ [])) c.in_ok-name_of.ensures))
