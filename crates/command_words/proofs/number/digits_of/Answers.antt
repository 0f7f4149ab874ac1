use Rattle.std.proofs.Common.{sym, ◌∙◌, arith}
use Rattle.command_words.proofs.Numbers.{digits_of-none}
use Rattle.command_words.proofs.number.digits_of.Goals as goal

pub returns-in_default : goal.returns-in_default
returns-in_default c =
    sym (digits_of-none c.args.base c.loop-byte.value c.loop-byte.byte-index c.args.word.now c.loop-byte.invariant.so_far c.loop-byte-test.true (omega arith) (sym c.with_digit.ensures ∙ c.in_default.is))
