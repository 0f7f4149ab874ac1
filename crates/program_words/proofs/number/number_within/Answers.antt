use Rattle.std.proofs.Common.{rules}
use Rattle.program_words.proofs.Digits.{parsed_number}
use Rattle.program_words.proofs.number.number_within.Goals as goal

pub returns-in_err-value-clause-value : goal.returns-in_err-value-clause-value
returns-in_err-value-clause-value c =
    let number = parsed_number c.args.least c.args.most c.args.text.now c.parse.result c.parse.ensures.value.0 (search rules) (search rules) in
    rw number (search rules)
