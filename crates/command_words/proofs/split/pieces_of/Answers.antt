use Rattle.std.proofs.Common.{◌==◌, rules, tests}
use Rattle.std.proofs.lemmas.Iterator.Consumers.{map_from_collect}
use Rattle.std.proofs.lemmas.Iterator.Splits.{YieldsList-from_slice_split}
use Rattle.command_words.proofs.split.pieces_of.Goals as goal

pub returns : goal.returns
returns c =
    map_from_collect _ c.collect.ensures.ran (
    YieldsList-from_slice_split _ (λ other. other == c.args.byte) c.args.word.now (cc) (cc) c.split.ensures.closure (λ x b q called. search (rules, tests))
    )
