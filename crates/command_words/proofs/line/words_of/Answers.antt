use Rattle.std.proofs.Common.{length, ltb, rules, tests}
use Rattle.std.proofs.lemmas.Iterator.Consumers.{map_from_collect, YieldsList-from_filter}
use Rattle.std.proofs.lemmas.Iterator.Splits.{YieldsList-from_slice_split}
use Rattle.command_words.specs.Line.{is_blank}
use Rattle.command_words.proofs.line.words_of.Goals as goal

pub returns : goal.returns
returns c =
    map_from_collect _ c.collect.ensures.ran (
    YieldsList-from_filter _ (λ word. ltb 0 (length word)) (
    YieldsList-from_slice_split _ is_blank c.args.line.now (cc) (cc) (cc) (λ x b q called. search (rules, tests))
    ) c.filter.ensures.closure (λ x b q called. search (rules, tests))
    )
