use Rattle.std.proofs.Common.{◌≡◌, ◌∙◌, ◌≤◌, length, map, ap, arith}
use Rattle.std.proofs.lemmas.List.Elements.{All-same}
use Rattle.command_words.specs.Limits.{most_line}
use Rattle.command_words.specs.Line.{trimmed, words_of}
use Rattle.command_words.proofs.Limited.{words-keep}
use Rattle.command_words.proofs.ShortWords.{AreShort, words_of-short}
use Rattle.command_words.proofs.line.parse_line.Goals as goal

pub returns-clause-limits : goal.returns-clause-limits
returns-clause-limits c =
    let words = map (λ word. word.now) c.deref.result.now in
    let line = c.args.line.now in
    let are : words ≡ words_of (trimmed line) = ap (λ l. map (λ word. word.now) l) c.deref.ensures.value ∙ c.in_ok-words.ensures ∙ ap words_of c.trimmed.ensures in
    let short : AreShort most_line words = All-same (λ word. length word ≤ most_line) words (words_of (trimmed line)) are (words_of-short most_line line (omega arith)) in
    words-keep _ words short c.command_of_words.ensures
