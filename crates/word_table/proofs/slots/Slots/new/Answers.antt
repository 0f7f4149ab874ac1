use Rattle.word_table.specs.Kept.{kept_words}
use Rattle.word_table.proofs.Giving.{left-all}
use Rattle.word_table.proofs.slots.Slots.new.Goals as goal

pub returns-clause-words : goal.returns-clause-words
returns-clause-words c = λ memory. left-all memory c.args.table (kept_words c.new.result) c.new.ensures.none
