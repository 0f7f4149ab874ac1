use Rattle.std.proofs.Common.{◌≡◌, ◌∷◌, Some, rules}
use Rattle.word_table.specs.Kept.{kept_words}
use Rattle.word_table.proofs.Giving.{left-given}
use Rattle.word_table.proofs.slots.Slots.next_same.Goals as goal

pub returns-clause-words : goal.returns-clause-words
returns-clause-words c =
    let first : kept_words c.self.inside.kept ≡ Some c.args.word ∷ kept_words c.take_same.new.self = c.take_same.ensures.yes (search rules) in
    λ memory. rw (← c.self.view_is) (left-given memory c.self.inside.table c.self.inside.index (Some c.args.word) (kept_words c.self.inside.kept) (kept_words c.take_same.new.self) first)
