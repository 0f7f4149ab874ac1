use Rattle.std.proofs.lemmas.Option.{IfSome_then}
use Rattle.layer_base.specs.View.{physical}
use Rattle.space_memory.specs.InSpace.{in_space}
use Rattle.word_table.specs.Kept.{kept_words}
use Rattle.word_table.proofs.Giving.{gives-none, gives-first}
use Rattle.word_table.proofs.slots.Slots.next_word.Goals as goal

pub returns-in_default-clause-words : goal.returns-in_default-clause-words
returns-in_default-clause-words g c =
    IfSome_then c.args.memory.now.view c.in_ok-fill.ensures.words (λ view filled. rw (← c.self.view_is)
    (gives-none (in_space (physical view) c.self.inside.space) c.self.inside.table c.self.inside.index (kept_words c.self.inside.kept) (kept_words c.fill.new.kept) (kept_words c.take_first.new.self) filled c.in_default.ensures.first.0 c.in_default.ensures.first.1 (c.in_ok-fill.ensures.more c.in_default.ensures.first.0)))

pub returns-clause-words : goal.returns-clause-words
returns-clause-words g c =
    IfSome_then c.args.memory.now.view c.in_ok-fill.ensures.words (λ view filled. rw (← c.self.view_is)
    (gives-first (in_space (physical view) c.self.inside.space) c.self.inside.table c.self.inside.index c.in-Some.word (kept_words c.self.inside.kept) (kept_words c.fill.new.kept) (kept_words c.take_first.new.self) filled c.in-Some.ensures.first))
