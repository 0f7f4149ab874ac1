use Rattle.std.proofs.Common.{◌≡◌, ◌-◌, ◌≤◌, [], rules, arith}
use Rattle.std.proofs.lemmas.Option.{IfSome_then}
use Rattle.layer_base.specs.View.{physical}
use Rattle.space_memory.specs.InSpace.{in_space}
use Rattle.word_table.specs.Kept.{kept_words}
use Rattle.word_table.specs.Table.{listed}
use Rattle.word_table.proofs.Giving.{left-refilled}
use Rattle.word_table.proofs.slots.fill.Goals as goal

pub returns-clause-words : goal.returns-clause-words
returns-clause-words g c =
    let none : kept_words c.args.kept.now ≡ [] = c.is_empty.ensures.yes (search rules) in
    let fits : c.min-most.result ≤ listed c.args.table - c.args.index = omega arith in
    IfSome_then c.args.memory.now.view c.refill.ensures.words (λ view read.
    left-refilled (in_space (physical view) c.args.space) c.args.table c.refill.result c.args.index c.min-most.result (kept_words c.args.kept.now) (kept_words c.refill.new.self) none fits c.refill.ensures.most read)
