use Rattle.std.proofs.Common.{None, Some, sym, ◌∙◌}
use Rattle.std.proofs.lemmas.Option.{IfSome_then}
use Rattle.layer_base.proofs.Told.{IfSome-always}
use Rattle.layer_base.specs.View.{physical}
use Rattle.space_memory.specs.InSpace.{in_space}
use Rattle.list_walk.proofs.Words.{word-outside, word-there}
use Rattle.list_walk.proofs.follow.word_behind.Goals as goal

pub returns-in_default-clause-word : goal.returns-in_default-clause-word
returns-in_default-clause-word g c =
    IfSome-always c.args.memory.now.view (λ view. word-outside (in_space (physical view) c.args.space) c.args.at c.args.offset c.in_default.ensures.none)

pub returns-in-Some-2-clause-word : goal.returns-in-Some-2-clause-word
returns-in-Some-2-clause-word g c =
    let place = c.in-Some.ensures.some in
    IfSome_then c.args.memory.now.view c.in_ok-word.ensures.word (λ view read.
    word-there (in_space (physical view) c.args.space) c.args.at c.args.offset c.in-Some.place (Some c.in-Some-2.word) place.1 place.0 (sym c.in-Some-2.is ∙ read))

pub returns-in-None-clause-word : goal.returns-in-None-clause-word
returns-in-None-clause-word g c =
    let place = c.in-Some.ensures.some in
    IfSome_then c.args.memory.now.view c.in_ok-word.ensures.word (λ view read.
    word-there (in_space (physical view) c.args.space) c.args.at c.args.offset c.in-Some.place None place.1 place.0 (sym c.in-None.is ∙ read))
