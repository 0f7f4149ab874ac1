use Rattle.std.specs.Prelude.{IfSome}
use Rattle.std.proofs.lemmas.Option.{IfSome_then}
use Rattle.layer_base.specs.View.{physical}
use Rattle.space_memory.specs.Hole.{IsGot}
use Rattle.space_memory.specs.InSpace.{in_space}
use Rattle.space_memory.specs.declared.memory.Got.TheVariants.{All, Hole}
use Rattle.space_memory.proofs.Words.{word-all, word-hole}
use Rattle.space_memory.proofs.memory.Memory.word.Goals as goal

pub returns-in-All-clause-word : goal.returns-in-All-clause-word
returns-in-All-clause-word g c =
    let read : IfSome c.args.self.now.view (λ view. IsGot (in_space (physical view) c.args.space) c.args.at c.read.new.buf All) = rw c.in-All.is at c.in_ok-read.ensures.got in
    IfSome_then c.args.self.now.view read (λ view got. word-all (in_space (physical view) c.args.space) c.args.at c.read.new.buf c.read.auto.buf got c.read_u64.result c.read_u64.ensures)

pub returns-in-Hole-clause-word : goal.returns-in-Hole-clause-word
returns-in-Hole-clause-word g c =
    let read : IfSome c.args.self.now.view (λ view. IsGot (in_space (physical view) c.args.space) c.args.at c.read.new.buf (Hole c.in-Hole.at)) = rw c.in-Hole.is at c.in_ok-read.ensures.got in
    IfSome_then c.args.self.now.view read (λ view got. word-hole (in_space (physical view) c.args.space) c.args.at c.read.new.buf c.read.auto.buf c.in-Hole.at got)
