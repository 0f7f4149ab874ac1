use Rattle.std.proofs.lemmas.Option.{IfSome_then}
use Rattle.layer_base.specs.View.{physical}
use Rattle.chunk_scanner.specs.Scan.{hits_behind}
use Rattle.chunk_scanner.proofs.Telling.{hits_behind-done}
use Rattle.chunk_scanner.proofs.scan.next.Goals as goal

pub returns-clause-hits : goal.returns-clause-hits
returns-clause-hits g c =
    let wanted = c.args.wanted.now in
    IfSome_then c.args.memory.now.view c.loop-position.invariant.hits (λ view same.
    hits_behind-done (physical view) wanted c.loop-position.position (hits_behind (physical view) wanted c.args.position.now) c.loop-position-test.false same)
