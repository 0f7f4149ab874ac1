use Rattle.std.proofs.Common.{arith}
use Rattle.chunk_scanner.proofs.Windows.{passed-kept}
use Rattle.chunk_scanner.proofs.window.Window.pass.Goals as goal

pub returns-clause-kept : goal.returns-clause-kept
returns-clause-kept c =
    let window = c.args.self.now in
    passed-kept window.buf.items window.start window.end c.args.count c.min.result c.requires.order (omega arith) (omega arith) (λ fewer. omega arith)
