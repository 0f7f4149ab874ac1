use Rattle.std.proofs.Common.{◌+◌, refl, sym, ap, ◌∙◌, take, arith}
use Rattle.std.proofs.lemmas.List.{with_items_is}
use Rattle.std.proofs.lemmas.Option.{IfSome_then}
use Rattle.layer_base.specs.View.{physical}
use Rattle.space_memory.specs.InSpace.{in_space}
use Rattle.chunk_scanner.specs.Window.{kept_bytes}
use Rattle.chunk_scanner.proofs.Windows.{joined-window}
use Rattle.chunk_scanner.proofs.window.Window.read_on.Goals as goal

pub returns-clause-kept : goal.returns-clause-kept
returns-clause-kept g c =
    let moved = c.to_front-kept in
    let filled = c.in_ok-filled.filled in
    let buf = c.fill_behind.new.buf in
    IfSome_then c.args.memory.now.view c.in_ok-filled.ensures.filled (λ view read before.
    joined-window (in_space (physical view) c.args.space) c.args.at moved.result filled.count moved.new.self.start (moved.result + filled.count) _ buf (kept_bytes c.args.self.now)
    (with_items_is moved.new.self.buf buf (omega (arith, c.fill_behind.auto.buf, c.deref_mut.ensures.len)))
    moved.ensures.start refl
    (c.in_ok-filled.ensures.front ∙ ap (take moved.result) c.deref_mut.ensures.value ∙ moved.ensures.kept)
    (sym moved.ensures.count) (omega (arith, c.in_ok-filled.ensures.count, c.fill_behind.auto.buf)) before read.bytes)
