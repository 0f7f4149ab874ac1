use Rattle.std.proofs.Common.{◌∙◌}
use Rattle.std.proofs.lemmas.Option.{IfSome_then}
use Rattle.layer_base.specs.View.{physical}
use Rattle.chunk_scanner.specs.State.{hits_left}
use Rattle.scan_text.proofs.Turns.{listing-all, listing-cut, listing-front, listing-refused}
use Rattle.scan_text.proofs.rows.write_hits.Goals as goal

pub returns-in_err-count-clause-writes : goal.returns-in_err-count-clause-writes
returns-in_err-count-clause-writes g c =
    IfSome_then c.args.memory.now.view c.in_err-count.ensures.rows (λ view cut.
    listing-cut c.args.listing (physical view) _ _ (hits_left (physical view) c.args.scanner.now) _ c.args.text.now.items c.in_err-count.field-0.0 c.from_residual.result cut c.from_residual.ensures.0)

pub returns-in_err-append_end-clause-writes : goal.returns-in_err-append_end-clause-writes
returns-in_err-append_end-clause-writes g c =
    IfSome_then c.args.memory.now.view c.in_ok-count.ensures.rows (λ view rows.
    listing-front c.args.listing (physical view) _ _ (hits_left (physical view) c.args.scanner.now) c.args.text.now.items c.write_rows.new.text.items c.from_residual-in_err-append_end.result rows.0 c.from_residual-in_err-append_end.ensures.0)

pub returns-in_err-write_whole-clause-writes : goal.returns-in_err-write_whole-clause-writes
returns-in_err-write_whole-clause-writes g c =
    IfSome_then c.args.memory.now.view c.in_ok-count.ensures.rows (λ view rows.
    listing-refused c.args.listing (physical view) _ _ _ (hits_left (physical view) c.args.scanner.now) c.args.text.now.items c.write_rows.new.text.items c.deref.result.now c.in_ok-count.count rows c.from_residual-in_err-write_whole.result (c.deref.ensures.value ∙ c.in_ok-append_end.ensures) c.from_residual-in_err-write_whole.ensures.0 c.in_err-write_whole.ensures.bytes)

pub returns-clause-writes : goal.returns-clause-writes
returns-clause-writes g c =
    IfSome_then c.args.memory.now.view c.in_ok-count.ensures.rows (λ view rows.
    listing-all c.args.listing (physical view) _ _ _ (hits_left (physical view) c.args.scanner.now) c.args.text.now.items c.write_rows.new.text.items c.deref.result.now c.in_ok-count.count rows (c.deref.ensures.value ∙ c.in_ok-append_end.ensures) c.in_ok-write_whole.ensures.bytes)
