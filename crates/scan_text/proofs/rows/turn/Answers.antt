use Rattle.std.proofs.lemmas.Option.{IfSome_then}
use Rattle.layer_base.specs.View.{physical}
use Rattle.scan_text.proofs.Turns.{turn-passed, turn-refused}
use Rattle.scan_text.proofs.rows.turn.Goals as goal

pub returns-in_err-write_piece-in-Ok-clause-rows : goal.returns-in_err-write_piece-in-Ok-clause-rows
returns-in_err-write_piece-in-Ok-clause-rows g c =
    IfSome_then c.args.memory.now.view c.in-Ok.ensures.rows (λ view added.
    turn-refused c.args.listing (physical view) _ _ _ _ c.args.text.now.items c.append_next.new.text.items c.write_piece.new.text.items c.in-Ok.found c.in_err-write_piece-in-Ok.field-0.0 c.from_residual.result added c.in_err-write_piece-in-Ok.ensures.written c.from_residual.ensures.1)

pub returns-in_ok-write_piece-in-Ok-clause-rows : goal.returns-in_ok-write_piece-in-Ok-clause-rows
returns-in_ok-write_piece-in-Ok-clause-rows g c =
    IfSome_then c.args.memory.now.view c.in-Ok.ensures.rows (λ view added.
    turn-passed c.args.listing (physical view) _ _ _ _ c.args.text.now.items c.append_next.new.text.items c.write_piece.new.text.items c.in-Ok.found added c.in_ok-write_piece-in-Ok.ensures.written)
