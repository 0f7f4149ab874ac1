use Rattle.std.specs.Prelude.{codes}
use Rattle.hex_text.proofs.Fronts.{OnErr-behind}
use Rattle.hex_text.proofs.rows.append_address.Goals as goal

pub returns-clause-err : goal.returns-clause-err
returns-clause-err c =
    OnErr-behind c.append_hex.result c.args.text.now.items (codes "0x") c.extend_from_slice.new.self.items c.append_hex.new.text.items c.in_ok-extend_from_slice.ensures.items c.append_hex.ensures.err
