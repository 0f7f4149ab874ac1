use Rattle.std.proofs.Common.{[], ◌∷◌, ◌++◌, sym, ◌∙◌, ap, append_assoc}
use Rattle.hex_text.proofs.DumpRows.{hex_digits-next}
use Rattle.hex_text.proofs.Fronts.{front-more}
use Rattle.hex_text.proofs.rows.append_hex.Goals as goal

pub loop-done-preserved : goal.loop-done-preserved
loop-done-preserved c =
    let text = c.loop-done.text.items in
    let next = hex_digits-next c.args.digits c.loop-done.done c.args.value c.loop-done-test.true in
    record {
      digits = rw (c.in_ok-push.ensures.items, c.hex_digit.ensures, append_assoc) (ap (λ l. text ++ l) (sym next) ∙ c.loop-done.invariant.digits);
      front = front-more c.args.text.now.items text (c.hex_digit.result ∷ []) c.push.new.self.items c.loop-done.invariant.front c.in_ok-push.ensures.items;
    }
