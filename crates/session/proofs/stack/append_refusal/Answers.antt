use Rattle.std.proofs.Common.{List, ℕ, ◌++◌, append_assoc, sym, ap}
use Rattle.std.specs.Prelude.{codes}
use Rattle.hex_text.specs.DumpRow.{address_cell}
use Rattle.session.specs.Stack.{format_word, rule_word, refusal_text}
use Rattle.session.proofs.stack.append_refusal.Goals as goal

pub returns : goal.returns
unfolding refusal_text
returns c =
    let refusal = c.args.refusal in
    let rest = address_cell refusal.at ++ (codes " " ++ (rule_word refusal.rule ++ codes "\n")) in
    simp (c.in_ok-push-3.ensures.items, c.in_ok-extend_from_slice-3.ensures.items, c.rule_word.ensures, c.in_ok-push-2.ensures.items, c.in_ok-append_address.ensures.ok, c.in_ok-push.ensures.items, c.in_ok-extend_from_slice-2.ensures.items, c.format_word.ensures, c.in_ok-extend_from_slice.ensures.items, append_assoc)
    (ap (λ (l : List ℕ). c.args.text.now.items ++ (codes "image refused: " ++ l)) (sym (append_assoc (format_word refusal.format) (codes " ") rest)))
