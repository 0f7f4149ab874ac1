use Rattle.std.proofs.Common.{◌≡◌, Some, None, cond, ap, sym, ◌∙◌, rules, false}
use Rattle.std.specs.BTreeMap.{get}
use Rattle.std.specs.Option.{option_or}
use Rattle.std.proofs.lemmas.Bool.{not-true}
use Rattle.tree_order.specs.Parents.{is_whole, key_cmp, sign_and_size}
use Rattle.tree_order.proofs.Keys.{none_from, noted}
use Rattle.tree_order.proofs.parents.note_row.Goals as goal

pub returns-in_ok-insert : goal.returns-in_ok-insert
returns-in_ok-insert c = λ number.
    let key = c.sign_and_size-pid.result in
    let lacks : c.contains_key.result ≡ false = search (rules, not-true) in
    c.in_ok-insert.ensures.updates.0 (sign_and_size number)
    ∙ noted (get key_cmp c.args.rows.now) number c.in-Some.pid key c.args.row c.sign_and_size-pid.ensures (none_from (get key_cmp c.args.rows.now key) (sym c.contains_key.ensures ∙ lacks))
    ∙ ap (λ o. option_or (get key_cmp c.args.rows.now (sign_and_size number)) (cond (is_whole number o) (Some c.args.row) None)) (sym c.in-Some.is)
