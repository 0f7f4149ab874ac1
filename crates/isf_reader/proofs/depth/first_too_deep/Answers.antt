use Rattle.std.proofs.Common.{Some, None, ap, ◌∙◌}
use Rattle.isf_reader.proofs.Nesting.{first_name}
use Rattle.isf_reader.proofs.depth.first_too_deep.Goals as goal

pub returns-in-Some : goal.returns-in-Some
returns-in-Some c =
    let first = rw c.deref.ensures.value at c.in-Some.ensures.value in
    ap Some (c.in_ok-of-in-Some.ensures ∙ c.items.ensures) ∙ first_name (λ entry. entry.now) c.args.users.now c.in_ok-types.types.items (Some c.in-Some.entry.now) first c.in_ok-types.ensures

pub returns : goal.returns
returns c =
    let first = rw c.deref.ensures.value at c.in-None.ensures.value in
    first_name (λ entry. entry.now) c.args.users.now c.in_ok-types.types.items None first c.in_ok-types.ensures
