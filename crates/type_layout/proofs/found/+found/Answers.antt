use Rattle.std.proofs.Common.{◌≡◌, ◌≢◌, ◌⊎◌, inl, inr, is_some, true, false, ◌∙◌, rules}
use Rattle.type_layout.proofs.Search.{ends_here, goes_on}
use Rattle.type_layout.proofs.found.+found.Goals as goal
use Rattle.type_layout.proofs.found.+found.Goals.{found_in-then-is_some-via-then-is_some, found_in-then-is_some-via-else-is_some+then-depth-eq0}

pub found_in-returns-then-is_some-clause-value : goal.found_in-returns-then-is_some-clause-value
found_in-returns-then-is_some-clause-value t c =
    let ends : (is_some c.own_field-own.result ≡ true) ⊎ (c.args.depth ≡ 0) =
    elim c.then-is_some.branch [
      | found_in-then-is_some-via-then-is_some w ↦ inl (search rules)
      | found_in-then-is_some-via-else-is_some+then-depth-eq0 w ↦ inr (search rules)
    ] in
    ends_here c.args.table.now.users c.args.name.now c.args.user.now c.args.depth c.own_field-own.result (search rules) ends

pub found_in-returns-clause-value : goal.found_in-returns-clause-value
found_in-returns-clause-value t c =
    let none : is_some c.own_field-own.result ≡ false = search rules in
    let apart : c.args.depth ≢ 0 = search rules in
    let on = goes_on c.args.table.now.users c.args.name.now c.args.user.now c.args.depth c.own_field-own.result (search rules) none apart in
    c.first_through.ensures.value ∙ (rw c.items-2.ensures on)
