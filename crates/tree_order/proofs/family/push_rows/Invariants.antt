use Rattle.std.proofs.Common.{◌≡◌, ℕ, suc, List, ◌++◌, map, unwrap_or}
use Rattle.std.specs.Prelude.{option_map}
use Rattle.tree_order.specs.Family.{Leads}
use Rattle.tree_order.specs.declared.branch.Branch.{Branch}
use Rattle.tree_order.proofs.family.push_rows.Given as goal

-- the rows that are left are led to, and with what is pending they are all rows
abbrev pub invariant-loop-next : goal.invariant-loop-next
invariant-loop-next l = (rows : List ℕ) → Leads l.before l.fn.last rows → (left : List ℕ) × Leads l.before l.next left × (l.pending.items ++ map {B = Branch} (λ row. record { row = row; depth = l.depth }) left ≡ l.initial.pending.items ++ map {B = Branch} (λ row. record { row = row; depth = l.depth }) rows)

abbrev pub decreases-loop-next : goal.decreases-loop-next
decreases-loop-next l = unwrap_or (option_map suc l.next) 0
