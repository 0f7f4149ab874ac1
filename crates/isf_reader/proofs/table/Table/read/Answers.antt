use Rattle.std.proofs.Common.{◌∙◌, sym}
use Rattle.serde_json.specs.View.{view}
use Rattle.isf_reader.proofs.Kept.{kept, users_kept}
use Rattle.isf_reader.specs.Lists.{table_view}
use Rattle.isf_reader.proofs.table.Table.read.Goals as goal

pub first_too_deep-requires : goal.first_too_deep-requires
first_too_deep-requires c = rw c.deref.ensures.value (users_kept (view c.in_ok-root.root) (table_view c.in_ok-lists.lists) c.in_ok-lists.ensures.ok)

pub invariant_of-result : goal.invariant_of-result
invariant_of-result c = kept (view c.in_ok-root.root) (table_view c.in_ok-lists.lists) c.in_ok-lists.ensures.ok (rw c.deref.ensures.value at (sym c.in_ok-name.ensures ∙ c.in_default.is))

pub returns-clause-kept : goal.returns-clause-kept
returns-clause-kept c = kept (view c.in_ok-root.root) (table_view c.in_ok-lists.lists) c.in_ok-lists.ensures.ok (rw c.deref.ensures.value at (sym c.in_ok-name.ensures ∙ c.in_default.is))
