use Rattle.run_cache.specs.contracts.key.RunKeyPartialEq.TheImpl.{eq-value}
use Rattle.run_cache.proofs.Keys.{same_key}
use Rattle.run_cache.proofs.Lists.{not_found}
use Rattle.std.proofs.Common.{◌≡◌, None, refl}
use Rattle.std.specs.Map.{lookup_entry}
use Rattle.run_cache.proofs.list.put_in_front.Goals as goal

pub returns-clause-ok : goal.returns-clause-ok
returns-clause-ok c =
    let key = c.args.key in
    let none : lookup_entry (eq-value.it key) c.args.list.now.entries ≡ None = not_found (eq-value.it key) key (same_key key) c.args.list.now.entries c.requires in
    rw c.in_ok-put.ensures.entries (rw none refl)
