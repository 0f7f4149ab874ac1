use Rattle.std.proofs.Common.{◌≡◌, rules, ap, sym, subst, ◌∙◌}
use Rattle.std.proofs.lemmas.Fn.{always_returns_same}
use Rattle.isf_reader.proofs.Search.{stands, hit, missed, name_rises, apart, same_entries}
use Rattle.isf_reader.specs.Depth.{entry_named}
use Rattle.isf_reader.specs.Table.{HasNamesInOrder}
use Rattle.isf_reader.proofs.lookup.entry_named.Goals as goal

pub returns-in-Ok : goal.returns-in-Ok
returns-in-Ok g c =
    let name = c.args.name.now in
    let entries = c.args.entries.now in
    let sorted = subst HasNamesInOrder (sym (same_entries entries)) c.requires in
    let equal = c.in-Ok.ensures.position (stands (λ e. e) name) (always_returns_same _ (λ a r. r ≡ stands (λ e. e) name a.0.now) _ (λ a r q k. search rules)) in
    let entry = c.index-entries-place.result in
    hit (λ e. e) name entries c.in-Ok.place entry sorted c.in-Ok.ensures.bound (equal entry) ∙ ap (entry_named name) (same_entries entries)

pub returns-in-Err : goal.returns-in-Err
returns-in-Err g c =
    let name = c.args.name.now in
    let entries = c.args.entries.now in
    let sorted = subst HasNamesInOrder (sym (same_entries entries)) c.requires in
    let parts = c.in-Err.ensures.position (stands (λ e. e) name) (always_returns_same _ (λ a r. r ≡ stands (λ e. e) name a.0.now) _ (λ a r q k. search rules)) (name_rises (λ e. e) name entries sorted) in
    sym (missed (λ e. e) name entries (apart (λ e. e) name entries c.in-Err.field-0 parts)) ∙ ap (entry_named name) (same_entries entries)
