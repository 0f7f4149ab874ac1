use Rattle.std.proofs.Common.{◌≡◌, rules, ap, sym, is_some}
use Rattle.std.proofs.lemmas.Fn.{always_returns_same}
use Rattle.isf_reader.proofs.Search.{stands, there, missed, name_rises, apart}
use Rattle.isf_reader.proofs.depth.has.Goals as goal

pub returns-in-Ok : goal.returns-in-Ok
returns-in-Ok c =
    let name = c.args.name.now in
    let types = c.args.types.now in
    let equal = c.in-Ok.ensures.position (stands (λ entry. entry.now) name) (always_returns_same _ (λ a r. r ≡ stands (λ entry. entry.now) name a.0.now) _ (λ a r q k. search rules)) in
    there (λ entry. entry.now) name types c.in-Ok.field-0 c.requires c.in-Ok.ensures.bound equal

pub returns-in-Err : goal.returns-in-Err
returns-in-Err c =
    let name = c.args.name.now in
    let types = c.args.types.now in
    let parts = c.in-Err.ensures.position (stands (λ entry. entry.now) name) (always_returns_same _ (λ a r. r ≡ stands (λ entry. entry.now) name a.0.now) _ (λ a r q k. search rules)) (name_rises (λ entry. entry.now) name types c.requires) in
    sym (ap is_some (missed (λ entry. entry.now) name types (apart (λ entry. entry.now) name types c.in-Err.field-0 parts)))
