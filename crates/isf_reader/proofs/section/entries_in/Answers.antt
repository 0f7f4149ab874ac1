use Rattle.std.proofs.Common.{rules, ◌≡◌, ◌∷◌, Ok, string_bytes, refl}
use Rattle.serde_json.specs.View.{view}
use Rattle.isf_reader.specs.Entry.{entry_of}
use Rattle.isf_reader.proofs.Named.{names_in_order, names_of, insert_last, names_pushed}
use Rattle.isf_reader.proofs.section.entries_in.Goals as goal

pub loop-name-init : goal.loop-name-init
loop-name-init g c =
    let all : c.into_iter-name-iterator.result ≡ c.args.members.entries = search rules in
    rw (c.in_ok-found.ensures.items, all) (record { same = refl; order = names_in_order c.args.members.entries c.len.ensures.ordered })

pub loop-name-preserved : goal.loop-name-preserved
loop-name-preserved g c =
    let step : c.loop-name.name-iterator ≡ (c.in-Some.name, c.in-Some.member) ∷ c.next.new.self = search rules in
    let found = c.loop-name.found.items in
    let name = string_bytes c.in-Some.name in
    let read : entry_of g.E.SectionEntry.reads name (view c.in-Some.member) ≡ Ok c.in-Ok.entry = search rules in
    let spelled : c.from-name.result ≡ name = search rules in
    let order = rw step at c.loop-name.invariant.order in
    let last = insert_last found name c.in-Ok.entry (names_of c.next.new.self) order in
    let same = rw (last) at (rw read at (rw step at c.loop-name.invariant.same)) in
    rw (c.in_ok-push-in-Ok.ensures.items, spelled) (record { same = same; order = rw (names_pushed found name c.in-Ok.entry (names_of c.next.new.self)) order })
