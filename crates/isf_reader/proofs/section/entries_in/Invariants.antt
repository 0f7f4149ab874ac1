use Rattle.std.proofs.Common.{◌≡◌, ◌++◌, [], map, string_bytes}
use Rattle.std.specs.List.Sorted.{IsStrictlySortedBy}
use Rattle.std.specs.Map.{keys_of}
use Rattle.serde_json.specs.View.{members_view}
use Rattle.isf_reader.proofs.Named.{byte_order}
use Rattle.isf_reader.specs.Sections.{entries_onto}
use Rattle.isf_reader.proofs.section.entries_in.Given as goal

abbrev pub invariant-loop-name : goal.invariant-loop-name
invariant-loop-name g l = record {
  same : entries_onto g.E.SectionEntry.reads l.found.items (members_view l.name-iterator) ≡ entries_onto g.E.SectionEntry.reads [] (members_view l.fn.members.entries);
  order : IsStrictlySortedBy byte_order (keys_of l.found.items ++ map (λ m. string_bytes m.0) l.name-iterator);
}
