-- A path of names.
use Rattle.std.specs.Prelude.{ℕ, ◌+◌, List, [], ◌∷◌, Result, Ok, Err}
use Rattle.isf_reader.specs.Table.{IsfTable}
use Rattle.isf_reader.specs.declared.type_ref.TypeRef.{TypeRef}
use Rattle.type_layout.specs.Member.{Spot, further, member}
use Rattle.type_layout.specs.declared.fault.TypeFault.{TypeFault}
use Rattle.type_layout.specs.declared.path.PathRefusal.{PathRefusal}

-- where a member leads, and then where the names behind it lead; its fault is told with the index of its name
abbrev pub and_on : ℕ → Result Spot TypeFault → (Spot → Result Spot PathRefusal) → Result Spot PathRefusal
and_on index (Ok s) behind = behind s
and_on index (Err fault) behind = Err (record { index = index; fault = fault })

-- where names lead from a spot, the first of them with this index: each to the member of the type that stands there, the
-- offsets added
abbrev pub resolve_from : IsfTable → ℕ → Spot → List (List ℕ) → Result Spot PathRefusal
resolve_from table index s [] = Ok s
resolve_from table index s (name ∷ path) = and_on index (member table s.1 name) (λ within. resolve_from table (index + 1) (further s.0 within) path)

-- where a path leads in a type, or its first name at fault
abbrev pub resolve : IsfTable → TypeRef → List (List ℕ) → Result Spot PathRefusal
resolve table of path = resolve_from table 0 (0, of) path
