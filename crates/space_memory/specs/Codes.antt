-- How the state of a memory is stored as numbers and lists.
use Rattle.std.specs.Prelude.{◌≡◌, ℕ, Bool, true, false, List, [], ◌∷◌, Option, refl}
use Rattle.std.proofs.Common.{ap}
use Rattle.std.specs.Coded.{Coded, code_by, coded×, coded_ℕ, coded_bool, coded_list, coded_option}
use Rattle.layer_base.specs.Codes.{kept_code}
use Rattle.layer_base.specs.Mapped.{KeptRun}
use Rattle.layer_base.specs.View.{View}
use Rattle.layer_base.specs.View.View.{File, Ranges}
use Rattle.layer_base.specs.declared.layer.Kind.{Kind}
use Rattle.layer_base.specs.declared.layer.Kind.TheVariants as kinds
use Rattle.layer_base.specs.declared.segment.Segment.{Segment}
use Rattle.space_memory.specs.State.{MemoryState}

abbrev segment_code : Coded Segment
segment_code =
    code_by (ℕ × (ℕ × ℕ)) (coded× coded_ℕ (coded× coded_ℕ coded_ℕ)) (λ s. (s.first, (s.place, s.length))) (λ p. record { first = p.0; place = p.1.0; length = p.1.1 }) (λ _. refl)

-- the bytes of the file below, and the segments that were put over it, the last in front
abbrev parts_of : View → List ℕ × List (List Segment)
parts_of (File bytes) = (bytes, [])
parts_of (Ranges below segments) = ((parts_of below).0, segments ∷ (parts_of below).1)

abbrev view_over : List ℕ → List (List Segment) → View
view_over bytes [] = File bytes
view_over bytes (segments ∷ rest) = Ranges (view_over bytes rest) segments

pub view_again : (view : View) → view_over (parts_of view).0 (parts_of view).1 ≡ view
view_again (File bytes) = refl
view_again (Ranges below segments) = ap (λ v. Ranges v segments) (view_again below)

abbrev view_code : Coded View
view_code =
    code_by (List ℕ × List (List Segment)) (coded× (coded_list coded_ℕ) (coded_list (coded_list segment_code))) parts_of (λ p. view_over p.0 p.1) view_again

abbrev is_file : Kind → Bool
is_file kinds.File = true
is_file kinds.Lime = false

abbrev kind_from : Bool → Kind
kind_from true = kinds.File
kind_from false = kinds.Lime

pub kind_again : (kind : Kind) → kind_from (is_file kind) ≡ kind
kind_again kinds.File = refl
kind_again kinds.Lime = refl

abbrev kind_code : Coded Kind
kind_code = code_by Bool coded_bool is_file kind_from kind_again

abbrev Counted : Type 0
Counted = ℕ × (ℕ × ℕ)

abbrev Kept : Type 0
Kept = List KeptRun × Option KeptRun

abbrev pub state_code : Coded MemoryState
state_code =
    code_by ((Option View × Kind) × (Counted × Kept)) (coded× (coded× (coded_option view_code) kind_code) (coded× (coded× coded_ℕ (coded× coded_ℕ coded_ℕ)) (coded× (coded_list kept_code) (coded_option kept_code))))
    (λ m. ((m.view, m.kind), ((m.faults, (m.calls, m.capacity)), (m.kept, m.last))))
    (λ p. record { view = p.0.0; kind = p.0.1; faults = p.1.0.0; calls = p.1.0.1.0; capacity = p.1.0.1.1; kept = p.1.1.0; last = p.1.1.1 })
    (λ _. refl)
