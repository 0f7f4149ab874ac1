-- What an image shows once the formats were tried on it.
use Rattle.std.specs.Prelude.{◌≡◌, ℕ, ◌≤◌, ◌⊎◌, List, [], ◌∷◌, ◌++◌, codes, Option, Some, IfSome, Result, Ok, Err}
use Rattle.std.specs.List.{Contains}
use Rattle.layer_base.specs.Attach.{reading_of}
use Rattle.layer_base.specs.View.{View, physical}
use Rattle.layer_base.specs.View.View.{Ranges}
use Rattle.layer_base.specs.declared.layer.Kind.{Kind}
use Rattle.layer_base.specs.declared.layer.Kind.TheVariants as kinds
use Rattle.layer_base.specs.declared.segment.Segment.{Segment}
use Rattle.layer_base.specs.declared.why.Rule.{Rule}
use Rattle.layer_base.specs.declared.why.Rule.TheVariants as rules
use Rattle.layer_base.specs.declared.why.Why.{Why}
use Rattle.layer_base.specs.declared.why.Why.TheVariants.{NotThis, Taken, Bad, Device, Memory}
use Rattle.hex_text.specs.DumpRow.{address_cell}
use Rattle.session.specs.Status.{IsAnswer}
use Rattle.session.specs.declared.stack.Refusal.{Refusal}
use Rattle.session.specs.declared.stack.StackFault.{StackFault}
use Rattle.session.specs.declared.stack.StackFault.TheVariants as faults
use Rattle.session.specs.declared.status.Status.{Status}

-- a view, and the kind of the reading that gave it
pub record Shown : Type 0 where
  pub kind : Kind
  pub view : View

abbrev pub as_file : View → Shown
as_file view = record { kind = kinds.File; view = view }

-- what a format's reading of a view comes to, before the other formats: another format's bytes are left to those
abbrev pub stack_on : Kind → View → Result (List Segment) Why → Result Shown Refusal → Result Shown Refusal
stack_on format view (Ok segments) others = Ok (record { kind = format; view = Ranges view segments })
stack_on format view (Err (Bad at rule)) others = Err (record { format = format; at = at; rule = rule })
stack_on format view (Err NotThis) others = others
stack_on format view (Err Taken) others = others
stack_on format view (Err Device) others = others
stack_on format view (Err Memory) others = others

-- The first format that the view is not of another than: its ranges over the view, or its refusal. Where there is no
-- such format, the view stays as it is.
abbrev pub stack_of : List Kind → View → Result Shown Refusal
stack_of [] view = Ok (as_file view)
stack_of (format ∷ formats) view = stack_on format view (reading_of format (physical view)) (stack_of formats view)

-- a refused image is shown as it is
abbrev pub shown_by : View → Result Shown Refusal → Shown
shown_by view (Ok shown) = shown
shown_by view (Err refusal) = as_file view

abbrev pub attached : List Kind → View → Shown
attached formats view = shown_by view (stack_of formats view)

abbrev pub attached_view : List Kind → View → View
attached_view formats view = (attached formats view).view

-- a layer tells this view, under this kind
abbrev pub Shows : Shown → Option View → Kind → Type 0
Shows shown view kind = (view ≡ Some shown.view) × (kind ≡ shown.kind)

-- The layer shows the same under the same kind. Or one of the formats was attached, and the layer shows what the
-- formats give.
abbrev pub KeepsOrAttaches : List Kind → Option View → Kind → Option View → Kind → Type 0
KeepsOrAttaches formats view kind view' kind' =
    ((view' ≡ view) × (kind' ≡ kind)) ⊎ (Contains formats kind' × IfSome view (λ before. Shows (attached formats before) view' kind'))

-- What a run leaves of its image: it shows what it showed or what the formats give, under an answer just what is wanted,
-- and its calls didn't get fewer.
pub record LeavesLayer {Y : Type 0} (view : Y → Option View) (kind : Y → Kind) (calls : Y → ℕ) (formats : List Kind) (wanted : View → Shown) (old new : Y) (end : Status) : Type 0 where
  pub shown : KeepsOrAttaches formats (view old) (kind old) (view new) (kind new)
  pub exact : IfSome (view old) (λ before. IsAnswer end → Shows (wanted before) (view new) (kind new))
  pub no_less_calls : calls old ≤ calls new

-- The tries came to what the formats give. A fault and running out of memory say nothing of it.
abbrev pub TriesAs : Result Shown Refusal → Option View → Kind → Result (Unit {0}) StackFault → Type 0
TriesAs stack view kind (Ok done) = (shown : Shown) × (stack ≡ Ok shown) × Shows shown view kind
TriesAs stack view kind (Err (faults.Refused refusal)) = stack ≡ Err refusal
TriesAs stack view kind (Err faults.Device) = Unit {0}
TriesAs stack view kind (Err faults.Memory) = Unit {0}

abbrev pub format_word : Kind → List ℕ
format_word kinds.File = codes "file"
format_word kinds.Lime = codes "lime"

abbrev pub rule_word : Rule → List ℕ
rule_word rules.Many = codes "many"
rule_word rules.Cut = codes "cut"
rule_word rules.Magic = codes "magic"
rule_word rules.Version = codes "version"
rule_word rules.Order = codes "order"

-- the line that says it: the format, the place of the header, and the rule that it breaks
unfoldable pub refusal_text : Refusal → List ℕ
refusal_text refusal = codes "image refused: " ++ format_word refusal.format ++ codes " " ++ address_cell refusal.at ++ codes " " ++ rule_word refusal.rule ++ codes "\n"
