-- A run over a view that the formats gave.
use Rattle.std.proofs.Common.{◌≡◌, ℕ, Bool, List, Option, None, Some, Result, Ok, sym, subst}
use Rattle.std.specs.Prelude.{IfSome}
use Rattle.layer_base.specs.View.{View, physical}
use Rattle.layer_base.specs.declared.layer.Kind.{Kind}
use Rattle.session.specs.Evidence.{evidence_over}
use Rattle.session.specs.Headline.{WhereTold}
use Rattle.session.specs.Line.{line_said}
use Rattle.session.specs.Outcome.{Outcome}
use Rattle.session.specs.Ran.{RanOver}
use Rattle.session.specs.Run.{memory_run, stack_run, evidence_of}
use Rattle.session.specs.Stack.{Shown, TriesAs, shown_by, stack_of}
use Rattle.session.specs.declared.stack.Refusal.{Refusal}
use Rattle.session.specs.declared.status.Status.{Status}

module _ (has_dump : Bool) (formats : List Kind) (kind : Kind) (symbols script left out out' dump dump' : Option (List ℕ)) (end : Status) where
  -- the run over a view
  abbrev RanIn : View → Outcome → List ℕ → List ℕ → Type 0
  RanIn view outcome j s = RanOver (line_said has_dump (evidence_over (physical view) j)) outcome s left out out' dump dump' end

  -- it is the run over what the formats give
  pub ran-attached : (view view' : Option View)
      → IfSome view (λ before. TriesAs (stack_of formats before) view' kind (Ok tt))
      → WhereTold view' symbols script (λ view j s. RanOver (line_said has_dump (evidence_over (physical view) j)) (memory_run has_dump (physical view) j s) s left out out' dump dump' end)
      → WhereTold view symbols script (λ before j s. RanOver (line_said has_dump (evidence_of formats before j)) (stack_run has_dump (stack_of formats before) j s) s left out out' dump dump' end)
  ran-attached None view' tries ran = tt
  ran-attached (Some before) view' tries ran =
      by_stack (stack_of formats before) tries.0 tries.1 (subst (λ view. WhereTold view symbols script (λ view j s. RanIn view (memory_run has_dump (physical view) j s) j s)) tries.2.0 ran)
    where
      by_stack : (stack : Result Shown Refusal) (shown : Shown) → stack ≡ Ok shown
          → WhereTold (Some shown.view) symbols script (λ view j s. RanIn view (memory_run has_dump (physical view) j s) j s)
          → WhereTold (Some before) symbols script (λ before' j s. RanIn (shown_by before stack).view (stack_run has_dump stack j s) j s)
      by_stack stack shown is ran = subst (λ stack. WhereTold (Some before) symbols script (λ before' j s. RanIn (shown_by before stack).view (stack_run has_dump stack j s) j s)) (sym is) ran
