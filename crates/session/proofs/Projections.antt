-- What a run that ran so far left, part by part.
use Rattle.std.proofs.Common.{◌≡◌, ◌⊎◌, inl, inr, ℕ, List, Option, Some, refl, subst}
use Rattle.std.specs.Io.KnownBytes.{Appends, Consumes}
use Rattle.layer_base.specs.Known.{AppendsPrefix}
use Rattle.session.specs.Headline.{GavePrefix, HasWholeLines}
use Rattle.session.specs.Outcome.{Outcome}
use Rattle.session.specs.Ran.{RanPart, RanOver}
use Rattle.session.specs.Said.{Said}
use Rattle.session.specs.Status.{IsAnswer}
use Rattle.session.specs.declared.status.Status.{Status}
use Rattle.session.specs.declared.status.Status.TheVariants as status

-- one sink
module _ (part : List ℕ → List ℕ) (whole given : List ℕ) (old new : Option (List ℕ)) (end : Status) (ran : RanPart part whole given old new end) where
  pub part-prefix : AppendsPrefix old new whole
  part-prefix = (ran.appended, ran.written, ran.front)

  pub part-lines : (script left : Option (List ℕ)) → Consumes script left given → HasWholeLines part script left old new end
  part-lines script left consumed = record { given = given; appended = ran.appended; consumed = consumed; written = ran.written; lines = ran.lines; lines_at_fault = ran.lines_at_fault }

  pub part-exact : IsAnswer end → Appends old new whole
  part-exact answer = subst (Appends old new) (ran.exact answer) ran.written

-- the script
module _ (says : List ℕ → Said) (outcome : Outcome) (script : List ℕ) (left out out' dump dump' : Option (List ℕ)) (end : Status) (ran : RanOver says outcome script left out out' dump dump' end) where
  pub ran-given : GavePrefix (Some script) left outcome.script_taken
  ran-given = (ran.given, ran.consumed, ran.given_front)

  pub ran-exact_script : IsAnswer end → Consumes (Some script) left outcome.script_taken
  ran-exact_script answer = subst (Consumes (Some script) left) (ran.given_exact answer) ran.consumed

-- where nothing failed it ended as it should, or memory ran out
pub ended : (end should : Status) → (IsAnswer end → end ≡ should) → (end ≡ status.ImageFault → ⊥) → (end ≡ status.SymbolsFault → ⊥) → (end ≡ status.ScriptFault → ⊥) → (end ≡ status.OutFault → ⊥) → (end ≡ status.DumpFault → ⊥) → (end ≡ should) ⊎ (end ≡ status.Memory)
ended status.Ok should exact image symbols script out dump = inl (exact tt)
ended status.Usage should exact image symbols script out dump = inl (exact tt)
ended status.ImageRefused should exact image symbols script out dump = inl (exact tt)
ended status.SymbolsRefused should exact image symbols script out dump = inl (exact tt)
ended status.ImageFault should exact image symbols script out dump = absurd (image refl)
ended status.SymbolsFault should exact image symbols script out dump = absurd (symbols refl)
ended status.ScriptFault should exact image symbols script out dump = absurd (script refl)
ended status.OutFault should exact image symbols script out dump = absurd (out refl)
ended status.DumpFault should exact image symbols script out dump = absurd (dump refl)
ended status.ScriptTooLong should exact image symbols script out dump = inl (exact tt)
ended status.Memory should exact image symbols script out dump = inr refl
