-- What a run over a made image came to, and the line that tells it.
use Rattle.std.proofs.Common.{◌≡◌, ℕ, ◌≤◌, List, [], ◌∷◌, Option, None, Some, Result, Ok, Err, subst, ap, ◌∙◌}
use Rattle.layer_base.specs.Known.{Writes}
use Rattle.layer_base.specs.View.{View}
use Rattle.layer_base.specs.View.View.{File}
use Rattle.layer_base.specs.declared.layer.Kind.TheVariants.{Lime}
use Rattle.layer_base.specs.declared.sink.SinkFault.{SinkFault}
use Rattle.layer_base.specs.declared.sink.SinkFault.TheVariants as sink
use Rattle.layer_base.proofs.Appending.{StartsWith-same}
use Rattle.image_maker.specs.Image.{made_image}
use Rattle.image_maker.specs.Script.{made_script}
use Rattle.image_maker.specs.Symbols.{made_symbols}
use Rattle.session.specs.Made.{CameTo, IsMadeEnd, RanMade, made_line, made_run, outcome_line, three_words}
use Rattle.session.specs.Outcome.{Outcome}
use Rattle.session.specs.Ran.{RanOver}
use Rattle.session.specs.Run.{run_of}
use Rattle.session.specs.Said.{Said, text_part, dump_part}
use Rattle.session.specs.Status.{IsAnswer, status_after_line}
use Rattle.session.specs.declared.status.Status.{Status}
use Rattle.session.specs.declared.status.Status.TheVariants as status
use Rattle.session.proofs.Projections.{part-exact}

-- the view that is told
abbrev shown : Option View → View
shown None = File []
shown (Some view) = view

module _ (text dumped : List ℕ) (end : Status) (answer : IsAnswer end) where
  -- under an answer, empty sinks were given the whole of what the run prints and dumps
  came : (says : List ℕ → Said) (outcome : Outcome) (script : List ℕ) (left : Option (List ℕ)) → RanOver says outcome script left (Some []) (Some text) (Some []) (Some dumped) end → CameTo outcome end text dumped
  came says outcome script left ran = record {
    status_is = ran.status_is answer;
    printed = part-exact (text_part says) outcome.text ran.given (Some []) (Some text) end ran.text answer;
    dumped_is = part-exact (dump_part says) outcome.dumped ran.given (Some []) (Some dumped) end ran.dumped answer;
  }

  -- sinks that were empty
  pub came-from : (says : List ℕ → Said) (outcome : Outcome) (script : List ℕ) (left : Option (List ℕ)) (before before' : List ℕ) → RanOver says outcome script left (Some before) (Some text) (Some before') (Some dumped) end → before ≡ [] → before' ≡ [] → CameTo outcome end text dumped
  came-from says outcome script left before before' ran none none' =
      came says outcome script left (subst (λ d. RanOver says outcome script left (Some []) (Some text) (Some d) (Some dumped) end) none'
      (subst (λ o. RanOver says outcome script left (Some o) (Some text) (Some before') (Some dumped) end) none ran))

  -- over the made image of a number
  pub came-made : (number : ℕ) (words : List (List ℕ)) (view : View) (image symbols script : List ℕ) → words ≡ three_words → Some view ≡ Some (File image) → image ≡ made_image number → symbols ≡ made_symbols number → script ≡ made_script
      → CameTo (run_of words (Lime ∷ []) view symbols script) end text dumped → CameTo (made_run number) end text dumped
  unfolding made_run
  came-made number words view image symbols script of_words of_view of_image of_symbols of_script came =
      let shows : view ≡ File (made_image number) = ap shown of_view ∙ ap File of_image in
      subst (λ w. CameTo (run_of w (Lime ∷ []) (File (made_image number)) (made_symbols number) made_script) end text dumped) of_words
      (subst (λ v. CameTo (run_of words (Lime ∷ []) v (made_symbols number) made_script) end text dumped) shows
      (subst (λ j. CameTo (run_of words (Lime ∷ []) view j made_script) end text dumped) of_symbols
      (subst (λ s. CameTo (run_of words (Lime ∷ []) view symbols s) end text dumped) of_script came)))

-- an answer is an end of a run over a made image
answer-ends : (end : Status) → IsAnswer end → IsMadeEnd end
answer-ends status.Ok answer = answer
answer-ends status.Usage answer = answer
answer-ends status.ImageRefused answer = answer
answer-ends status.SymbolsRefused answer = answer
answer-ends status.ImageFault answer = absurd answer
answer-ends status.SymbolsFault answer = absurd answer
answer-ends status.ScriptFault answer = absurd answer
answer-ends status.OutFault answer = absurd answer
answer-ends status.DumpFault answer = absurd answer
answer-ends status.ScriptTooLong answer = answer
answer-ends status.Memory answer = absurd answer

module _ (number : ℕ) (old new : Option (List ℕ)) (end : Status) (text dumped : List ℕ) (answer : IsAnswer end) (came : CameTo (made_run number) end text dumped) where
  -- the line was written, or a front of it
  pub told-made : (written : Result (Unit {0}) SinkFault) → ((outcome : Outcome) → CameTo outcome end text dumped → Writes old new written (outcome_line number outcome)) → RanMade number old new (status_after_line end written)
  told-made (Ok _) writes = record {
    front = (made_line number, writes (made_run number) came, StartsWith-same (made_line number));
    status_is = λ answer. came.status_is;
    exact = λ answer. writes (made_run number) came;
    is_end = answer-ends end answer;
  }
  told-made (Err sink.Failed) writes = record { front = writes (made_run number) came; status_is = λ answer. absurd answer; exact = λ answer. absurd answer; is_end = tt }
  told-made (Err sink.Memory) writes = record { front = writes (made_run number) came; status_is = λ answer. absurd answer; exact = λ answer. absurd answer; is_end = tt }
