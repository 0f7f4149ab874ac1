-- A run over a made image.
use Rattle.std.specs.Prelude.{◌≡◌, ◌==◌, ℕ, Bool, true, false, List, [], ◌∷◌, ◌++◌, codes, decimal, filter, length, Option}
use Rattle.std.specs.Io.KnownBytes.{Appends}
use Rattle.layer_base.specs.Known.{AppendsPrefix}
use Rattle.layer_base.specs.View.View.{File}
use Rattle.layer_base.specs.declared.layer.Kind.TheVariants.{Lime}
use Rattle.image_maker.specs.Image.{made_image}
use Rattle.image_maker.specs.Script.{made_script}
use Rattle.image_maker.specs.Symbols.{made_symbols}
use Rattle.session.specs.Outcome.{Outcome}
use Rattle.session.specs.Run.{run_of}
use Rattle.session.specs.Status.{IsAnswer, number_of_status}
use Rattle.session.specs.declared.status.Status.{Status}
use Rattle.session.specs.declared.status.Status.TheVariants as status

-- words that name an image, a symbol file and a file for dumps
abbrev pub three_words : List (List ℕ)
three_words = codes "made" ∷ codes "made" ∷ codes "made" ∷ []

-- what a run comes to over the made image of a number, its symbol file and its script
unfoldable pub made_run : ℕ → Outcome
made_run number = run_of three_words (Lime ∷ []) (File (made_image number)) (made_symbols number) made_script

-- how many lines a text has, each of which ends with a newline
abbrev pub line_count : List ℕ → ℕ
line_count text = length (filter (λ byte. byte == 10) text)

-- the number of the image, the status of a run over it, how many lines it printed, and how many bytes it dumped
unfoldable pub outcome_cells : ℕ → Status → ℕ → ℕ → List ℕ
outcome_cells number end lines dumped =
    codes "made " ++ decimal number ++ codes ": status " ++ decimal (number_of_status end) ++ codes ", "
    ++ decimal lines ++ codes " lines, " ++ decimal dumped ++ codes " dumped\n"

abbrev pub outcome_line : ℕ → Outcome → List ℕ
outcome_line number outcome = outcome_cells number outcome.status (line_count outcome.text) (length outcome.dumped)

abbrev pub made_line : ℕ → List ℕ
made_line number = outcome_line number (made_run number)

-- a run over a made image ends as a run does whose objects never fail, unless the output fails or memory runs out
abbrev pub IsMadeEnd : Status → Type 0
IsMadeEnd status.OutFault = Unit {0}
IsMadeEnd status.Memory = Unit {0}
IsMadeEnd end = IsAnswer end

-- A front of the line of a made run was appended. Under an answer that is the status of the run, and it is the whole line.
pub record RanMade (number : ℕ) (old new : Option (List ℕ)) (end : Status) : Type 0 where
  pub front : AppendsPrefix old new (made_line number)
  pub status_is : IsAnswer end → end ≡ (made_run number).status
  pub exact : IsAnswer end → Appends old new (made_line number)
  pub is_end : IsMadeEnd end

-- whether a status is an answer
abbrev pub SaysAnswer : Bool → Status → Type 0
SaysAnswer true end = IsAnswer end
SaysAnswer false end = ¬ IsAnswer end

-- what a run printed and dumped, where it came to an answer
pub record CameTo (outcome : Outcome) (end : Status) (text dumped : List ℕ) : Type 0 where
  pub status_is : end ≡ outcome.status
  pub printed : text ≡ outcome.text
  pub dumped_is : dumped ≡ outcome.dumped
