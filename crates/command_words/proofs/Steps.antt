-- What a step that failed says of the whole.
use Rattle.std.proofs.Common.{◌≡◌, Result, Ok, Err}
use Rattle.std.specs.Result.{IsErrAnd}
use Rattle.std.proofs.lemmas.Result.{err_from_is_err_and}
use Rattle.command_words.specs.Answer.{◌>>=◌, RefusesAs, Gives}
use Rattle.command_words.specs.declared.fault.LineFault.{LineFault}
use Rattle.command_words.specs.declared.fault.LineFault.TheVariants.{TooLong, Unknown, Words, SpaceName, Number, Hex, Range, Memory}

-- the whole has the fault of a step that makes it fail
pub RefusesAs-through : {A B : Type 0} (fault : LineFault) (step : Result A LineFault) (whole : Result B LineFault) → (step ≡ Err fault → whole ≡ Err fault) → RefusesAs fault step → RefusesAs fault whole
RefusesAs-through TooLong step whole fails refused = fails refused
RefusesAs-through Unknown step whole fails refused = fails refused
RefusesAs-through (Words wanted) step whole fails refused = fails refused
RefusesAs-through SpaceName step whole fails refused = fails refused
RefusesAs-through Number step whole fails refused = fails refused
RefusesAs-through Hex step whole fails refused = fails refused
RefusesAs-through Range step whole fails refused = fails refused
RefusesAs-through Memory step whole fails refused = tt

-- a fault that is the whole's own
pub RefusesAs-own : {A : Type 0} (fault : LineFault) (whole : Result A LineFault) → whole ≡ Err fault → RefusesAs fault whole
RefusesAs-own TooLong whole is = is
RefusesAs-own Unknown whole is = is
RefusesAs-own (Words wanted) whole is = is
RefusesAs-own SpaceName whole is = is
RefusesAs-own Number whole is = is
RefusesAs-own Hex whole is = is
RefusesAs-own Range whole is = is
RefusesAs-own Memory whole is = tt

pub then-fails : {A B : Type 0} (step : Result A LineFault) (next : A → Result B LineFault) (fault : LineFault) → step ≡ Err fault → (step >>= next) ≡ Err fault
then-fails (Ok value) next fault is = cc
then-fails (Err cause) next fault is = cc

-- the first step failed
pub RefusesAs-first : {A B : Type 0} (fault : LineFault) (step : Result A LineFault) (next : A → Result B LineFault) → RefusesAs fault step → RefusesAs fault (step >>= next)
RefusesAs-first fault step next refused = RefusesAs-through fault step (step >>= next) (λ is. then-fails step next fault is) refused

-- the exit of a `?`, where the whole has the fault
pub Gives-own : {A : Type 0} (fault : LineFault) (answer whole : Result A LineFault) → IsErrAnd answer (λ cause. cause ≡ fault) → whole ≡ Err fault → Gives answer whole
Gives-own fault answer whole exit is = let p = err_from_is_err_and answer exit in rw (p.1, p.2) (RefusesAs-own fault whole is)

-- the exit of a `?` on a step that makes the whole fail
pub Gives-through : {A B : Type 0} (fault : LineFault) (step : Result A LineFault) (answer whole : Result B LineFault) → IsErrAnd answer (λ cause. cause ≡ fault) → (step ≡ Err fault → whole ≡ Err fault) → RefusesAs fault step → Gives answer whole
Gives-through fault step answer whole exit fails refused = let p = err_from_is_err_and answer exit in rw (p.1, p.2) (RefusesAs-through fault step whole fails refused)
