-- What a call that reads a line or a word of it answers.
use Rattle.std.specs.Prelude.{◌≡◌, Result, Ok, Err}
use Rattle.command_words.specs.declared.fault.LineFault.{LineFault}
use Rattle.command_words.specs.declared.fault.LineFault.TheVariants.{Memory}

-- the second step, where the first gave a value; else the fault of the first
infixl 10 ◌>>=◌
abbrev pub ◌>>=◌ : {A B : Type 0} → Result A LineFault → (A → Result B LineFault) → Result B LineFault
Ok value >>= next = next value
Err fault >>= next = Err fault

-- a fault is the defined one; out of memory says nothing
abbrev pub RefusesAs : {A : Type 0} → LineFault → Result A LineFault → Type 0
RefusesAs Memory defined = Unit {0}
RefusesAs fault defined = defined ≡ Err fault

-- an answer is the defined one, unless memory ran out
abbrev pub Gives : {A : Type 0} → Result A LineFault → Result A LineFault → Type 0
Gives (Ok value) defined = defined ≡ Ok value
Gives (Err fault) defined = RefusesAs fault defined
