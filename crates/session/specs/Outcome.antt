-- What a run comes to.
use Rattle.std.specs.Prelude.{ℕ, List}
use Rattle.session.specs.declared.status.Status.{Status}

-- the status, the text, the dumped bytes, and the bytes that were taken of the symbol file and of the script
pub record Outcome : Type 0 where
  pub status : Status
  pub text : List ℕ
  pub dumped : List ℕ
  pub symbols_taken : List ℕ
  pub script_taken : List ℕ
