-- What failed, and that nothing did.
use Rattle.std.specs.Prelude.{◌≡◌, ℕ}
use Rattle.layer_base.specs.Counts.{HasCause, Rose}
use Rattle.session.specs.declared.status.Status.{Status}
use Rattle.session.specs.declared.status.Status.TheVariants as status

-- the count of none of the objects rose
pub record NothingFailed (image image' symbols symbols' script script' out out' dump dump' : ℕ) : Type 0 where
  pub image_kept : ¬ Rose image image'
  pub symbols_kept : ¬ Rose symbols symbols'
  pub script_kept : ¬ Rose script script'
  pub out_kept : ¬ Rose out out'
  pub dump_kept : ¬ Rose dump dump'

-- each fault of a script comes only where a call on that object failed
pub record FaultsHaveCause (image image' script script' out out' dump dump' : ℕ) (end : Status) : Type 0 where
  pub image_cause : HasCause image image' (end ≡ status.ImageFault)
  pub script_cause : HasCause script script' (end ≡ status.ScriptFault)
  pub out_cause : HasCause out out' (end ≡ status.OutFault)
  pub dump_cause : HasCause dump dump' (end ≡ status.DumpFault)
