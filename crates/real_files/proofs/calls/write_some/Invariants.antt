use Rattle.std.specs.Io.KnownBytes.{Keeps}
use Rattle.real_files.proofs.calls.write_some.Given as goal

-- a call that was interrupted appended nothing
abbrev pub invariant-loop : goal.invariant-loop
invariant-loop g l = Keeps (g.F.Write.contents l.initial.file) (g.F.Write.contents l.file)
