use Rattle.std.specs.Io.KnownBytes.{Keeps}
use Rattle.real_files.proofs.calls.read_next.Given as goal

-- a call that was interrupted took nothing
abbrev pub invariant-loop : goal.invariant-loop
invariant-loop g l = Keeps (g.F.Read.remaining l.initial.file) (g.F.Read.remaining l.file)
