use Rattle.worked_cases.proofs.run.run_once.Given as goal

-- the ledger of the run is the one that is opened for it
abbrev pub ghosts-run_with : goal.ghosts-run_with
ghosts-run_with a = record { name = a.blank.name; parts = a.blank.parts }
