use Rattle.memlens.proofs.main.Given as goal

-- the ledger of the run is the one that is opened for it
abbrev pub ghosts-run_files : goal.ghosts-run_files
ghosts-run_files a = record { name = a.blank.name; parts = a.blank.parts }
