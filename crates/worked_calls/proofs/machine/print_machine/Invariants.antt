use Rattle.worked_calls.proofs.machine.print_machine.Given as goal

-- the ledger of the calls is the one that is opened for them
abbrev pub ghosts-print_calls : goal.ghosts-print_calls
ghosts-print_calls g a = record { name = a.blank.name; parts = a.blank.parts }
