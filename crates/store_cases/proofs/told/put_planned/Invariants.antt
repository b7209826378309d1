use Rattle.store_cases.proofs.told.put_planned.Given as goal

-- the history is the one that was just made
abbrev pub ghosts-failed : goal.ghosts-failed
ghosts-failed g a = record { history = a.blank.history }
