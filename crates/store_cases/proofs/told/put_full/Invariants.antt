use Rattle.store_cases.proofs.told.put_full.Given as goal

-- the history is the one that was just made
abbrev pub ghosts-is_full : goal.ghosts-is_full
ghosts-is_full g a = record { history = a.blank.history }
