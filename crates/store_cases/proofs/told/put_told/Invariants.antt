use Rattle.store_cases.proofs.told.put_told.Given as goal

-- the history is the one that was just made
abbrev pub ghosts-told : goal.ghosts-told
ghosts-told g a = record { history = a.blank.history }
