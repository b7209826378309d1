use Rattle.store_cases.proofs.history.put_history_told.Given as goal

-- the history is the one that was just made
abbrev pub ghosts-told : goal.ghosts-told
ghosts-told a = record { history = a.blank.history }
