use Rattle.store_cases.proofs.answer.put_hits.Given as goal

-- the history is the one that was just made
abbrev pub ghosts-hits_shared : goal.ghosts-hits_shared
ghosts-hits_shared g a = record { history = a.blank.history }
