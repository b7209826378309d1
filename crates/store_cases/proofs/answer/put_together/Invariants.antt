use Rattle.store_cases.proofs.answer.put_together.Given as goal

-- the history is the one that was just made
abbrev pub ghosts-work_together : goal.ghosts-work_together
ghosts-work_together g a = record { history = a.blank.history }
