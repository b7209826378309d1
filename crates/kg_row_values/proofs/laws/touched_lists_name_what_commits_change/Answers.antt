use Rattle.kg_row_values.proofs.CommitLemmas.{named_gens, named_keys}
use Rattle.kg_row_values.proofs.laws.touched_lists_name_what_commits_change.Goals as goal

pub returns-clause-keys : goal.returns-clause-keys
returns-clause-keys c = λ eq history from lists exact touched. named_keys history eq exact from lists touched

pub returns-clause-gens : goal.returns-clause-gens
returns-clause-gens c = λ eq history from lists exact touched. named_gens history eq exact from lists touched
